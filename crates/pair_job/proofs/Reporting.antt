-- The text of a report of two lawful models, which is never refused.
use Rattle.std.proofs.Common.{◌≡◌, ℕ, ◌≤◌, length, Ok, Err, vec_items, Result, Vec, sym, subst, inl, inr, arith}
use Rattle.std.specs.declared.alloc.Global.{Global}
use Rattle.kripke.specs.Structure.{Kripke, Lawful}
use Rattle.kripke.specs.Rounds.{Apart, ClosedDifferent, ClosedAfter}
use Rattle.kripke.specs.Refusals.{JudgedInMemory}
use Rattle.kripke.specs.declared.refusal.Cause.{Cause}
use Rattle.kripke.specs.declared.refusal.Error.{Error}
use Rattle.kripke.specs.declared.refusal.Error.TheVariants.{Refused, Memory}
use Rattle.kripke.specs.declared.refusal.Layer.TheVariants as layer
use Rattle.kripke.proofs.Closing.{alike_agree}
use Rattle.compare.specs.Breaches.{VerdictBreach, unclosed, TableBreach, undivided}
use Rattle.report.specs.Text.{ReportBreach, size, node_count, report_text}
use Rattle.report.specs.declared.report.Report.{Report}
use Rattle.pair_job.specs.Reports.{Reports, Reported}

-- A text with bytes enough and few nodes is not refused.
no_breach : (rep : Report) → node_count rep ≤ 2045 → (d : Cause) (p : ℕ) → ¬ ReportBreach rep (length (report_text rep)) d p
no_breach rep h d p (size (inl many)) = omega (arith, h, many)
no_breach rep h d p (size (inr less)) = omega (arith, less)

pub reported : (q : ℕ) (a b : Kripke) (rep : Report) → Reports q a b (report_text rep) → node_count rep ≤ 2045 → (r : Result (Vec ℕ Global) Error)
    → JudgedInMemory r (record { breaches = ReportBreach rep (length (report_text rep)); layer = layer.Report; accepted = λ t. vec_items t ≡ report_text rep; refused = Unit {0} }) → Reported q a b r
reported q a b rep reports few (Ok t) (clean, same) = subst (Reports q a b) (sym same) reports
reported q a b rep reports few (Err (Refused e)) (first, x) = no_breach rep few e.cause e.place first.broken
reported q a b rep reports few (Err Memory) j = tt

-- A closed comparison has a verdict, and one that is not closed as alike has a table.
pub has_verdict : {a b : Kripke} {k : ℕ} {d : Cause} {p : ℕ} → ClosedAfter a b k → ¬ VerdictBreach a b k d p
has_verdict x (unclosed never) = never x

module _ (q : ℕ) (a b : Kripke) (la : Lawful q a) (lb : Lawful q b) (k : ℕ) where
  different : ClosedAfter a b k → Apart a b a.initial b.initial → ClosedDifferent a b k
  different (inl x) apart = x
  different (inr x) apart = absurd (alike_agree q a b la lb k x apart)

  pub has_table : {d : Cause} {p : ℕ} → ClosedAfter a b k → Apart a b a.initial b.initial → ¬ TableBreach a b k d p
  has_table x apart (undivided same) = same (different x apart)
