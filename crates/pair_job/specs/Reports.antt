-- What is reported of two models.
use Rattle.std.specs.Prelude.{ℕ, ◌≤◌, List, Ok, Err, vec_items, Result, Vec}
use Rattle.std.specs.declared.alloc.Global.{Global}
use Rattle.kripke.specs.Structure.{Kripke, Lawful}
use Rattle.kripke.specs.Rounds.{Apart, FirstClosed, total}
use Rattle.kripke.specs.declared.node.Node.{Node}
use Rattle.kripke.specs.declared.refusal.Error.{Error}
use Rattle.kripke.specs.declared.refusal.Error.TheVariants.{Refused, Memory}
use Rattle.kripke.specs.declared.refusal.Refusal.{Refusal}
use Rattle.compare.specs.Answers.{Separating}
use Rattle.compare.specs.Calls.{first, questions, rounds, second}
use Rattle.compare.specs.declared.comparison.Comparison.{Comparison}
use Rattle.report.specs.Text.{alike_text, differ_text, node_count, report_text}
use Rattle.report.specs.declared.report.Report.{Report}

-- The comparison of a and b closes after k rounds, at most as many as there are states, and after no fewer.
-- Then the text reports them alike, and no CTL formula of any size separates their initial states;
-- or different, with the table of a next-only formula of least nesting that holds at the first and fails at the second.
pub data Reports (q : ℕ) (a b : Kripke) : List ℕ → Type 0 where
  alike : (k : ℕ) → k ≤ total a b → FirstClosed a b k → ¬ Apart a b a.initial b.initial → Reports q a b (alike_text k)
  different : (k : ℕ) (ns : List Node) → k ≤ total a b → FirstClosed a b k → Separating a b q k ns → Reports q a b (differ_text k ns)

-- A report of lawful models is never refused.
abbrev pub Reported : ℕ → Kripke → Kripke → Result (Vec ℕ Global) Error → Type 0
Reported q a b (Ok text) = Reports q a b (vec_items text)
Reported q a b (Err (Refused e)) = ⊥
Reported q a b (Err Memory) = Unit {0}

-- The comparison is of lawful models, and closed after its rounds and after no fewer.
pub record Closed (c : Comparison) : Type 0 where
  pub first_lawful : Lawful (questions c) (first c)
  pub second_lawful : Lawful (questions c) (second c)
  pub closed : FirstClosed (first c) (second c) (rounds c)

-- Its report, which is never refused; no text is refused for its number of nodes.
abbrev pub Stands : Comparison → Result Report Refusal → Type 0
Stands c (Ok report) = Reports (questions c) (first c) (second c) (report_text report) × (node_count report ≤ 2045)
Stands c (Err e) = ⊥
