-- The one refusal of a report.
use Rattle.std.proofs.Common.{◌≡◌, ℕ, ◌≤◌, length, sym, refl, subst, inl, inr, arith}
use Rattle.kripke.specs.Refusals.{Clean, FirstBreach, Before}
use Rattle.kripke.specs.declared.refusal.Cause.{Cause}
use Rattle.kripke.specs.declared.refusal.Cause.TheVariants.{ReportSize}
use Rattle.kripke.specs.declared.refusal.Layer.TheVariants as layer
use Rattle.kripke.specs.declared.refusal.Refusal.{Refusal}
use Rattle.report.specs.Text.{ReportBreach, size, Exceeds, node_count, report_text}
use Rattle.report.specs.declared.report.Report.{Report}

least : (r : Report) (room : ℕ) (d : Cause) (q : ℕ) → Before d q ReportSize 0 → ¬ ReportBreach r room d q
least r room d q (inl l) (size h) = omega (arith, l)
least r room d q (inr (e, l)) (size h) = omega (arith, l)

pub refused : (r : Report) (room : ℕ) (e : Refusal) → e ≡ record { cause = ReportSize; layer = layer.Report; place = 0 } → Exceeds r room → FirstBreach (ReportBreach r room) layer.Report e
refused r room e is h =
    subst (λ (x : Refusal). FirstBreach (ReportBreach r room) layer.Report x) (sym is) (record { broken = size h; least = least r room; layered = refl })

pub accepted : (r : Report) (room : ℕ) → node_count r ≤ 2045 → length (report_text r) ≤ room → Clean (ReportBreach r room)
accepted r room few held d q (size (inl h)) = omega (arith, h, few)
accepted r room few held d q (size (inr h)) = omega (arith, h, held)
