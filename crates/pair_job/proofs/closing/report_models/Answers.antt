use Rattle.std.proofs.Common.{◌≡◌, ℕ, sym, ◌∙◌, subst}
use Rattle.kripke.specs.Structure.{Kripke, Lawful}
use Rattle.report.specs.Text.{report_text}
use Rattle.pair_job.specs.Reports.{Reports}
use Rattle.pair_job.proofs.Reporting.{reported}
use Rattle.pair_job.proofs.closing.report_models.Goals as goal

-- What holds of equal structures and their questions.
moved : (P : ℕ → Kripke → Kripke → Type 0) {p q : ℕ} {a b c d : Kripke} → p ≡ q → a ≡ c → b ≡ d → P p a b → P q c d
moved P {p} {q} {a} {b} {c} {d} e f g x = subst (λ (n : ℕ). P n c d) e (subst (λ (z : Kripke). P p c z) g (subst (λ (z : Kripke). P p z b) f x))

pub report-requires : goal.report-requires
report-requires g c =
    let o = c.open-comparison.ensures in
    let s = c.close.ensures.same in
    let q = sym (s.questions_is ∙ o.questions_is) in
    let a = sym (s.first_is ∙ o.first_is) in
    let b = sym (s.second_is ∙ o.second_is) in
    record {
      first_lawful = moved (λ n x y. Lawful n x) q a b (g.met.M.Model.lawful c.args.first.now);
      second_lawful = moved (λ n x y. Lawful n y) q a b (g.met.N.Model.lawful c.args.second.now);
      closed = c.close.ensures.closed;
    }

pub returns : goal.returns
returns g c =
    let o = c.open-comparison.ensures in
    let s = c.close.ensures.same in
    let report = c.in_ok-report.field-0 in
    reported _ _ _ report
    (moved (λ n x y. Reports n x y (report_text report)) (s.questions_is ∙ o.questions_is) (s.first_is ∙ o.first_is) (s.second_is ∙ o.second_is) c.in_ok-report.ensures.0)
    c.in_ok-report.ensures.1 c.report_text.result c.report_text.ensures
