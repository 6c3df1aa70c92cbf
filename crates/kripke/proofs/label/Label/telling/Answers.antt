use Rattle.std.proofs.Common.{rules, tests, sym, ◌∙◌}
use Rattle.std.proofs.lemmas.Iterator.{first_from_Range}
use Rattle.kripke.specs.Telling.{Agree}
use Rattle.kripke.proofs.Tellings.{telling_found}
use Rattle.kripke.proofs.label.Label.telling.Goals as goal

-- the laws of the two labels
pub returns : goal.returns
returns g c =
    let xs = g.Self.Label.answers c.args.self.now in
    let ys = g.Self.Label.answers c.args.other.now in
    let law = g.met.Self.Label.answered in
    telling_found xs ys c.questions.result (law _ ∙ sym c.questions.ensures) (law _ ∙ sym c.questions.ensures) c.find.result
    (first_from_Range _ _ _ _ (λ i. ¬ Agree xs ys i) (Agree xs ys) c.find.ensures.ran
    (λ i q k. Prim.search (rules, tests))
    (λ i q k. (Prim.search rules, Prim.search (rules, tests))))
