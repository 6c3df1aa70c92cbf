use Rattle.std.proofs.Common.{ℕ, List, refl, rules, tests}
use Rattle.std.proofs.lemmas.Iterator.{YieldsList-from_range}
use Rattle.std.proofs.lemmas.Iterator.Search.{all_from_yields_List, any_from_yields_List}
use Rattle.kripke.specs.Structure.{or_first, successors}
use Rattle.evaluator.specs.Marks.{marks}
use Rattle.evaluator.proofs.Members.{all_places, any_places}
use Rattle.evaluator.proofs.operators.onward.Goals as goal

pub returns-in-Exists : goal.returns-in-Exists
returns-in-Exists g c =
    let xs : List ℕ = successors (g.M.Model.meaning c.args.model.now) c.args.s in
    rw c.in-Exists.is
    (any_places (marks c.args.row.now) xs _ _ c.degree.ensures
    (any_from_yields_List (λ i. marks c.args.row.now (or_first xs i 0)) _ _ _ c.any.ensures.ran
    (YieldsList-from_range 0 c.degree.result c.degree.result refl (search rules)) (λ i b q k. search (rules, tests))))

pub returns-in-ForAll : goal.returns-in-ForAll
returns-in-ForAll g c =
    let xs : List ℕ = successors (g.M.Model.meaning c.args.model.now) c.args.s in
    rw c.in-ForAll.is
    (all_places (marks c.args.row.now) xs _ _ c.degree.ensures
    (all_from_yields_List (λ i. marks c.args.row.now (or_first xs i 0)) _ _ _ c.all.ensures.ran
    (YieldsList-from_range 0 c.degree.result c.degree.result refl (search rules)) (λ i b q k. search (rules, tests))))
