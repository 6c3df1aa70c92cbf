use Rattle.std.proofs.Common.{rules, tests}
use Rattle.std.proofs.lemmas.Iterator.{first_from_Range}
use Rattle.image.specs.Loading.{GoodState}
use Rattle.image.proofs.records.Records.first_bad_state.Goals as goal

pub returns : goal.returns
returns g c =
    let Good = GoodState g.L.Coded.coding c.args.self.now.image.now in
    first_from_Range _ _ _ _ (λ s. ¬ Good s) Good c.find.ensures.ran
    (λ s q k. Prim.search (rules, tests))
    (λ s q k. (Prim.search rules, Prim.search (rules, tests)))
