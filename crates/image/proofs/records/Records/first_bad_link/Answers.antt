use Rattle.std.proofs.Common.{rules, tests}
use Rattle.std.proofs.lemmas.Iterator.{first_from_Range}
use Rattle.image.specs.Loading.{GoodLink}
use Rattle.image.proofs.records.Records.first_bad_link.Goals as goal

pub returns : goal.returns
returns c =
    let Good = GoodLink c.args.self.now.image.now in
    first_from_Range _ _ _ _ (λ l. ¬ Good l) Good c.find.ensures.ran
    (λ l q k. Prim.search (rules, tests))
    (λ l q k. (Prim.search rules, Prim.search (rules, tests)))
