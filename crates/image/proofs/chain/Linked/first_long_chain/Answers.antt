use Rattle.std.proofs.Common.{rules, tests}
use Rattle.std.proofs.lemmas.Iterator.{first_from_Range}
use Rattle.image.specs.Checks.{LongChain}
use Rattle.image.proofs.chain.Linked.first_long_chain.Goals as goal

pub returns : goal.returns
returns c =
    let Long = LongChain c.args.self.now.records.image.now in
    first_from_Range _ _ _ _ Long (λ s. ¬ Long s) c.find.ensures.ran
    (λ s q k. Prim.search (rules, tests))
    (λ s q k. (Prim.search rules, Prim.search (rules, tests)))
