use Rattle.std.proofs.Common.{rules, sym, arith}
use Rattle.kripke.specs.declared.refusal.Cause.TheVariants.{LongChain}
use Rattle.image.specs.Loading.{chain}
use Rattle.image.specs.Image.{Chain, first, most_successors}
use Rattle.image.proofs.Runs.{all_held}
use Rattle.image.proofs.Walks.{at_most, not_empty}
use Rattle.image.proofs.stored.load.row.Goals as goal

pub invariant_of-result : goal.invariant_of-result
invariant_of-result g c =
    let took = c.take.ensures in
    let from = c.chain.ensures in
    let img = c.args.image.now.linked.records.image.now in
    let s = c.args.s in
    let held : Chain img (first img s) c.extend.new.self.items =
    rw (sym from.first, sym from.linked, sym took.source)
    (all_held c.take.result c.new-next.result.items c.extend.new.self.items c.new-next.ensures most_successors took.count
    (rw (took.source, took.count, from.linked, from.first) (λ w. c.args.image.now.clean LongChain _ (chain (omega arith) w)))
    c.extend.result c.extend.ensures.ran c.extend.ensures.full c.extend.ensures.one_more) in
    record {
      some = not_empty held (c.args.image.now.linked.firsts s (omega arith)).0;
      narrow = at_most most_successors (λ w. c.args.image.now.clean LongChain _ (chain (omega arith) w)) held;
    }

pub returns-clause-shown : goal.returns-clause-shown
returns-clause-shown g c =
    let took = c.take.ensures in
    let from = c.chain.ensures in (
      Prim.search rules,
      rw (sym from.first, sym from.linked, sym took.source)
          (all_held c.take.result c.new-next.result.items c.extend.new.self.items c.new-next.ensures most_successors took.count
          (rw (took.source, took.count, from.linked, from.first) (λ w. c.args.image.now.clean LongChain _ (chain (omega arith) w)))
          c.extend.result c.extend.ensures.ran c.extend.ensures.full c.extend.ensures.one_more),
    )
