use Rattle.std.proofs.Common.{◌≡◌, length, arith, rules}
use Rattle.refine.proofs.Rowed.{row_size}
use Rattle.refine.proofs.pair.Pair.states.Goals as goal

pub returns : goal.returns
returns c =
    let p = c.args.self.now in
    let l1 : c.len.result ≡ length p.first.rows.items = search rules in
    let l2 : c.len-2.result ≡ length p.second.rows.items = search rules in
    record {
      value = omega (arith, l1, l2, row_size p.first.initial p.first.rows.items, row_size p.second.initial p.second.rows.items);
      few = omega (arith, l1, l2, p.first.few, p.second.few);
    }
