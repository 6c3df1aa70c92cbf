use Rattle.std.proofs.Common.{vec_items, sym, arith}
use Rattle.image.proofs.Filling.{describes, rows_inside}
use Rattle.image.proofs.stored.StoredModel.take.Goals as goal

pub invariant_of-self : goal.invariant_of-self
invariant_of-self g c =
    let linked = c.in_ok-image.image.linked in
    let filled = c.fill.ensures.filled in
    let n = filled.count in
    record {
      room = c.fill.ensures.room;
      some = omega arith;
      few = omega arith;
      begins = omega arith;
      inside = rows_inside g.L.Label.answers (vec_items c.fill.new.rows) linked.records.initial filled linked.links;
    }

pub returns : goal.returns
returns g c =
    let image = c.in_ok-image.image in
    rw (sym c.in_ok-image.ensures) (
      image.clean,
      (
        describes g.L.Label.answers (vec_items c.fill.new.rows) image.linked.records.initial c.fill.ensures.filled image.linked.records.initial_is,
        c.fill.ensures.filled.coded,
      ),
    )
