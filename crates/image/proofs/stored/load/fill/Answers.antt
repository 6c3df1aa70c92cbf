use Rattle.std.proofs.Common.{refl, arith}
use Rattle.image.proofs.Filling.{filled_none, filled_more}
use Rattle.image.proofs.stored.load.fill.Goals as goal

pub loop-s-init : goal.loop-s-init
loop-s-init g c = (
  refl,
  omega (arith, c.requires, c.clear.ensures.capacity),
  filled_none g.L.Label.answers g.L.Coded.codes g.L.Coded.coding c.args.image.now.linked.records.image.now 0 _ refl c.clear.ensures.items,
)

pub loop-s-preserved : goal.loop-s-preserved
loop-s-preserved g c = (
  refl,
  omega (arith, c.loop-s.invariant.1, c.push_reserved.ensures.capacity),
  filled_more g.L.Label.answers g.L.Coded.codes g.L.Coded.coding c.args.image.now.linked.records.image.now c.loop-s.s _ _ c.row.result c.loop-s.invariant.2 c.row.ensures.shown c.row.ensures.coded c.push_reserved.ensures.items,
)
