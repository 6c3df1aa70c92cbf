use Rattle.std.proofs.Common.{refl, arith}
use Rattle.refine.proofs.Turned.{entered_more}
use Rattle.refine.proofs.sources.Sources.enter_all.Goals as goal

pub loop-v-preserved : goal.loop-v-preserved
loop-v-preserved c = (
  refl,
  omega (arith, c.enter.ensures.long, c.loop-v.invariant.1),
  entered_more c.args.self.now c.loop-v.self c.enter.new.self c.args.s c.args.low c.args.next.now c.loop-v.v-index c.loop-v-test.true c.loop-v.invariant.2 c.enter.ensures.entered,
)
