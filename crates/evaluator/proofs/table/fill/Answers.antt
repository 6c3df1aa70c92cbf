use Rattle.std.proofs.Common.{arith, rules}
use Rattle.evaluator.specs.Marks.{marks}
use Rattle.evaluator.proofs.Filling.{none_filled, one_filled}
use Rattle.evaluator.proofs.table.fill.Goals as goal

pub loop-i-init : goal.loop-i-init
loop-i-init g c = none_filled _ _ _

pub loop-i-preserved : goal.loop-i-preserved
loop-i-preserved g c =
    one_filled _ _ (g.met.M.Model.lawful c.args.model.now) c.args.nodes.now c.loop-i.i _ _ _ _ (marks c.operand-a.result) (marks c.operand-b.result)
    c.requires.lawful (search rules) (omega arith) (omega arith) (omega (arith, c.write.auto.words))
    (search rules) (search rules) c.write.ensures c.loop-i.invariant
