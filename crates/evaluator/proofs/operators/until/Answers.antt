use Rattle.std.proofs.Common.{arith, rules}
use Rattle.evaluator.specs.Marks.{marks}
use Rattle.evaluator.proofs.Tallies.{tally_le}
use Rattle.evaluator.proofs.Sweeps.{sown, grew, reaped}
use Rattle.evaluator.proofs.operators.until.Goals as goal

pub loop-quantifier-init : goal.loop-quantifier-init
loop-quantifier-init g c = sown _ _ (g.met.M.Model.lawful c.args.model.now) _ _ _

pub loop-quantifier-preserved : goal.loop-quantifier-preserved
loop-quantifier-preserved g c = grew _ _ _ _ _ _ _ c.loop-quantifier.invariant c.sweep.ensures

pub loop-quantifier-smaller : goal.loop-quantifier-smaller
loop-quantifier-smaller g c =
    let up = c.sweep.ensures.more c.loop-quantifier-test.true in
    let top = tally_le (marks c.sweep.new.row) 256 in
    omega arith

pub returns : goal.returns
returns g c =
    let all = grew _ _ _ _ _ _ _ c.loop-quantifier.invariant c.sweep.ensures in
    let made = reaped _ _ (g.met.M.Model.lawful c.args.model.now) _ _ _ _ all (c.sweep.ensures.still c.loop-quantifier-test.false) in
    search rules
