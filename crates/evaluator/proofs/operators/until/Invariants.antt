-- The marks have grown out of those of g; the unmarked grow fewer.
use Rattle.std.proofs.Common.{◌-◌}
use Rattle.evaluator.specs.Marks.{marks, tally}
use Rattle.evaluator.proofs.Sweeps.{Grown}
use Rattle.evaluator.proofs.operators.until.Given as goal

abbrev pub invariant-loop-quantifier : goal.invariant-loop-quantifier
invariant-loop-quantifier g l = Grown (g.M.Model.meaning l.model) l.quantifier (marks l.f) (marks l.initial.row) (marks l.row)

abbrev pub decreases-loop-quantifier : goal.decreases-loop-quantifier
decreases-loop-quantifier g l = 256 - tally (marks l.row) 256
