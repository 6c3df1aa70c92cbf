-- The rows below i are made.
use Rattle.evaluator.specs.Marks.{Filled}
use Rattle.evaluator.proofs.table.fill.Given as goal

abbrev pub invariant-loop-i : goal.invariant-loop-i
invariant-loop-i g l = Filled (g.M.Model.meaning l.model) l.nodes l.i l.initial.words l.words
