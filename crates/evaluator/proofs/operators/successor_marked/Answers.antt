use Rattle.std.proofs.Common.{arith}
use Rattle.evaluator.proofs.Members.{successor_few}
use Rattle.evaluator.proofs.operators.successor_marked.Goals as goal

pub marked-requires : goal.marked-requires
marked-requires g c = omega (arith, c.successor.ensures, successor_few _ _ (g.met.M.Model.lawful c.args.model.now) c.args.s c.args.i)
