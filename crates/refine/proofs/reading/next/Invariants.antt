use Rattle.std.proofs.Common.{◌≡◌, length, take}
use Rattle.kripke.specs.Structure.{successors}
use Rattle.refine.proofs.reading.next.Given as goal

abbrev pub invariant-loop-i : goal.invariant-loop-i
invariant-loop-i g l = (l.i-end ≡ length (successors (g.M.Model.meaning l.model) l.s)) × (l.next.items ≡ take l.i (successors (g.M.Model.meaning l.model) l.s))
