use Rattle.std.proofs.Common.{◌≡◌, map, take}
use Rattle.kripke.specs.Structure.{size}
use Rattle.refine.specs.Rows.{state_of}
use Rattle.refine.proofs.reading.rows.Given as goal

abbrev pub invariant-loop-s : goal.invariant-loop-s
invariant-loop-s g l = (l.s-end ≡ size (g.M.Model.meaning l.model)) × (map state_of l.rows.items ≡ take l.s (g.M.Model.meaning l.model).states)
