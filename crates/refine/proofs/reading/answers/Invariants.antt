use Rattle.std.proofs.Common.{◌≡◌, take}
use Rattle.refine.proofs.reading.answers.Given as goal

abbrev pub invariant-loop-i : goal.invariant-loop-i
invariant-loop-i g l = (l.i-end ≡ g.L.Label.count) × (l.answers.items ≡ take l.i (g.L.Label.answers l.label))
