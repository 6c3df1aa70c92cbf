use Rattle.std.proofs.Common.{◌≡◌, ◌+◌, ◌≤◌, length}
use Rattle.compare.specs.Reach.{Marking}
use Rattle.compare.proofs.prune.reach.Given as goal

abbrev pub invariant-loop-i : goal.invariant-loop-i
invariant-loop-i l = (length l.reached ≡ 2048) × (l.i ≤ l.root + 1) × Marking l.parts.nodes.list.items l.root l.i l.reached
