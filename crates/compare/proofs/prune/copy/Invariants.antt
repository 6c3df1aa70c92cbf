use Rattle.std.proofs.Common.{◌≡◌, length}
use Rattle.compare.proofs.Copies.{Copied}
use Rattle.compare.proofs.prune.copy.Given as goal

abbrev pub invariant-loop-i : goal.invariant-loop-i
invariant-loop-i l = (length l.to ≡ 2048) × Copied l.parts.questions l.parts.nodes.list.items l.reached l.i l.to l.out.list.items
