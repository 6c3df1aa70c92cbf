use Rattle.std.proofs.Common.{◌≡◌, ◌+◌, map, take, length}
use Rattle.refine.specs.Sources.{Entered}
use Rattle.refine.proofs.sources.Sources.enter_all.Given as goal

abbrev pub invariant-loop-v : goal.invariant-loop-v
invariant-loop-v l =
    (l.v-index-end ≡ length l.next) × (length l.self.steps.items ≡ length l.fn.self.steps.items + l.v-index)
    × Entered l.fn.self l.self l.s (map (λ v. l.low + v) (take l.v-index l.next))
