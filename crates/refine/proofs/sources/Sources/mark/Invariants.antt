use Rattle.std.proofs.Common.{◌≡◌, ℕ, ◌<◌, ◌≤◌, ◌||◌, length}
use Rattle.refine.specs.Chains.{has, chain}
use Rattle.refine.specs.Sources.{leading}
use Rattle.refine.specs.Steps.{at}
use Rattle.refine.proofs.sources.Sources.mark.Given as goal

abbrev pub invariant-loop-place : goal.invariant-loop-place
invariant-loop-place l =
    (length l.row ≡ 512) × (l.place ≤ length l.self.steps.items)
    × ((x : ℕ) → x < 512 → (has x (chain l.self.steps.items l.place l.place) || at l.row x) ≡ (has x (leading l.self l.t) || at l.fn.row x))

abbrev pub decreases-loop-place : goal.decreases-loop-place
decreases-loop-place l = l.place
