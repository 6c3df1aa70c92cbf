use Rattle.std.proofs.Common.{◌≡◌, ℕ, ◌<◌, ◌↔◌, false, length, get_or}
use Rattle.refine.specs.Steps.{at}
use Rattle.refine.proofs.rounds.changed.Given as goal

abbrev pub invariant-loop-s : goal.invariant-loop-s
invariant-loop-s l = (length l.marks ≡ 512) × (l.s-end ≡ l.states)
    × ((c : ℕ) → at l.marks c ≡ false → (j : ℕ) → j < l.s → (get_or l.fn.class j 0 ≡ c) ↔ (get_or l.fn.before j 0 ≡ c))
