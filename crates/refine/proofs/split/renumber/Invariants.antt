use Rattle.std.proofs.Common.{◌≡◌, ℕ, ◌<◌, ◌≤◌, length, get_or}
use Rattle.refine.specs.Steps.{renumbered}
use Rattle.refine.proofs.split.renumber.Given as goal

abbrev pub invariant-loop-t : goal.invariant-loop-t
invariant-loop-t l =
    (length l.number-items ≡ l.states)
    × ((j : ℕ) → j < l.t → get_or l.number-items j 0 ≡ renumbered l.fn.class l.row l.c l.s j)
    × ((j : ℕ) → l.t ≤ j → j < l.states → get_or l.number-items j 0 ≡ get_or l.fn.class j 0)
