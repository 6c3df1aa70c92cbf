use Rattle.std.proofs.Common.{◌≡◌, ℕ, ◌<◌, false, length, get_or}
use Rattle.kripke.specs.Rounds.{total}
use Rattle.refine.specs.Pairs.{first_of, second_of}
use Rattle.refine.proofs.pair.Pair.ask.Given as goal

abbrev pub invariant-loop-i : goal.invariant-loop-i
invariant-loop-i g l =
    (length l.row ≡ 512) × (l.i-end ≡ total (first_of l.self) (second_of l.self))
    × ((j : ℕ) → j < l.i → g.F.Fn.post l.question (j, tt) (get_or l.row j false))
