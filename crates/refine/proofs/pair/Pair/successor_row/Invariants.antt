use Rattle.std.proofs.Common.{◌≡◌, length}
use Rattle.kripke.specs.Rounds.{total}
use Rattle.refine.specs.Pairs.{first_of, second_of, both_of}
use Rattle.refine.proofs.Turned.{Marking}
use Rattle.refine.proofs.pair.Pair.successor_row.Given as goal

abbrev pub invariant-loop-t : goal.invariant-loop-t
invariant-loop-t l =
    (length l.row ≡ 512) × (l.t-end ≡ total (first_of l.self) (second_of l.self))
    × Marking (both_of l.self) l.self.sources (total (first_of l.self) (second_of l.self)) l.class l.c l.t l.row
