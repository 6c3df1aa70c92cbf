use Rattle.std.proofs.Common.{◌≡◌, ◌-◌}
use Rattle.kripke.specs.Rounds.{total, ClosedAfter}
use Rattle.compare.specs.Calls.{SameModels, first, second, rounds}
use Rattle.compare.proofs.comparison.Comparison.close.Given as goal

abbrev pub invariant-loop-self : goal.invariant-loop-self
invariant-loop-self l =
    SameModels l.initial.self l.self × (ClosedAfter (first l.initial.self) (second l.initial.self) (rounds l.initial.self) → l.self ≡ l.initial.self)

abbrev pub decreases-loop-self : goal.decreases-loop-self
decreases-loop-self l = total (first l.self) (second l.self) - rounds l.self
