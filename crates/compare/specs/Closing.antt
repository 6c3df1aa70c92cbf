-- The closing rule, and the test that a kept formula has to pass: it separates the initial states.
use Rattle.std.specs.Prelude.{ℕ, ◌+◌, Bool, not, ◌&&◌, List, length, nat_le, nat_lt, Some, None, Option}
use Rattle.kripke.specs.Structure.{Kripke, size}
use Rattle.kripke.specs.Ctl.{nesting}
use Rattle.kripke.specs.Nodes.{root}
use Rattle.kripke.specs.Rounds.{ClosedDifferent, ClosedAlike, ClosedAfter}
use Rattle.kripke.specs.Tests.{same}
use Rattle.kripke.specs.Union.{both}
use Rattle.kripke.specs.declared.node.Node.{Node}
use Rattle.refine.specs.Tests.{test}
use Rattle.compare.specs.declared.verdict.Outcome.{Outcome}
use Rattle.compare.specs.declared.verdict.Outcome.TheVariants.{Alike, Different}

-- The initial states are the same after k rounds.
abbrev pub level : Kripke → Kripke → ℕ → Bool
level a b k = same a b k a.initial b.initial

-- The outcome after k rounds, by the closing rule; none while the comparison is open.
abbrev pub Reached : Kripke → Kripke → ℕ → Option Outcome → Type 0
Reached a b k (Some Different) = ClosedDifferent a b k
Reached a b k (Some Alike) = ClosedAlike a b k
Reached a b k None = ¬ ClosedAfter a b k

-- The table's root holds at the first initial state, fails at the second, and nests at most k deep.
abbrev pub separates_by_test : Kripke → Kripke → ℕ → List Node → Bool
separates_by_test a b k ns =
    (nat_lt 0 (length ns) && nat_le (nesting (root ns)) k)
    && (test (both a b) (root ns) a.initial && not (test (both a b) (root ns) (size a + b.initial)))
