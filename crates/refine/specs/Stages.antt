-- Partitions after k rounds.
use Rattle.std.specs.Prelude.{ℕ, zero, suc, ◌<◌, Bool, false, T, ◌==◌}
use Rattle.std.specs.Bool.{beq}
use Rattle.kripke.specs.Structure.{Kripke}
use Rattle.kripke.specs.Tests.{settled}
use Rattle.refine.specs.Tests.{test}
use Rattle.refine.specs.Steps.{class_of, class_formula}
use Rattle.refine.specs.declared.partition.Partition.{Partition}

-- Each class's formula holds exactly at its members, where u is both structures as one.
abbrev pub ExactByTest : Kripke → Partition → Type 0
ExactByTest u p = (t s : ℕ) → t < p.states → s < p.states → T (beq (test u (class_formula p t) s) (class_of p s == class_of p t))

-- The last of k rounds split nothing.
abbrev pub rested : Kripke → Kripke → ℕ → Bool
rested a b zero = false
rested a b (suc k) = settled a b k
