-- The table that is kept with a refinement: once closed as different it separates the initial states, in order and with every node a part of the root; else it is empty.
use Rattle.std.specs.Prelude.{◌≡◌, ℕ, ◌+◌, ◌-◌, ◌*◌, ◌<◌, ◌≤◌, T, List, length}
use Rattle.kripke.specs.Rounds.{total, ClosedDifferent}
use Rattle.kripke.specs.declared.node.Node.{Node}
use Rattle.refine.specs.Growth.{Orderly}
use Rattle.refine.specs.Refinements.{first, second, questions}
use Rattle.refine.specs.declared.refinement.Refinement.{Refinement}
use Rattle.compare.specs.Closing.{separates_by_test}
use Rattle.compare.specs.Reach.{Reach}

pub record Kept (r : Refinement) (ns : List Node) : Type 0 where
  pub few : length ns + 3 ≤ 4 * total (first r) (second r)
  pub orderly : Orderly (questions r) ns
  pub useful : (i : ℕ) → i < length ns → ∥ Reach ns (length ns - 1) i ∥₁
  pub none : ¬ ClosedDifferent (first r) (second r) r.rounds → length ns ≡ 0
  pub separating : ClosedDifferent (first r) (second r) r.rounds → T (separates_by_test (first r) (second r) r.rounds ns)
