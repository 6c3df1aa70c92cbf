-- The table of a node's parts alone, renumbered.
use Rattle.std.specs.Prelude.{◌≡◌, ℕ, ◌+◌, ◌-◌, ◌<◌, ◌≤◌, Bool, cond, List, length, slice_index, Some, None, Option}
use Rattle.kripke.specs.Nodes.{formula}
use Rattle.kripke.specs.Nodes as nodes
use Rattle.kripke.specs.declared.node.Node.{Node}
use Rattle.refine.specs.Growth.{Orderly}
use Rattle.compare.specs.Reach.{uses_a, uses_b, Reach}

-- A number that a node uses, as an operand.
abbrev pub named : Bool → ℕ → Option ℕ
named used x = cond used (Some x) None

-- The node with the numbers that `to` has for what it names.
abbrev pub rename : List ℕ → Node → Node
rename to n = record { code = n.code; a = cond (uses_a n) (slice_index to n.a) n.a; b = cond (uses_b n) (slice_index to n.b) n.b }

-- A table in order for q questions, whose root means what the node meant, and has every node for a part.
pub record Pruned (q : ℕ) (ns : List Node) (root : ℕ) (ms : List Node) : Type 0 where
  pub some : 1 ≤ length ms
  pub few : length ms ≤ root + 1
  pub orderly : Orderly q ms
  pub same : nodes.root ms ≡ formula ns root
  pub useful : (k : ℕ) → k < length ms → Reach ms (length ms - 1) k
