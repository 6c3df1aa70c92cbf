-- The parts of a node in a table: the nodes that it reaches.
use Rattle.std.specs.Prelude.{◌≡◌, ℕ, ◌≤◌, Bool, true, false, cond, List, ◌==◌, slice_index_or}
use Rattle.kripke.specs.Nodes.{blank_node}
use Rattle.kripke.specs.declared.node.Node.{Node}

-- Which of its two numbers name nodes, in a next-only table: both for `and`, the first for `not` and EX.
abbrev pub uses_a : Node → Bool
uses_a n = cond (n.code == 0) false (cond (n.code == 1) false true)

abbrev pub uses_b : Node → Bool
uses_b n = n.code == 3

-- Node i is a part of node r: it is r, or named by a part of r.
pub data Reach (ns : List Node) (r : ℕ) : ℕ → Type 0 where
  here : Reach ns r r
  by_a : {j : ℕ} → Reach ns r j → uses_a (slice_index_or ns j blank_node) ≡ true → Reach ns r (slice_index_or ns j blank_node).a
  by_b : {j : ℕ} → Reach ns r j → uses_b (slice_index_or ns j blank_node) ≡ true → Reach ns r (slice_index_or ns j blank_node).b

-- What node i names is marked.
pub record Refs (ns : List Node) (ks : List Bool) (i : ℕ) : Type 0 where
  pub first : uses_a (slice_index_or ns i blank_node) ≡ true → slice_index_or ks (slice_index_or ns i blank_node).a false ≡ true
  pub second : uses_b (slice_index_or ns i blank_node) ≡ true → slice_index_or ks (slice_index_or ns i blank_node).b false ≡ true

-- The marked nodes are parts of the root, which is one of them, and those from i on have had what they name marked.
pub record Marking (ns : List Node) (root i : ℕ) (ks : List Bool) : Type 0 where
  pub top : slice_index_or ks root false ≡ true
  pub closed : (j : ℕ) → i ≤ j → slice_index_or ks j false ≡ true → Refs ns ks j
  pub sound : (j : ℕ) → slice_index_or ks j false ≡ true → Reach ns root j
