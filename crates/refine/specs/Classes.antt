-- Classes of numbered states: the node of each class, and how many there are.
use Rattle.std.specs.Prelude.{ℕ, zero, suc, ◌+◌, ◌<◌, Bool, true, false, List, length, ◌==◌, slice_index}
use Rattle.kripke.specs.declared.node.Node.{Node}

-- The node of each state's class is a node of the table.
abbrev pub Here : ℕ → List ℕ → List ℕ → List Node → Type 0
Here n class node ns = (s : ℕ) → s < n → slice_index node (slice_index class s) < length ns

-- How many of the first n states are the least of their class.
abbrev pub bit : Bool → ℕ
bit true = 1
bit false = 0

abbrev pub sum : (ℕ → ℕ) → ℕ → ℕ
sum g zero = 0
sum g (suc n) = g n + sum g n

unfoldable pub leaders : List ℕ → ℕ → ℕ
leaders class n = sum (λ i. bit (slice_index class i == i)) n
