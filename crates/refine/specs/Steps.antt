-- What one split does to a partition.
use Rattle.std.specs.Prelude.{◌≡◌, ℕ, suc, ◌<◌, ◌≤◌, Bool, false, cond, ◌&&◌, ◌↔◌, List, ◌==◌, slice_index, slice_index_or}
use Rattle.std.specs.Bool.{beq}
use Rattle.kripke.specs.Ctl.{Formula, nesting}
use Rattle.kripke.specs.Nodes.{made, formulas, formula}
use Rattle.kripke.specs.declared.node.Node.{Node}
use Rattle.refine.specs.Growth.{Extends, Boolean}
use Rattle.kripke.specs.Classes.{Alike}
use Rattle.refine.specs.declared.partition.Partition.{Partition}

abbrev pub at : List Bool → ℕ → Bool
at row s = slice_index_or row s false

-- The formula of a node; the class number of a state; the formula of a state's class.
abbrev pub node_formula : Partition → ℕ → Formula
node_formula p i = formula p.nodes.list.items i

abbrev pub class_of : Partition → ℕ → ℕ
class_of p s = slice_index p.class s

abbrev pub class_formula : Partition → ℕ → Formula
class_formula p s = node_formula p (slice_index p.node (class_of p s))

-- Under the valuation each class's formula holds exactly at its members.
abbrev pub Exact : (Formula → ℕ → Bool) → Partition → Type 0
Exact v p = (t s : ℕ) → t < p.states → s < p.states → v (class_formula p t) s ≡ (class_of p s == class_of p t)

-- The classes' formulas nest at most d deep.
abbrev pub Shallow : ℕ → Partition → Type 0
Shallow d p = (t : ℕ) → t < p.states → nesting (class_formula p t) ≤ d

-- The number of t once the states of class c that agree with s on the row have the number s.
abbrev pub renumbered : List ℕ → List Bool → ℕ → ℕ → ℕ → ℕ
renumbered class row c s t = cond (slice_index class t == c && beq (at row t) (at row s)) s (slice_index class t)

-- The formula of a test that the partition's nodes do not have yet.
abbrev pub own : Partition → Node → Formula
own p test = made (formulas p.nodes.list.items) test

-- The formula holds where the row says yes.
abbrev pub Values : (Formula → ℕ → Bool) → Partition → Formula → List Bool → Type 0
Values v p f row = (t : ℕ) → t < p.states → v f t ≡ at row t

-- s is the first state whose class's least state is on the other side of the row.
pub record Odd (p : Partition) (s : ℕ) (row : List Bool) : Type 0 where
  pub state : s < p.states
  pub odd : beq (at row (class_of p s)) (at row s) ≡ false
  pub first : (t : ℕ) → t < s → at row (class_of p t) ≡ at row t

-- What every step keeps: the size, the questions, and the meaning of the nodes; no class is lost, and the classes are as they were if there are as many.
pub record Keeps (p q : Partition) : Type 0 where
  pub states : q.states ≡ p.states
  pub questions : q.questions ≡ p.questions
  pub extends : Extends p.nodes.list.items q.nodes.list.items
  pub more : p.count ≤ q.count
  pub still : q.count ≤ p.count → q.class ≡ p.class

-- The class of s was parted by the row: its members that agree with s have the number s. The formula f, true where the row says yes, is all that the new formulas needed.
pub record Parted (p q : Partition) (f : Formula) (s : ℕ) (row : List Bool) : Type 0 where
  pub keeps : Keeps p q
  pub count : q.count ≡ suc p.count
  pub class : (t : ℕ) → t < p.states → class_of q t ≡ renumbered p.class row (class_of p s) s t
  pub exact : (v : Formula → ℕ → Bool) → Boolean v → Values v p f row → Exact v p → Exact v q
  pub shallow : (d : ℕ) → nesting f ≤ d → Shallow d p → Shallow d q

-- Every class was split by the row: the formula of the test, true where the row says yes, is all that the new classes' formulas needed.
pub record Divided (p q : Partition) (test : Node) (row : List Bool) : Type 0 where
  pub keeps : Keeps p q
  pub classes : (s t : ℕ) → s < p.states → t < p.states → Alike q.class s t ↔ (Alike p.class s t × (at row s ≡ at row t))
  pub exact : (v : Formula → ℕ → Bool) → Boolean v → Values v p (own p test) row → Exact v p → Exact v q
  pub shallow : (d : ℕ) → nesting (own p test) ≤ d → Shallow d p → Shallow d q
