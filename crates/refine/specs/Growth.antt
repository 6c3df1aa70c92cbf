-- Tables of next-only nodes that grow at their end, and valuations of formulas at numbered states.
use Rattle.std.specs.Prelude.{◌≡◌, ℕ, suc, ◌+◌, ◌<◌, ◌≤◌, Bool, true, false, cond, not, ◌&&◌, T, List, length, ◌==◌, nat_lt, slice_index_or, Option, Some, None}
use Rattle.kripke.specs.Ctl.{Formula, truth, and, nesting}
use Rattle.kripke.specs.Nodes.{made, formulas, formula, blank_node}
use Rattle.kripke.specs.declared.node.Node.{Node}

-- Node i of a table for q questions is in order, and is true, a question, not, and, EX.
abbrev pub next_node : ℕ → ℕ → Node → Bool
next_node q i n =
    cond (n.code == 0) (n.a == 0 && n.b == 0)
    (cond (n.code == 1) (nat_lt n.a q && n.b == 0)
    (cond (n.code == 2) (nat_lt n.a i && n.b == 0)
    (cond (n.code == 3) (nat_lt n.a i && nat_lt n.b i)
    (cond (n.code == 5) (nat_lt n.a i && n.b == 0) false))))

abbrev pub Orderly : ℕ → List Node → Type 0
Orderly q ns = (i : ℕ) → i < length ns → T (next_node q i (slice_index_or ns i blank_node))

-- A table that has grown: its nodes mean what they meant.
pub record Extends (ns ms : List Node) : Type 0 where
  pub longer : length ns ≤ length ms
  pub same : (i : ℕ) → i < length ns → formula ms i ≡ formula ns i

-- A valuation that takes true, not, and at their word.
pub record Boolean (v : Formula → ℕ → Bool) : Type 0 where
  pub always : (s : ℕ) → v truth s ≡ true
  pub negates : (f : Formula) (s : ℕ) → v (Formula.not f) s ≡ not (v f s)
  pub joins : (f g : Formula) (s : ℕ) → v (and f g) s ≡ (v f s && v g s)

-- The formula f stands at node x, and its negation after it.
pub record Names (ns : List Node) (x : ℕ) (f : Formula) : Type 0 where
  pub inside : suc x < length ns
  pub yes : formula ns x ≡ f
  pub no : formula ns (suc x) ≡ Formula.not f

-- The formula of a test: that of the node where it stands, else its own.
abbrev pub test_formula : List Node → Node → Option ℕ → Formula
test_formula ns test None = made (formulas ns) test
test_formula ns test (Some x) = formula ns x

-- The test stands at a node, or is in order as the next one.
abbrev pub Ready : ℕ → List Node → Node → Option ℕ → Type 0
Ready q ns test None = T (next_node q (length ns) test)
Ready q ns test (Some x) = Names ns x (formula ns x)

-- The test stands at r, with its negation after it.
pub record Named (ns ms : List Node) (test : Node) (known : Option ℕ) (r : ℕ) : Type 0 where
  pub extends : Extends ns ms
  pub count : length ms ≤ length ns + 2
  pub names : Names ms r (test_formula ns test known)
  pub orderly : (q : ℕ) → Ready q ns test known → Orderly q ns → Orderly q ms

-- The conjunction of nodes a and b stands at r.
pub record Conjoined (ns ms : List Node) (a b r : ℕ) : Type 0 where
  pub extends : Extends ns ms
  pub count : length ms ≤ length ns + 1
  pub inside : r < length ms
  pub orderly : (q : ℕ) → Orderly q ns → Orderly q ms
  pub means : (q : ℕ) → Orderly q ns → (v : Formula → ℕ → Bool) → Boolean v → (s : ℕ) → v (formula ms r) s ≡ (v (formula ns a) s && v (formula ns b) s)
  pub nests : (d : ℕ) → nesting (formula ns a) ≤ d → nesting (formula ns b) ≤ d → nesting (formula ms r) ≤ d
