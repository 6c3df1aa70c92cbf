-- What the private functions promise one another, in terms of tests of states: the bits of one row.
use Rattle.std.specs.Prelude.{◌≡◌, ℕ, zero, suc, ◌+◌, ◌-◌, ◌*◌, ◌/◌, ◌%◌, ◌<◌, ◌≤◌, Bool, true, false, cond, not, List, length, nat_lt, slice_index, slice_index_or}
use Rattle.kripke.specs.Structure.{Kripke, size, successors}
use Rattle.kripke.specs.Ctl.{Formula, truth, OnSome, OnEach, Until}
use Rattle.kripke.specs.Nodes.{Operator, constant, asking, unary, binary, applied, formula, WellFormed}
use Rattle.kripke.specs.Quantifiers.{dual}
use Rattle.kripke.specs.declared.node.Node.{Node}
use Rattle.std.specs.Bool.{beq}
use Rattle.std.specs.List.{list_all, list_any}
use Rattle.evaluator.specs.Rows.{bit, at, TruthRow}
use Rattle.evaluator.specs.declared.row.Order.{Order}
use Rattle.evaluator.specs.declared.row.Order.TheVariants as order
use Rattle.kripke.specs.declared.quantifier.Quantifier.{Quantifier}
use Rattle.kripke.specs.declared.quantifier.Quantifier.TheVariants as quantifier

-- The bit of state s in one row of four words.
abbrev pub marks : List ℕ → ℕ → Bool
marks row s = bit (slice_index row (s / 64)) (s % 64)

abbrev pub Marked : (ℕ → Bool) → ℕ → Type 0
Marked q s = q s ≡ true

-- Every state is marked, and nothing past the states; nothing past the states is marked.
abbrev pub Whole : Kripke → (ℕ → Bool) → Type 0
Whole k q = (s : ℕ) → s < 256 → q s ≡ nat_lt s (size k)

abbrev pub Trim : Kripke → (ℕ → Bool) → Type 0
Trim k q = (s : ℕ) → size k ≤ s → s < 256 → q s ≡ false

-- The marks r are those of the states that q does not mark; past the states they are as in q.
abbrev pub Complements : Kripke → (ℕ → Bool) → (ℕ → Bool) → Type 0
Complements k q r = (s : ℕ) → s < 256 → r s ≡ not (beq (nat_lt s (size k)) (q s))

-- The marks are the answers of a test at the states below n, and nothing past them is marked.
pub record Collects (n : ℕ) (Answers : ℕ → Bool → Type 0) (q : ℕ → Bool) : Type 0 where
  pub here : (s : ℕ) → s < n → Answers s (q s)
  pub beyond : (s : ℕ) → n ≤ s → s < 256 → q s ≡ false

-- The place in an order of one of the numbers up to the last, and the number at a place.
abbrev pub place : Order → ℕ → ℕ → ℕ
place order.Down last i = last - i
place order.Up last i = i

-- Each bit that a mask has is the lower one of a pair, whose upper one is k places above it: where bit j comes from, if those of each pair
-- change places, and that every bit of a word is in a pair.
abbrev pub partner : ℕ → ℕ → ℕ → ℕ
partner mask k j = cond (bit mask j) (j + k) (j - k)

abbrev pub Pairs : ℕ → ℕ → Type 0
Pairs mask k =
    (j : ℕ) → j < 64 →
    (bit mask j ≡ true → k ≤ j → bit mask (j - k) ≡ false)
    × (bit mask j ≡ false → (k ≤ j) × (bit mask (j - k) ≡ true))

-- How many of the numbers below n pass.
unfoldable pub tally : (ℕ → Bool) → ℕ → ℕ
tally q zero = 0
tally q (suc n) = cond (q n) 1 0 + tally q n

-- Some member passes, or each.
abbrev pub steps : Quantifier → (ℕ → Bool) → List ℕ → Bool
steps quantifier.Exists q xs = list_any q xs
steps quantifier.ForAll q xs = list_all q xs

-- On some path from s, or on each path.
abbrev pub Paths : Kripke → Quantifier → ℕ → ((ℕ → ℕ) → Type 0) → Type 0
Paths k quantifier.Exists s Φ = OnSome k s Φ
Paths k quantifier.ForAll s Φ = OnEach k s Φ

-- The marks divide the states by what is said of paths: a marked state has it on some path (or on each),
-- an unmarked one has its negation on each path (or on some).
pub record Divides (k : Kripke) (e : Quantifier) (Φ : (ℕ → ℕ) → Type 0) (q : ℕ → Bool) : Type 0 where
  pub yes : (s : ℕ) → s < size k → q s ≡ true → Paths k e s Φ
  pub no : (s : ℕ) → s < size k → q s ≡ false → Paths k (dual e) s (λ p. ¬ Φ p)
  pub beyond : Trim k q

-- Each marked state comes to g by way of f.
abbrev pub Sound : Kripke → Quantifier → (ℕ → Bool) → (ℕ → Bool) → (ℕ → Bool) → Type 0
Sound k e f g q = (s : ℕ) → s < size k → q s ≡ true → Paths k e s (Until (Marked f) (Marked g))

-- No unmarked state of f steps to marked states.
abbrev pub Still : Kripke → Quantifier → (ℕ → Bool) → (ℕ → Bool) → Type 0
Still k e f q = (s : ℕ) → s < size k → f s ≡ true → steps e q (successors k s) ≡ true → q s ≡ true

-- A sweep made q out of p, and told whether it marked a state.
pub record Sweeps (k : Kripke) (e : Quantifier) (f p q : ℕ → Bool) (changed : Bool) : Type 0 where
  pub above : (s : ℕ) → s < 256 → p s ≡ true → q s ≡ true
  pub sound : (g : ℕ → Bool) → Sound k e f g p → Sound k e f g q
  pub trim : Trim k f → Trim k p → Trim k q
  pub still : changed ≡ false → Still k e f q
  pub more : changed ≡ true → tally p 256 < tally q 256

-- The rows of a node's operands tell of the formulas that it names.
abbrev pub Fed : Kripke → Operator → List Formula → ℕ → ℕ → (ℕ → Bool) → (ℕ → Bool) → Type 0
Fed k constant fs a b p q = Unit {0}
Fed k asking fs a b p q = Unit {0}
Fed k (unary op) fs a b p q = TruthRow k (slice_index_or fs a truth) p
Fed k (binary op) fs a b p q = TruthRow k (slice_index_or fs a truth) p × TruthRow k (slice_index_or fs b truth) q

-- The row r of a node, made of its operands' rows, tells of the node's formula.
abbrev pub Applies : Kripke → Operator → ℕ → ℕ → (ℕ → Bool) → (ℕ → Bool) → (ℕ → Bool) → Type 0
Applies k op a b p q r = (fs : List Formula) → Fed k op fs a b p q → TruthRow k (applied op fs a b) r

-- The table is in order for q questions, and w words are enough.
pub record Ready (q : ℕ) (ns : List Node) (w : ℕ) : Type 0 where
  pub some : 1 ≤ length ns
  pub few : length ns ≤ 2045
  pub lawful : WellFormed q ns
  pub room : 4 * length ns ≤ w

-- The rows below i are made, and the words from there on are as they were.
pub record Filled (k : Kripke) (ns : List Node) (i : ℕ) (us ws : List ℕ) : Type 0 where
  pub rows : (j : ℕ) → j < i → TruthRow k (formula ns j) (at ws j)
  pub past : (j : ℕ) → 4 * i ≤ j → slice_index ws j ≡ slice_index us j
