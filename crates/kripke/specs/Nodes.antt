-- Node tables: formulas in the order of their subformulas, the last node the root.
use Rattle.std.specs.Prelude.{◌≡◌, ℕ, ◌-◌, ◌<◌, ◌≤◌, List, [], ◌∷◌, ◌++◌, length, slice_index_or, Ok, Err, Result, Some, None, Option}
use Rattle.kripke.specs.Ctl.{Formula, truth, question, and, or, EX, AX, EF, AF, EG, AG, EU, AU}
use Rattle.kripke.specs.declared.node.Node.{Node}
use Rattle.kripke.specs.declared.operator.Operator as code
use Rattle.kripke.specs.declared.operator.Operator.TheVariants as op
use Rattle.kripke.specs.declared.operator.UnknownCode.{UnknownCode}

-- What a code stands for: true; question a; an operator on the formula of node a; an operator on those of nodes a and b.
pub data Operator : Type 0 where
  constant asking : Operator
  unary : (Formula → Formula) → Operator
  binary : (Formula → Formula → Formula) → Operator

-- The operators, each at the place of its code.
abbrev pub operators : List Operator
operators =
    constant ∷ asking ∷ unary Formula.not ∷ binary and ∷ binary or
    ∷ unary EX ∷ unary AX ∷ unary EF ∷ unary AF ∷ unary EG ∷ unary AG ∷ binary EU ∷ binary AU ∷ []

abbrev pub operator : Node → Operator
operator n = slice_index_or operators n.code constant

-- A node's formula, from those of the nodes before it.
abbrev pub applied : Operator → List Formula → ℕ → ℕ → Formula
applied constant fs a b = truth
applied asking fs a b = question a
applied (unary op) fs a b = op (slice_index_or fs a truth)
applied (binary op) fs a b = op (slice_index_or fs a truth) (slice_index_or fs b truth)

abbrev pub made : List Formula → Node → Formula
made fs n = applied (operator n) fs n.a n.b

-- The formulas of a table's nodes, after those of fs, from the first to the last.
unfoldable pub grown : List Formula → List Node → List Formula
grown fs [] = fs
grown fs (n ∷ ns) = grown (fs ++ made fs n ∷ []) ns

unfoldable pub formulas : List Node → List Formula
formulas ns = grown [] ns

-- The formula of node i, and of the root.
abbrev pub formula : List Node → ℕ → Formula
formula ns i = slice_index_or (formulas ns) i truth

abbrev pub root : List Node → Formula
root ns = formula ns (length ns - 1)

-- The numbers of node i of a table are in order for q questions: a question is below q, a node named is an earlier one, a number not used is 0.
abbrev pub Ordered : Operator → ℕ → ℕ → ℕ → ℕ → Type 0
Ordered constant q i a b = (a ≡ 0) × (b ≡ 0)
Ordered asking q i a b = (a < q) × (b ≡ 0)
Ordered (unary op) q i a b = (a < i) × (b ≡ 0)
Ordered (binary op) q i a b = (a < i) × (b < i)

abbrev pub LawfulNode : ℕ → ℕ → Node → Type 0
LawfulNode q i n = (n.code < length operators) × Ordered (operator n) q i n.a n.b

-- Every node of the table is in order.
abbrev pub blank_node : Node
blank_node = record { code = 0; a = 0; b = 0 }

abbrev pub WellFormed : ℕ → List Node → Type 0
WellFormed q ns = (i : ℕ) → i < length ns → LawfulNode q i (slice_index_or ns i blank_node)

-- The first node that is not in order; none where every node is.
abbrev pub FirstDisordered : ℕ → List Node → Option ℕ → Type 0
FirstDisordered q ns None = WellFormed q ns
FirstDisordered q ns (Some i) =
    (i < length ns) × (¬ LawfulNode q i (slice_index_or ns i blank_node) × ((j : ℕ) → j < i → LawfulNode q j (slice_index_or ns j blank_node)))

-- The code of each operator, which is its place among the operators.
abbrev pub code_of : code.Operator → ℕ
code_of op.Truth = 0
code_of op.Question = 1
code_of op.Not = 2
code_of op.And = 3
code_of op.Or = 4
code_of op.EX = 5
code_of op.AX = 6
code_of op.EF = 7
code_of op.AF = 8
code_of op.EG = 9
code_of op.AG = 10
code_of op.EU = 11
code_of op.AU = 12

-- A code is read as the operator that has it, and refused where there is none.
abbrev pub Decodes : ℕ → Result code.Operator UnknownCode → Type 0
Decodes c (Ok o) = c ≡ code_of o
Decodes c (Err e) = (length operators ≤ c) × (e.0 ≡ c)
