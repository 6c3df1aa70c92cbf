-- The node table of a formula.
use Rattle.std.specs.Prelude.{ℕ, suc, ◌+◌, ◌-◌, List, [], ◌∷◌, ◌++◌, length, slice_set}
use Rattle.kripke.specs.Ctl.{Formula, truth, question, not, and, or, EX, AX, EF, AF, EG, AG, EU, AU}
use Rattle.kripke.specs.declared.node.Node.{Node}

abbrev pub node : ℕ → ℕ → ℕ → Node
node c x y = record { code = c; a = x; b = y }

-- An operator after its argument, or its two arguments, whose nodes are numbered from i on; the last of an argument's nodes is its own.
abbrev pub one : ℕ → ℕ → List Node → List Node
one c i f = f ++ (node c (i + length f - 1) 0 ∷ [])

abbrev pub two : ℕ → ℕ → List Node → List Node → List Node
two c i f g = f ++ (g ++ (node c (i + length f - 1) (i + length f + length g - 1) ∷ []))

-- The nodes of a formula, numbered from i on: in order of where each subformula ends, left before right, none shared.
abbrev pub nodes : ℕ → Formula → List Node
nodes i truth = node 0 0 0 ∷ []
nodes i (question j) = node 1 j 0 ∷ []
nodes i (not f) = one 2 i (nodes i f)
nodes i (and f g) = two 3 i (nodes i f) (nodes (i + length (nodes i f)) g)
nodes i (or f g) = two 4 i (nodes i f) (nodes (i + length (nodes i f)) g)
nodes i (EX f) = one 5 i (nodes i f)
nodes i (AX f) = one 6 i (nodes i f)
nodes i (EF f) = one 7 i (nodes i f)
nodes i (AF f) = one 8 i (nodes i f)
nodes i (EG f) = one 9 i (nodes i f)
nodes i (AG f) = one 10 i (nodes i f)
nodes i (EU f g) = two 11 i (nodes i f) (nodes (i + length (nodes i f)) g)
nodes i (AU f g) = two 12 i (nodes i f) (nodes (i + length (nodes i f)) g)

abbrev pub table : Formula → List Node
table f = nodes 0 f

-- The places with the nodes written from place i on; a node past the last place is left out.
unfoldable pub laid : List Node → ℕ → List Node → List Node
laid xs i [] = xs
laid xs i (n ∷ ns) = laid (slice_set xs i n) (suc i) ns
