-- Node tables: a table that grows keeps its formulas, and a node's formula is its operator on the formulas of the nodes it names.
use Rattle.std.proofs.Common.{◌≡◌, ℕ, zero, suc, ◌+◌, ◌-◌, ◌<◌, ◌≤◌, List, [], ◌∷◌, ◌++◌, length, get_or, sym, refl, ap, ◌∙◌, ap₂, ⊎_elim, arith, length-append}
use Rattle.std.proofs.lemmas.List.{get_or_append_left, get_or_push, length_push}
use Rattle.std.proofs.lemmas.Bool.{cases_lt}
use Rattle.kripke.specs.Ctl.{Formula, truth}
use Rattle.kripke.specs.Nodes.{Operator, constant, asking, unary, binary, operator, applied, made, grown, formulas, formula, root, Ordered, LawfulNode, WellFormed, blank_node}
use Rattle.kripke.specs.declared.node.Node.{Node}

grown-append : (fs : List Formula) (ns ms : List Node) → grown fs (ns ++ ms) ≡ grown (grown fs ns) ms
unfolding grown
grown-append fs [] ms = refl
grown-append fs (n ∷ ns) ms = grown-append (fs ++ made fs n ∷ []) ns ms

grown-length : (fs : List Formula) (ns : List Node) → length (grown fs ns) ≡ length fs + length ns
unfolding grown
grown-length fs [] = omega arith
grown-length fs (n ∷ ns) = omega (arith, grown-length (fs ++ made fs n ∷ []) ns, length_push fs (made fs n))

grown_keeps : (fs : List Formula) (ns : List Node) (i : ℕ) → i < length fs → get_or (grown fs ns) i truth ≡ get_or fs i truth
unfolding grown
grown_keeps fs [] i h = refl
grown_keeps fs (n ∷ ns) i h =
    grown_keeps (fs ++ made fs n ∷ []) ns i (omega (arith, length_push fs (made fs n))) ∙ get_or_append_left fs (made fs n ∷ []) truth i h

-- There are as many formulas as nodes.
pub formulas-length : (ns : List Node) → length (formulas ns) ≡ length ns
unfolding formulas
formulas-length ns = omega (arith, grown-length [] ns)

-- A table with nodes appended: its formulas, and that those of the earlier nodes are kept.
pub formulas-push : (ns : List Node) (n : Node) → formulas (ns ++ n ∷ []) ≡ formulas ns ++ made (formulas ns) n ∷ []
unfolding formulas grown
formulas-push ns n = grown-append [] ns (n ∷ [])

pub formula_keeps : (ns ms : List Node) (i : ℕ) → i < length ns → formula (ns ++ ms) i ≡ formula ns i
unfolding formulas
formula_keeps ns ms i h =
    ap (λ (fs : List Formula). get_or fs i truth) (grown-append [] ns ms) ∙ grown_keeps (grown [] ns) ms i (omega (arith, grown-length [] ns))

pub formula_new : (ns : List Node) (n : Node) (i : ℕ) → length ns ≡ i → formula (ns ++ n ∷ []) i ≡ made (formulas ns) n
formula_new ns n i h =
    ap (λ (fs : List Formula). get_or fs i truth) (formulas-push ns n) ∙ get_or_push (formulas ns) (made (formulas ns) n) truth i (formulas-length ns ∙ h)

-- The formula of the last node.
pub root-push : (ns : List Node) (n : Node) → root (ns ++ n ∷ []) ≡ made (formulas ns) n
root-push ns n = formula_new ns n (length (ns ++ n ∷ []) - 1) (omega (arith, length_push ns n))

-- An operator makes the same of two lists of formulas that agree on the nodes it names.
pub applied_same : (op : Operator) (q i a b : ℕ) → Ordered op q i a b → (fs gs : List Formula) → ((j : ℕ) → j < i → get_or fs j truth ≡ get_or gs j truth)
    → applied op fs a b ≡ applied op gs a b
applied_same constant q i a b h fs gs e = refl
applied_same asking q i a b h fs gs e = refl
applied_same (unary op) q i a b h fs gs e = ap op (e a h.0)
applied_same (binary op) q i a b h fs gs e = ap₂ op (e a h.0) (e b h.1)

grown_at : (q : ℕ) (fs : List Formula) (ns : List Node) (j i : ℕ) → length fs + j ≡ i → j < length ns → LawfulNode q i (get_or ns j blank_node)
    → get_or (grown fs ns) i truth ≡ made (grown fs ns) (get_or ns j blank_node)
unfolding grown
grown_at q fs [] j i e l h = absurd (omega arith)
grown_at q fs (n ∷ ns) zero i e l h =
    grown_keeps (fs ++ made fs n ∷ []) ns i (omega (arith, length_push fs (made fs n))) ∙ (get_or_push fs (made fs n) truth i (omega arith)
    ∙ applied_same (operator n) q i n.a n.b h.1 fs (grown (fs ++ made fs n ∷ []) ns)
    (λ m b. sym (grown_keeps (fs ++ made fs n ∷ []) ns m (omega (arith, length_push fs (made fs n))) ∙ get_or_append_left fs (made fs n ∷ []) truth m (omega arith))))
grown_at q fs (n ∷ ns) (suc j) i e l h = grown_at q (fs ++ made fs n ∷ []) ns j i (omega (arith, length_push fs (made fs n))) (omega arith) h

-- In a well-formed table the formula of node i is its operator on the formulas of the nodes that it names.
pub formula_at : (q : ℕ) (ns : List Node) → WellFormed q ns → (i : ℕ) → i < length ns → formula ns i ≡ made (formulas ns) (get_or ns i blank_node)
unfolding formulas
formula_at q ns w i l = grown_at q [] ns i i (omega arith) l (w i l)

-- A well-formed table with a node in order appended, and one with its last nodes left out.
pub well_formed_push : (q : ℕ) (ns : List Node) (n : Node) → WellFormed q ns → LawfulNode q (length ns) n → WellFormed q (ns ++ n ∷ [])
well_formed_push q ns n w h i l =
    ⊎_elim
    (λ (b : i < length ns). rw (get_or_append_left ns (n ∷ []) blank_node i b) (w i b))
    (λ (b : length ns ≤ i).
    let e : length ns ≡ i = omega (arith, length_push ns n) in
    rw (get_or_push ns n blank_node i e, ← e) h)
    (cases_lt i (length ns))

pub well_formed_front : (q : ℕ) (ns ms : List Node) → WellFormed q (ns ++ ms) → WellFormed q ns
well_formed_front q ns ms w i l = rw (get_or_append_left ns ms blank_node i l) at (w i (omega (arith, length-append ns ms)))
