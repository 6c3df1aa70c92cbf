-- A formula's table: its numbers are in order, and its root is the formula.
use Rattle.std.proofs.Common.{◌≡◌, ℕ, ◌+◌, ◌-◌, ◌≤◌, List, [], ◌∷◌, ◌++◌, length, get_or, sym, refl, ap, ◌∙◌, append_assoc, arith}
use Rattle.std.proofs.lemmas.List.{length-append, get_or_append_left, get_or_at}
use Rattle.kripke.specs.Ctl.{Formula, truth}
use Rattle.kripke.specs.Nodes.{code_of, made, grown, formulas, root}
use Rattle.kripke.specs.declared.node.Node.{Node}
use Rattle.reader.specs.declared.token.Unary.{Unary}
use Rattle.reader.specs.declared.token.Unary.TheVariants as unary
use Rattle.kripke.specs.declared.quantifier.Quantifier.TheVariants.{Exists, ForAll}
use Rattle.reader.specs.declared.head.Opening.{Opening}
use Rattle.reader.specs.declared.head.Opening.TheVariants.{Pair, Until}
use Rattle.reader.specs.Phrases.{conj, disj, Middle, applied, applied_by, joined, joined_by}
use Rattle.reader.specs.Table.{node, one, two, nodes, table}
use Rattle.reader.proofs.Heads.{induction}

-- The nodes of an operator on its arguments.
pub applied_nodes : (i : ℕ) (u : Unary) (f : Formula) → nodes i (applied u f) ≡ one (code_of (applied_by u)) i (nodes i f)
applied_nodes i unary.Not f = refl
applied_nodes i unary.EX f = refl
applied_nodes i unary.AX f = refl
applied_nodes i unary.EF f = refl
applied_nodes i unary.AF f = refl
applied_nodes i unary.EG f = refl
applied_nodes i unary.AG f = refl

pub joined_nodes : (i : ℕ) (o : Opening) (m : (Middle o).A) (f g : Formula) → nodes i (joined o m f g) ≡ two (code_of (joined_by o m)) i (nodes i f) (nodes (i + length (nodes i f)) g)
joined_nodes i Pair conj f g = refl
joined_nodes i Pair disj f g = refl
joined_nodes i (Until Exists) m f g = refl
joined_nodes i (Until ForAll) m f g = refl

-- A table is not empty.
pub some_node : (f : Formula) (i : ℕ) → 1 ≤ length (nodes i f)
some_node = induction (λ f. (i : ℕ) → 1 ≤ length (nodes i f)) (λ i. omega arith) (λ j i. omega arith)
    (λ u f h i. omega (arith, ap length (applied_nodes i u f), length-append (nodes i f) (node (code_of (applied_by u)) (i + length (nodes i f) - 1) 0 ∷ []), h i))
    (λ o m f g h k i. omega (arith, ap length (joined_nodes i o m f g), length-append (nodes i f) (nodes (i + length (nodes i f)) g ++ (node (code_of (joined_by o m)) (i + length (nodes i f) - 1) (i + length (nodes i f) + length (nodes (i + length (nodes i f)) g) - 1) ∷ [])), h i))

-- The formulas of its nodes end with the formula itself.
grown-append : (fs : List Formula) (a b : List Node) → grown fs (a ++ b) ≡ grown (grown fs a) b
unfolding grown
grown-append fs [] b = refl
grown-append fs (n ∷ a) b = grown-append (fs ++ (made fs n ∷ [])) a b

grown_one : (fs : List Formula) (n : Node) → grown fs (n ∷ []) ≡ fs ++ (made fs n ∷ [])
unfolding grown
grown_one fs n = refl

-- After the formulas fs, those of f's nodes: some, and then f.
abbrev Grows : Formula → Type 0
Grows f = (fs : List Formula) (i : ℕ) → length fs ≡ i → (gs : List Formula) × (grown fs (nodes i f) ≡ fs ++ (gs ++ (f ∷ []))) × (length gs + 1 ≡ length (nodes i f))

made_applied : (u : Unary) (fs : List Formula) (k : ℕ) → made fs (node (code_of (applied_by u)) k 0) ≡ applied u (get_or fs k truth)
made_applied unary.Not fs k = refl
made_applied unary.EX fs k = refl
made_applied unary.AX fs k = refl
made_applied unary.EF fs k = refl
made_applied unary.AF fs k = refl
made_applied unary.EG fs k = refl
made_applied unary.AG fs k = refl

made_joined : (o : Opening) (m : (Middle o).A) (fs : List Formula) (j k : ℕ) → made fs (node (code_of (joined_by o m)) j k) ≡ joined o m (get_or fs j truth) (get_or fs k truth)
made_joined Pair conj fs j k = refl
made_joined Pair disj fs j k = refl
made_joined (Until Exists) m fs j k = refl
made_joined (Until ForAll) m fs j k = refl

last_one : (fs gs : List Formula) (f : Formula) (n : ℕ) → length fs + length gs ≡ n → get_or (fs ++ (gs ++ (f ∷ []))) n truth ≡ f
last_one fs gs f n e =
    ap (λ (l : List Formula). get_or l n truth) (sym (append_assoc fs gs (f ∷ []))) ∙ get_or_at (fs ++ gs) f [] truth n (length-append fs gs ∙ e)

grows_applied : (u : Unary) (f : Formula) → Grows f → Grows (applied u f)
grows_applied u f h fs i e =
    let z = h fs i e in
    let n : Node = node (code_of (applied_by u)) (i + length (nodes i f) - 1) 0 in
    let fs1 : List Formula = fs ++ (z.0 ++ (f ∷ [])) in (
      z.0 ++ (f ∷ []),
      ap (grown fs) (applied_nodes i u f) ∙ grown-append fs (nodes i f) (n ∷ []) ∙ ap (λ (l : List Formula). grown l (n ∷ [])) z.1 ∙ grown_one fs1 n
          ∙ ap (λ (x : Formula). fs1 ++ (x ∷ [])) (made_applied u fs1 (i + length (nodes i f) - 1) ∙ ap (applied u) (last_one fs z.0 f _ (omega (arith, z.2))))
          ∙ append_assoc fs (z.0 ++ (f ∷ [])) (applied u f ∷ []),
      omega (arith, length-append z.0 (f ∷ []), z.2, ap length (applied_nodes i u f), length-append (nodes i f) (n ∷ [])),
    )

-- The formula of an operator after those of its arguments.
ends_joined : (o : Opening) (m : (Middle o).A) (f g : Formula) (fs gs hs : List Formula) (j k : ℕ) → length fs + length gs ≡ j → j + 1 + length hs ≡ k
    → made ((fs ++ (gs ++ (f ∷ []))) ++ (hs ++ (g ∷ []))) (node (code_of (joined_by o m)) j k) ≡ joined o m f g
ends_joined o m f g fs gs hs j k p q =
    let l : length (fs ++ (gs ++ (f ∷ []))) ≡ j + 1 = length-append fs (gs ++ (f ∷ [])) ∙ (let l = length-append gs (f ∷ []) in omega arith) in
    made_joined o m ((fs ++ (gs ++ (f ∷ []))) ++ (hs ++ (g ∷ []))) j k
    ∙ ap (λ (x : Formula). joined o m x (get_or ((fs ++ (gs ++ (f ∷ []))) ++ (hs ++ (g ∷ []))) k truth))
    (get_or_append_left (fs ++ (gs ++ (f ∷ []))) (hs ++ (g ∷ [])) truth j (omega arith) ∙ last_one fs gs f j p)
    ∙ ap (joined o m f) (last_one (fs ++ (gs ++ (f ∷ []))) hs g k (omega arith))

-- The formulas of two lists of nodes and one more.
grown_two : (fs gs hs : List Formula) (f g h : Formula) (ns ms : List Node) (n : Node) → grown fs ns ≡ fs ++ (gs ++ (f ∷ []))
    → grown (fs ++ (gs ++ (f ∷ []))) ms ≡ (fs ++ (gs ++ (f ∷ []))) ++ (hs ++ (g ∷ [])) → made ((fs ++ (gs ++ (f ∷ []))) ++ (hs ++ (g ∷ []))) n ≡ h
    → grown fs (ns ++ (ms ++ (n ∷ []))) ≡ fs ++ (((gs ++ (f ∷ [])) ++ (hs ++ (g ∷ []))) ++ (h ∷ []))
grown_two fs gs hs f g h ns ms n p q r =
    grown-append fs ns (ms ++ (n ∷ [])) ∙ ap (λ (l : List Formula). grown l (ms ++ (n ∷ []))) p
    ∙ grown-append (fs ++ (gs ++ (f ∷ []))) ms (n ∷ []) ∙ ap (λ (l : List Formula). grown l (n ∷ [])) q
    ∙ grown_one ((fs ++ (gs ++ (f ∷ []))) ++ (hs ++ (g ∷ []))) n ∙ ap (λ (x : Formula). ((fs ++ (gs ++ (f ∷ []))) ++ (hs ++ (g ∷ []))) ++ (x ∷ [])) r
    ∙ ap (λ (l : List Formula). l ++ (h ∷ [])) (append_assoc fs (gs ++ (f ∷ [])) (hs ++ (g ∷ [])))
    ∙ append_assoc fs ((gs ++ (f ∷ [])) ++ (hs ++ (g ∷ []))) (h ∷ [])

grows_joined : (o : Opening) (m : (Middle o).A) (f g : Formula) → Grows f → Grows g → Grows (joined o m f g)
grows_joined o m f g h k fs i e = go (nodes i f) (joined_nodes i o m f g) (h fs i e)
  where
    go : (ns : List Node) → nodes i (joined o m f g) ≡ two (code_of (joined_by o m)) i ns (nodes (i + length ns) g)
        → (gs : List Formula) × (grown fs ns ≡ fs ++ (gs ++ (f ∷ []))) × (length gs + 1 ≡ length ns)
        → (gs : List Formula) × (grown fs (nodes i (joined o m f g)) ≡ fs ++ (gs ++ (joined o m f g ∷ []))) × (length gs + 1 ≡ length (nodes i (joined o m f g)))
    go ns is (gs, p, l) = on (nodes (i + length ns) g) is
        (k (fs ++ (gs ++ (f ∷ []))) (i + length ns) (length-append fs (gs ++ (f ∷ [])) ∙ (let d = length-append gs (f ∷ []) in omega arith)))
      where
        on : (ms : List Node) → nodes i (joined o m f g) ≡ two (code_of (joined_by o m)) i ns ms
            → (hs : List Formula) × (grown (fs ++ (gs ++ (f ∷ []))) ms ≡ (fs ++ (gs ++ (f ∷ []))) ++ (hs ++ (g ∷ []))) × (length hs + 1 ≡ length ms)
            → (gs : List Formula) × (grown fs (nodes i (joined o m f g)) ≡ fs ++ (gs ++ (joined o m f g ∷ []))) × (length gs + 1 ≡ length (nodes i (joined o m f g)))
        on ms is (hs, q, d) = (
          (gs ++ (f ∷ [])) ++ (hs ++ (g ∷ [])),
          ap (grown fs) is ∙ grown_two fs gs hs f g (joined o m f g) ns ms _ p q (ends_joined o m f g fs gs hs (i + length ns - 1) (i + length ns + length ms - 1) (omega arith) (omega arith)),
          omega (
            arith,
            length-append (gs ++ (f ∷ [])) (hs ++ (g ∷ [])),
            length-append gs (f ∷ []),
            length-append hs (g ∷ []),
            ap length is,
            length-append ns (ms ++ (node (code_of (joined_by o m)) (i + length ns - 1) (i + length ns + length ms - 1) ∷ [])),
            length-append ms (node (code_of (joined_by o m)) (i + length ns - 1) (i + length ns + length ms - 1) ∷ []),
          ),
        )

grows : (f : Formula) → Grows f
grows = induction Grows (λ fs i e. ([], grown_one fs (node 0 0 0), refl)) (λ j fs i e. ([], grown_one fs (node 1 j 0), refl)) grows_applied grows_joined

pub root_is : (f : Formula) → root (table f) ≡ f
unfolding formulas
root_is f =
    let z = grows f [] 0 refl in
    ap (λ (l : List Formula). get_or l (length (table f) - 1) truth) z.1 ∙ get_or_at z.0 f [] truth _ (omega (arith, z.2))
