-- Next-only nodes: what the test says of a node, the order of a table of such nodes, and their formulas.
use Rattle.std.proofs.Common.{◌≡◌, ℕ, zero, suc, ◌<◌, Bool, true, false, cond, ◌&&◌, T, eqb, ltb, List, [], ◌∷◌, ◌++◌, length, get_or, sym, refl, ap, subst, arith, lit<}
use native.Mathlib.Decide.{ℕ_discrete}
use Rattle.std.proofs.lemmas.Bool.{eqb-true, ltb-true, lt-ltb}
use Rattle.std.proofs.lemmas.List.{get_or_append_left, get_or_push, length_push}
use Rattle.kripke.specs.Ctl.{Formula, NextOnly}
use Rattle.kripke.specs.Nodes.{constant, operators, applied, made, formulas, formula, Ordered, LawfulNode, WellFormed, blank_node}
use Rattle.kripke.specs.declared.node.Node.{Node}
use Rattle.kripke.proofs.Tables.{formula_at}
use Rattle.refine.specs.Growth.{next_node, Orderly}
use Rattle.refine.proofs.Somes.{T-yes}

pub and_T : (x y : Bool) → T (x && y) → T x × T y
and_T true y h = (tt, h)
and_T false y h = absurd h

pub T_and : (x y : Bool) → T x → T y → T (x && y)
T_and true y h k = k
T_and false y h k = absurd h

T-eq : (a b : ℕ) → T (eqb a b) → a ≡ b
T-eq a b h = eqb-true a b (T-yes _ h)

T-lt : (a b : ℕ) → T (ltb a b) → a < b
T-lt a b h = ltb-true a b (T-yes _ h)

pub lt_T : (a b : ℕ) → a < b → T (ltb a b)
lt_T a b h = subst T (sym (lt-ltb a b h)) tt

-- The five kinds of node.
pub data Shape (q i : ℕ) (n : Node) : Type 0 where
  always : n.code ≡ 0 → n.a ≡ 0 → n.b ≡ 0 → Shape q i n
  asks : n.code ≡ 1 → n.a < q → n.b ≡ 0 → Shape q i n
  denies : n.code ≡ 2 → n.a < i → n.b ≡ 0 → Shape q i n
  joins : n.code ≡ 3 → n.a < i → n.b < i → Shape q i n
  steps : n.code ≡ 5 → n.a < i → n.b ≡ 0 → Shape q i n

pub shape : (q i : ℕ) (n : Node) → T (next_node q i n) → Shape q i n
shape q i n h = go (eqb n.code 0) (eqb n.code 1) (eqb n.code 2) (eqb n.code 3) (eqb n.code 5) refl refl refl refl refl h
  where
    go : (c0 c1 c2 c3 c5 : Bool) → eqb n.code 0 ≡ c0 → eqb n.code 1 ≡ c1 → eqb n.code 2 ≡ c2 → eqb n.code 3 ≡ c3 → eqb n.code 5 ≡ c5
        → T (cond c0 (eqb n.a 0 && eqb n.b 0) (cond c1 (ltb n.a q && eqb n.b 0) (cond c2 (ltb n.a i && eqb n.b 0)
        (cond c3 (ltb n.a i && ltb n.b i) (cond c5 (ltb n.a i && eqb n.b 0) false))))) → Shape q i n
    go true c1 c2 c3 c5 e0 e1 e2 e3 e5 h = let p = and_T _ _ h in always (eqb-true _ _ e0) (T-eq _ _ p.0) (T-eq _ _ p.1)
    go false true c2 c3 c5 e0 e1 e2 e3 e5 h = let p = and_T _ _ h in asks (eqb-true _ _ e1) (T-lt _ _ p.0) (T-eq _ _ p.1)
    go false false true c3 c5 e0 e1 e2 e3 e5 h = let p = and_T _ _ h in denies (eqb-true _ _ e2) (T-lt _ _ p.0) (T-eq _ _ p.1)
    go false false false true c5 e0 e1 e2 e3 e5 h = let p = and_T _ _ h in joins (eqb-true _ _ e3) (T-lt _ _ p.0) (T-lt _ _ p.1)
    go false false false false true e0 e1 e2 e3 e5 h = let p = and_T _ _ h in steps (eqb-true _ _ e5) (T-lt _ _ p.0) (T-eq _ _ p.1)
    go false false false false false e0 e1 e2 e3 e5 h = absurd h

lawful_shape : (q i : ℕ) (n : Node) → Shape q i n → LawfulNode q i n
lawful_shape q i n (always c a b) = subst (λ (k : ℕ). (k < length operators) × Ordered (get_or operators k constant) q i n.a n.b) (sym c) (lit< tt, (a, b))
lawful_shape q i n (asks c a b) = subst (λ (k : ℕ). (k < length operators) × Ordered (get_or operators k constant) q i n.a n.b) (sym c) (lit< tt, (a, b))
lawful_shape q i n (denies c a b) = subst (λ (k : ℕ). (k < length operators) × Ordered (get_or operators k constant) q i n.a n.b) (sym c) (lit< tt, (a, b))
lawful_shape q i n (joins c a b) = subst (λ (k : ℕ). (k < length operators) × Ordered (get_or operators k constant) q i n.a n.b) (sym c) (lit< tt, (a, b))
lawful_shape q i n (steps c a b) = subst (λ (k : ℕ). (k < length operators) × Ordered (get_or operators k constant) q i n.a n.b) (sym c) (lit< tt, (a, b))

pub well_formed : (q : ℕ) (ns : List Node) → Orderly q ns → WellFormed q ns
well_formed q ns h i l = lawful_shape q i (get_or ns i blank_node) (shape q i (get_or ns i blank_node) (h i l))

-- Node i is made of the formulas of the table.
pub node_is : (q : ℕ) (ns : List Node) → Orderly q ns → (i : ℕ) → i < length ns → formula ns i ≡ made (formulas ns) (get_or ns i blank_node)
node_is q ns h i l = formula_at q ns (well_formed q ns h) i l

-- What a node of a known code makes.
pub made_at : (fs : List Formula) (n : Node) (k : ℕ) → n.code ≡ k → made fs n ≡ applied (get_or operators k constant) fs n.a n.b
made_at fs n k e = ap (λ (c : ℕ). applied (get_or operators c constant) fs n.a n.b) e

next_below : (q : ℕ) (ns : List Node) → Orderly q ns → (k i : ℕ) → i < k → i < length ns → NextOnly (formula ns i)
next_below q ns h zero i b l = absurd (omega arith)
next_below q ns h (suc k) i b l =
    subst (λ (f : Formula). NextOnly f) (sym (node_is q ns h i l)) (go (shape q i (get_or ns i blank_node) (h i l)) (λ j m. next_below q ns h k j (omega arith) (omega arith)))
  where
    go : Shape q i (get_or ns i blank_node) → ((j : ℕ) → j < i → NextOnly (formula ns j)) → NextOnly (made (formulas ns) (get_or ns i blank_node))
    go (always c a d) r = subst (λ (f : Formula). NextOnly f) (sym (made_at (formulas ns) (get_or ns i blank_node) 0 c)) tt
    go (asks c a d) r = subst (λ (f : Formula). NextOnly f) (sym (made_at (formulas ns) (get_or ns i blank_node) 1 c)) tt
    go (denies c a d) r = subst (λ (f : Formula). NextOnly f) (sym (made_at (formulas ns) (get_or ns i blank_node) 2 c)) (r _ a)
    go (joins c a d) r = subst (λ (f : Formula). NextOnly f) (sym (made_at (formulas ns) (get_or ns i blank_node) 3 c)) (r _ a, r _ d)
    go (steps c a d) r = subst (λ (f : Formula). NextOnly f) (sym (made_at (formulas ns) (get_or ns i blank_node) 5 c)) (r _ a)

pub next_only : (q : ℕ) (ns : List Node) → Orderly q ns → (i : ℕ) → i < length ns → NextOnly (formula ns i)
next_only q ns h i l = next_below q ns h (suc i) i (omega arith) l

pub orderly_push : (q : ℕ) (ns ms : List Node) (n : Node) → ms ≡ ns ++ n ∷ [] → Orderly q ns → T (next_node q (length ns) n) → Orderly q ms
orderly_push q ns ms n e h f = subst (λ (z : List Node). Orderly q z) (sym e) go
  where
    go : Orderly q (ns ++ n ∷ [])
    go i l = elim (ℕ_discrete i (length ns)) [
      | yes z ↦ (let a : get_or (ns ++ n ∷ []) i blank_node ≡ n = get_or_push ns n blank_node i (sym z) in
          subst (λ (m : Node). T (next_node q i m)) (sym a) (subst (λ (j : ℕ). T (next_node q j n)) (sym z) f))
      | no d ↦ (let b : i < length ns = omega (arith, length_push ns n) in
          subst (λ (m : Node). T (next_node q i m)) (sym (get_or_append_left ns (n ∷ []) blank_node i b)) (h i b))
    ]
