-- Renumbered nodes: what they name, their order, and the formulas that they make.
use Rattle.std.proofs.Common.{◌≡◌, ℕ, ◌+◌, ◌<◌, ◌≤◌, Bool, true, false, cond, ◌&&◌, T, eqb, ltb, List, length, get_or, sym, refl, ap, ◌∙◌, subst, arith}
use Rattle.std.proofs.lemmas.Bool.{eq-eqb}
use Rattle.kripke.specs.Ctl.{Formula, truth, and, EX}
use Rattle.kripke.specs.Nodes.{made, blank_node}
use Rattle.kripke.specs.declared.node.Node.{Node}
use Rattle.refine.specs.Growth.{next_node}
use Rattle.refine.specs.declared.partition.Partition.{Partition}
use Rattle.refine.proofs.Orders.{Shape, always, asks, denies, joins, steps, shape, T_and, lt_T, made_at}
use Rattle.refine.proofs.Scan.{count_le}
use Rattle.compare.specs.Reach.{uses_a, uses_b}
use Rattle.compare.specs.Pruned.{rename}

pub never : {A : Type 0} → false ≡ true → A
never e = absurd (subst T (sym e) tt)

a_of : (n : Node) (k : ℕ) → n.code ≡ k → uses_a n ≡ cond (eqb k 0) false (cond (eqb k 1) false true)
a_of n k e = ap (λ (c : ℕ). cond (eqb c 0) false (cond (eqb c 1) false true)) e

b_of : (n : Node) (k : ℕ) → n.code ≡ k → uses_b n ≡ eqb k 3
b_of n k e = ap (λ (c : ℕ). eqb c 3) e

low_a : (q i : ℕ) (n : Node) → Shape q i n → uses_a n ≡ true → n.a < i
low_a q i n (always c a b) e = never (sym (a_of n 0 c) ∙ e)
low_a q i n (asks c a b) e = never (sym (a_of n 1 c) ∙ e)
low_a q i n (denies c a b) e = a
low_a q i n (joins c a b) e = a
low_a q i n (steps c a b) e = a

low_b : (q i : ℕ) (n : Node) → Shape q i n → uses_b n ≡ true → n.b < i
low_b q i n (always c a b) e = never (sym (b_of n 0 c) ∙ e)
low_b q i n (asks c a b) e = never (sym (b_of n 1 c) ∙ e)
low_b q i n (denies c a b) e = never (sym (b_of n 2 c) ∙ e)
low_b q i n (joins c a b) e = b
low_b q i n (steps c a b) e = never (sym (b_of n 5 c) ∙ e)

-- What a node in order names is earlier.
pub names_a : (q i : ℕ) (n : Node) → T (next_node q i n) → uses_a n ≡ true → n.a < i
names_a q i n h e = low_a q i n (shape q i n h) e

pub names_b : (q i : ℕ) (n : Node) → T (next_node q i n) → uses_b n ≡ true → n.b < i
names_b q i n h e = low_b q i n (shape q i n h) e

-- The same in a partition, whose nodes fit a table of 2048.
pub earlier_a : (p : Partition) (i : ℕ) (n : Node) → i < length p.nodes.list.items → n ≡ get_or p.nodes.list.items i blank_node → uses_a n ≡ true → n.a < i
earlier_a p i n l r e = names_a p.questions i n (subst (λ (m : Node). T (next_node p.questions i m)) (sym r) (p.orderly i l)) e

pub earlier_b : (p : Partition) (i : ℕ) (n : Node) → i < length p.nodes.list.items → n ≡ get_or p.nodes.list.items i blank_node → uses_b n ≡ true → n.b < i
earlier_b p i n l r e = names_b p.questions i n (subst (λ (m : Node). T (next_node p.questions i m)) (sym r) (p.orderly i l)) e

pub nodes_fit : (p : Partition) → length p.nodes.list.items + 3 ≤ 2048
nodes_fit p = omega (arith, p.spare, count_le p, p.few)

eq_T : (a b : ℕ) → a ≡ b → T (eqb a b)
eq_T a b e = subst T (sym (eq-eqb a b e)) tt

abbrev fits : ℕ → ℕ → ℕ → ℕ → ℕ → Bool
fits q i a b c =
    cond (eqb c 0) (eqb a 0 && eqb b 0)
    (cond (eqb c 1) (ltb a q && eqb b 0)
    (cond (eqb c 2) (ltb a i && eqb b 0)
    (cond (eqb c 3) (ltb a i && ltb b i)
    (cond (eqb c 5) (ltb a i && eqb b 0) false))))

-- A renumbered node is in order where the new numbers are lower than its own.
module _ (to : List ℕ) (n : Node) where
  a' : uses_a n ≡ true → (rename to n).a ≡ get_or to n.a 0
  a' e = ap (λ u. cond u (get_or to n.a 0) n.a) e

  a_kept : uses_a n ≡ false → (rename to n).a ≡ n.a
  a_kept e = ap (λ u. cond u (get_or to n.a 0) n.a) e

  b' : uses_b n ≡ true → (rename to n).b ≡ get_or to n.b 0
  b' e = ap (λ u. cond u (get_or to n.b 0) n.b) e

  b_kept : uses_b n ≡ false → (rename to n).b ≡ n.b
  b_kept e = ap (λ u. cond u (get_or to n.b 0) n.b) e

  rename_shape : (q i m : ℕ) → Shape q i n → (uses_a n ≡ true → get_or to n.a 0 < m) → (uses_b n ≡ true → get_or to n.b 0 < m) → T (next_node q m (rename to n))
  rename_shape q i m (always c a b) p r =
      subst (λ (k : ℕ). T (fits q m (rename to n).a (rename to n).b k)) (sym c) (T_and _ _ (eq_T _ _ (a_kept (a_of n 0 c) ∙ a)) (eq_T _ _ (b_kept (b_of n 0 c) ∙ b)))
  rename_shape q i m (asks c a b) p r =
      subst (λ (k : ℕ). T (fits q m (rename to n).a (rename to n).b k)) (sym c)
      (T_and _ _ (lt_T _ _ (subst (λ (z : ℕ). z < q) (sym (a_kept (a_of n 1 c))) a)) (eq_T _ _ (b_kept (b_of n 1 c) ∙ b)))
  rename_shape q i m (denies c a b) p r =
      subst (λ (k : ℕ). T (fits q m (rename to n).a (rename to n).b k)) (sym c)
      (T_and _ _ (lt_T _ _ (subst (λ (z : ℕ). z < m) (sym (a' (a_of n 2 c))) (p (a_of n 2 c)))) (eq_T _ _ (b_kept (b_of n 2 c) ∙ b)))
  rename_shape q i m (joins c a b) p r =
      subst (λ (k : ℕ). T (fits q m (rename to n).a (rename to n).b k)) (sym c)
      (T_and _ _ (lt_T _ _ (subst (λ (z : ℕ). z < m) (sym (a' (a_of n 3 c))) (p (a_of n 3 c)))) (lt_T _ _ (subst (λ (z : ℕ). z < m) (sym (b' (b_of n 3 c))) (r (b_of n 3 c)))))
  rename_shape q i m (steps c a b) p r =
      subst (λ (k : ℕ). T (fits q m (rename to n).a (rename to n).b k)) (sym c)
      (T_and _ _ (lt_T _ _ (subst (λ (z : ℕ). z < m) (sym (a' (a_of n 5 c))) (p (a_of n 5 c)))) (eq_T _ _ (b_kept (b_of n 5 c) ∙ b)))

  pub rename_fits : (q i m : ℕ) → T (next_node q i n) → (uses_a n ≡ true → get_or to n.a 0 < m) → (uses_b n ≡ true → get_or to n.b 0 < m) → T (next_node q m (rename to n))
  rename_fits q i m h p r = rename_shape q i m (shape q i n h) p r

  module _ (fs gs : List Formula) (p : uses_a n ≡ true → get_or fs (get_or to n.a 0) truth ≡ get_or gs n.a truth) (r : uses_b n ≡ true → get_or fs (get_or to n.b 0) truth ≡ get_or gs n.b truth) where
    at_a : uses_a n ≡ true → get_or fs (rename to n).a truth ≡ get_or gs n.a truth
    at_a e = ap (λ (z : ℕ). get_or fs z truth) (a' e) ∙ p e

    at_b : uses_b n ≡ true → get_or fs (rename to n).b truth ≡ get_or gs n.b truth
    at_b e = ap (λ (z : ℕ). get_or fs z truth) (b' e) ∙ r e

    same_shape : (q i : ℕ) → Shape q i n → made fs (rename to n) ≡ made gs n
    same_shape q i (always c a b) = made_at fs (rename to n) 0 c ∙ sym (made_at gs n 0 c)
    same_shape q i (asks c a b) = made_at fs (rename to n) 1 c ∙ ap Formula.question (a_kept (a_of n 1 c)) ∙ sym (made_at gs n 1 c)
    same_shape q i (denies c a b) = made_at fs (rename to n) 2 c ∙ ap Formula.not (at_a (a_of n 2 c)) ∙ sym (made_at gs n 2 c)
    same_shape q i (joins c a b) =
        made_at fs (rename to n) 3 c ∙ ap (λ (f : Formula). and f (get_or fs (rename to n).b truth)) (at_a (a_of n 3 c))
        ∙ ap (λ (f : Formula). and (get_or gs n.a truth) f) (at_b (b_of n 3 c)) ∙ sym (made_at gs n 3 c)
    same_shape q i (steps c a b) = made_at fs (rename to n) 5 c ∙ ap EX (at_a (a_of n 5 c)) ∙ sym (made_at gs n 5 c)

    -- It makes of the new formulas what the node makes of the old.
    pub rename_made : (q i : ℕ) → T (next_node q i n) → made fs (rename to n) ≡ made gs n
    rename_made q i h = same_shape q i (shape q i n h)

-- Two renumberings that agree on what the node names.
pub rename_same : (to to' : List ℕ) (n : Node) → (uses_a n ≡ true → get_or to' n.a 0 ≡ get_or to n.a 0) → (uses_b n ≡ true → get_or to' n.b 0 ≡ get_or to n.b 0)
    → rename to' n ≡ rename to n
rename_same to to' n p r = λ i. record { code = n.code; a = go (uses_a n) n.a p i; b = go (uses_b n) n.b r i }
  where
    go : (u : Bool) (x : ℕ) → (u ≡ true → get_or to' x 0 ≡ get_or to x 0) → cond u (get_or to' x 0) x ≡ cond u (get_or to x 0) x
    go true x h = h refl
    go false x h = refl
