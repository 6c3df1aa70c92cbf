-- Finite choices: what is decided at each member of a list, or at each number below n, is decided of them all.
use Rattle.std.proofs.Common.{◌≡◌, ℕ, zero, suc, ◌+◌, ◌<◌, ◌≤◌, Bool, true, false, T, ◌⊎◌, List, [], ◌∷◌, length, get_or, sym, refl, ◌∙◌, subst, inl, inr, ⊎_elim, arith}
use mathlib.Core.Bool.{Bool-discrete}
use native.Mathlib.Decide.{ℕ_discrete}
use Rattle.std.proofs.lemmas.List.{get_or_past}
use Rattle.std.proofs.lemmas.Bool.{cases_lt}
use Rattle.kripke.specs.Structure.{Member}

-- A statement that holds or does not.
abbrev pub Either : Type 0 → Type 0
Either P = P ⊎ (¬ P)

pub either_T : (x : Bool) → Either (T x)
either_T true = inl tt
either_T false = inr (λ h. h)

pub either_equal : (x y : Bool) → Either (x ≡ y)
either_equal x y = elim (Bool-discrete x y) [ yes e ↦ inl e | no n ↦ inr n ]

pub either_not : {P : Type 0} → Either P → Either (¬ P)
either_not (inl x) = inr (λ n. n x)
either_not (inr n) = inl n

pub either_and : {P Q : Type 0} → Either P → Either Q → Either (P × Q)
either_and (inl x) (inl y) = inl (x, y)
either_and (inl x) (inr n) = inr (λ z. n z.1)
either_and (inr n) y = inr (λ z. n z.0)

pub either_or : {P Q : Type 0} → Either P → Either Q → Either (P ⊎ Q)
either_or (inl x) y = inl (inl x)
either_or (inr n) (inl y) = inl (inr y)
either_or (inr n) (inr m) = inr (⊎_elim n m)

pub surely : {P : Type 0} → Either P → (¬ (¬ P)) → P
surely (inl x) h = x
surely (inr n) h = absurd (h n)

-- Each member is of one kind, or some member is of the other.
pub each_or_some : (A B : ℕ → Type 0) (l : List ℕ) → ((x : ℕ) → Member x l → A x ⊎ B x)
    → ((x : ℕ) → Member x l → A x) ⊎ ((x : ℕ) × Member x l × B x)
each_or_some A B [] h = inl (λ x m. absurd m)
each_or_some A B (y ∷ l) h = go (h y (inl refl)) (each_or_some A B l (λ x m. h x (inr m)))
  where
    go : A y ⊎ B y → ((x : ℕ) → Member x l → A x) ⊎ ((x : ℕ) × Member x l × B x)
        → ((x : ℕ) → Member x (y ∷ l) → A x) ⊎ ((x : ℕ) × Member x (y ∷ l) × B x)
    go (inl p) (inl all) = inl (λ x m. elim m [ inl e ↦ subst A (sym e) p | inr m' ↦ all x m' ])
    go (inl p) (inr some) = inr (some.0, inr some.1, some.2)
    go (inr q) rest = inr (y, inl refl, q)

-- Each member of l has a mate in l', or some member has none.
pub mated_or : (R N : ℕ → ℕ → Type 0) (l l' : List ℕ) → ((u v : ℕ) → Member u l → Member v l' → R u v ⊎ N u v)
    → ((u : ℕ) → Member u l → (v : ℕ) × Member v l' × R u v) ⊎ ((u : ℕ) × Member u l × ((v : ℕ) → Member v l' → N u v))
mated_or R N l l' h =
    each_or_some _ _ l (λ u m. ⊎_elim inr inl (each_or_some (N u) (R u) l' (λ v m'. ⊎_elim inr inl (h u v m m'))))

-- Every number below n is of one kind, or some number is of the other.
pub below_or : (A B : ℕ → Type 0) (n : ℕ) → ((i : ℕ) → i < n → A i ⊎ B i) → ((i : ℕ) → i < n → A i) ⊎ ((i : ℕ) × (i < n) × B i)
below_or A B zero h = inl (λ i l. absurd (omega arith))
below_or A B (suc n) h = go (h n (omega arith)) (below_or A B n (λ i l. h i (omega arith)))
  where
    go : A n ⊎ B n → ((i : ℕ) → i < n → A i) ⊎ ((i : ℕ) × (i < n) × B i) → ((i : ℕ) → i < suc n → A i) ⊎ ((i : ℕ) × (i < suc n) × B i)
    go (inl x) (inl all) = inl (λ i l. elim (ℕ_discrete i n) [ yes e ↦ subst A (sym e) x | no d ↦ all i (omega arith) ])
    go (inl x) (inr z) = inr (z.0, omega arith, z.2)
    go (inr y) rest = inr (n, omega arith, y)

-- The least number as P says, up to one that is.
pub least_of : (P : ℕ → Type 0) → ((i : ℕ) → Either (P i)) → (m n : ℕ) → n < m → P n → (k : ℕ) × (k ≤ n) × P k × ((j : ℕ) → j < k → ¬ P j)
least_of P d zero n l x = absurd (omega arith)
least_of P d (suc m) n l x = go (below_or (λ i. ¬ P i) P n (λ i h. ⊎_elim inr inl (d i))) (λ i h y. least_of P d m i h y)
  where
    go : ((i : ℕ) → i < n → ¬ P i) ⊎ ((i : ℕ) × (i < n) × P i) → ((i : ℕ) → i < m → P i → (k : ℕ) × (k ≤ i) × P k × ((j : ℕ) → j < k → ¬ P j))
        → (k : ℕ) × (k ≤ n) × P k × ((j : ℕ) → j < k → ¬ P j)
    go (inl no_less) on = (n, omega arith, x, no_less)
    go (inr z) on = let w = on z.0 (omega (arith, z.1)) z.2 in (w.0, omega (arith, w.1, z.1), w.2, w.3)

-- Two labels agree on every question, or on one they do not.
pub labels_or : (xs ys : List Bool) → ((i : ℕ) → get_or xs i false ≡ get_or ys i false) ⊎ ((i : ℕ) × (¬ get_or xs i false ≡ get_or ys i false))
labels_or xs ys =
    ⊎_elim (λ all. inl (λ i. ⊎_elim (all i) (past i) (cases_lt i (length xs + length ys)))) (λ z. inr (z.0, z.2))
    (below_or (λ i. get_or xs i false ≡ get_or ys i false) _ (length xs + length ys) (λ i l. either_equal (get_or xs i false) (get_or ys i false)))
  where
    past : (i : ℕ) → length xs + length ys ≤ i → get_or xs i false ≡ get_or ys i false
    past i l = get_or_past xs i false (omega arith) ∙ sym (get_or_past ys i false (omega arith))
