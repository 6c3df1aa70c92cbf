-- Counting, and families of finite sets that only grow: a step that adds something makes the count grow, so they come to rest.
use Rattle.std.proofs.Common.{◌≡◌, ℕ, zero, suc, ◌+◌, ◌-◌, ◌<◌, ◌≤◌, ◌⊎◌, sym, subst, inl, inr, ⊎_elim, arith}
use native.Mathlib.Decide.{ℕ_discrete}
use Rattle.kripke.specs.Classes.{Count, none, more, pass}
use Rattle.kripke.proofs.Either.{Either, below_or}

-- There is a count where it is decided what to count, and it is at most n.
pub count_exists : (P : ℕ → Type 0) (n : ℕ) → ((i : ℕ) → i < n → Either (P i)) → (c : ℕ) × (c ≤ n) × Count P n c
count_exists P zero d = (0, omega arith, none)
count_exists P (suc n) d =
    let (c, l, x) = count_exists P n (λ i h. d i (omega arith)) in
    ⊎_elim (λ p. (suc c, omega arith, more n c x p)) (λ p. (c, omega arith, pass n c x p)) (d n (omega arith))

pub count_le : (P : ℕ → Type 0) (n c : ℕ) → Count P n c → c ≤ n
count_le P n c none = omega arith
count_le P n c (more m d x p) = omega (arith, count_le P m d x)
count_le P n c (pass m d x p) = omega (arith, count_le P m c x)

-- More is counted where more is so, and strictly more where something is new.
pub count_mono : (P Q : ℕ → Type 0) (n c d : ℕ) → Count P n c → Count Q n d → ((i : ℕ) → i < n → P i → Q i) → c ≤ d
count_mono P Q zero c d none none f = omega arith
count_mono P Q (suc n) c d (more _ c' x p) (more _ d' y q) f = omega (arith, count_mono P Q n c' d' x y (λ i l. f i (omega arith)))
count_mono P Q (suc n) c d (more _ c' x p) (pass _ _ y q) f = absurd (q (f n (omega arith) p))
count_mono P Q (suc n) c d (pass _ _ x p) (more _ d' y q) f = omega (arith, count_mono P Q n c d' x y (λ i l. f i (omega arith)))
count_mono P Q (suc n) c d (pass _ _ x p) (pass _ _ y q) f = count_mono P Q n c d x y (λ i l. f i (omega arith))

pub count_less : (P Q : ℕ → Type 0) (n c d : ℕ) → Count P n c → Count Q n d → ((i : ℕ) → i < n → P i → Q i)
    → (i : ℕ) → i < n → Q i → (¬ P i) → c < d
count_less P Q zero c d none none f i l new old = omega arith
count_less P Q (suc n) c d (more _ c' x p) (more _ d' y q) f i l new old =
    elim (ℕ_discrete i n) [
      | yes e ↦ absurd (old (subst P (sym e) p))
      | no e ↦ omega (arith, count_less P Q n c' d' x y (λ j h. f j (omega arith)) i (omega arith) new old)
    ]
count_less P Q (suc n) c d (more _ c' x p) (pass _ _ y q) f i l new old = absurd (q (f n (omega arith) p))
count_less P Q (suc n) c d (pass _ _ x p) (more _ d' y q) f i l new old = omega (arith, count_mono P Q n c d' x y (λ j h. f j (omega arith)))
count_less P Q (suc n) c d (pass _ _ x p) (pass _ _ y q) f i l new old =
    elim (ℕ_discrete i n) [
      | yes e ↦ absurd (q (subst Q e new))
      | no e ↦ count_less P Q n c d x y (λ j h. f j (omega arith)) i (omega arith) new old
    ]

pub count_same : (P Q : ℕ → Type 0) (n c d : ℕ) → Count P n c → Count Q n d → ((i : ℕ) → i < n → P i → Q i) → ((i : ℕ) → i < n → Q i → P i) → c ≡ d
count_same P Q n c d x y f g = omega (arith, count_mono P Q n c d x y f, count_mono Q P n d c y x g)

-- The same count, of what is the same.
pub count_map : (P Q : ℕ → Type 0) (n c : ℕ) → Count P n c → ((i : ℕ) → i < n → P i → Q i) → ((i : ℕ) → i < n → Q i → P i) → Count Q n c
count_map P Q zero c none f g = none
count_map P Q (suc n) c (more _ d x p) f g = more n d (count_map P Q n d x (λ i l. f i (omega arith)) (λ i l. g i (omega arith))) (f n (omega arith) p)
count_map P Q (suc n) c (pass _ _ x p) f g = pass n c (count_map P Q n c x (λ i l. f i (omega arith)) (λ i l. g i (omega arith))) (λ q. p (g n (omega arith) q))

-- Where something is counted, the count is not 0.
pub count_some : (P : ℕ → Type 0) (n c : ℕ) → Count P n c → (i : ℕ) → i < n → P i → 1 ≤ c
count_some P zero c none i l p = omega arith
count_some P (suc n) c (more _ d x q) i l p = omega arith
count_some P (suc n) c (pass _ _ x q) i l p =
    elim (ℕ_discrete i n) [ yes e ↦ absurd (q (subst P e p)) | no e ↦ count_some P n c x i (omega arith) p ]

-- A family of sets of numbers below n that only grows.
module _ (P : ℕ → ℕ → Type 0) (n : ℕ) (d : (j i : ℕ) → i < n → Either (P j i)) (up : (j i : ℕ) → i < n → P j i → P (suc j) i) where
  -- Step j adds nothing.
  abbrev Rests : ℕ → Type 0
  Rests j = (i : ℕ) → i < n → P (suc j) i → P j i

  abbrev Adds : ℕ → Type 0
  Adds j = (i : ℕ) × (i < n) × (P (suc j) i × (¬ P j i))

  rests_or : (j : ℕ) → Rests j ⊎ Adds j
  rests_or j = below_or (λ i. P (suc j) i → P j i) _ n (λ i l. one i (d (suc j) i l) (d j i l))
    where
      one : (i : ℕ) → Either (P (suc j) i) → Either (P j i) → (P (suc j) i → P j i) ⊎ (P (suc j) i × (¬ P j i))
      one i x (inl y) = inl (λ h. y)
      one i (inl x) (inr y) = inr (x, y)
      one i (inr x) (inr y) = inl (λ h. absurd (x h))

  -- A step that adds nothing leaves the count, and any other makes it grow.
  pub rests_or_grows : (j c e : ℕ) → Count (P j) n c → Count (P (suc j)) n e → (Rests j × (c ≡ e)) ⊎ ((¬ Rests j) × (c < e))
  rests_or_grows j c e x y =
      ⊎_elim
      (λ r. inl (r, count_same (P j) (P (suc j)) n c e x y (up j) r))
      (λ z. inr (λ r. z.2.1 (r z.0 z.1 z.2.0), count_less (P j) (P (suc j)) n c e x y (up j) z.0 z.1 z.2.0 z.2.1))
      (rests_or j)

  within : (m j c : ℕ) → Count (P j) n c → n ≤ c + m → (i : ℕ) × (i ≤ j + m) × Rests i
  within zero j c x h =
      let (e, l, y) = count_exists (P (suc j)) n (d (suc j)) in
      ⊎_elim (λ z. (j, omega arith, z.0)) (λ z. absurd (omega (arith, z.1))) (rests_or_grows j c e x y)
  within (suc m) j c x h =
      let (e, l, y) = count_exists (P (suc j)) n (d (suc j)) in
      go e y (rests_or_grows j c e x y) (λ less. within m (suc j) e y less)
    where
      go : (e : ℕ) → Count (P (suc j)) n e → (Rests j × (c ≡ e)) ⊎ ((¬ Rests j) × (c < e)) → (n ≤ e + m → (i : ℕ) × (i ≤ suc j + m) × Rests i)
          → (i : ℕ) × (i ≤ j + suc m) × Rests i
      go e y (inl z) on = (j, omega arith, z.0)
      go e y (inr z) on = let w = on (omega (arith, z.1)) in (w.0, omega (arith, w.1), w.2)

  -- Some step within n minus the first count adds nothing.
  pub at_rest : (c : ℕ) → Count (P 0) n c → (j : ℕ) × (j ≤ n - c) × Rests j
  at_rest c x = let w = within (n - c) 0 c x (omega (arith, count_le (P 0) n c x)) in (w.0, omega (arith, w.1), w.2)
