-- Two structures numbered through: what is shown of each state in its own structure is shown of each number.
use Rattle.std.proofs.Common.{◌≡◌, ℕ, suc, ◌+◌, ◌-◌, ◌<◌, ◌≤◌, Bool, cond, ltb, sym, refl, subst, ⊎_elim, arith}
use Rattle.std.proofs.lemmas.Bool.{lt-ltb, le-ltb, cases_lt, cond_both}
use Rattle.kripke.specs.Structure.{Kripke, Closed, size}
use Rattle.kripke.specs.Rounds.{Same, Settled, home, place, total}

module _ (a b : Kripke) (P : Kripke → ℕ → Type 0) where
  -- Number i below the first's size is state i of the first, and back.
  pub first_to : (i : ℕ) → i < size a → P a i → P (home a b i) (place a b i)
  first_to i l x = subst (λ (y : Bool). P (cond y a b) (cond y i (i - size a))) (sym (lt-ltb i (size a) l)) x

  pub first_of : (i : ℕ) → i < size a → P (home a b i) (place a b i) → P a i
  first_of i l x = subst (λ (y : Bool). P (cond y a b) (cond y i (i - size a))) (lt-ltb i (size a) l) x

  -- A number i from there on is state i - size a of the second, and back.
  pub second_to : (i : ℕ) → size a ≤ i → P b (i - size a) → P (home a b i) (place a b i)
  second_to i l x = subst (λ (y : Bool). P (cond y a b) (cond y i (i - size a))) (sym (le-ltb i (size a) l)) x

  pub second_of : (i : ℕ) → size a ≤ i → P (home a b i) (place a b i) → P b (i - size a)
  second_of i l x = subst (λ (y : Bool). P (cond y a b) (cond y i (i - size a))) (le-ltb i (size a) l) x

  pub by_home : ((s : ℕ) → s < size a → P a s) → ((t : ℕ) → t < size b → P b t) → (i : ℕ) → i < total a b → P (home a b i) (place a b i)
  by_home on-first on-second i h =
      ⊎_elim (λ l. first_to i l (on-first i l)) (λ (l : size a ≤ i). second_to i l (on-second (i - size a) (omega arith))) (cases_lt i (size a))

pub home_closed : (a b : Kripke) → Closed a → Closed b → (i : ℕ) → Closed (home a b i)
home_closed a b la lb i = cond_both (ltb i (size a)) a b Closed (λ _. la) (λ _. lb)

pub place_inside : (a b : Kripke) (i : ℕ) → i < total a b → place a b i < size (home a b i)
place_inside a b = by_home a b (λ k s. s < size k) (λ s h. h) (λ t h. h)

-- Every state of the structure x has a number.
abbrev pub Listed : Kripke → Kripke → Kripke → Type 0
Listed a b x = (s : ℕ) → s < size x → (i : ℕ) × (i < total a b) × (home a b i ≡ x) × (place a b i ≡ s)

pub first_listed : (a b : Kripke) → Listed a b a
first_listed a b s h = (s, omega arith, first_to a b (λ k t. k ≡ a) s h refl, first_to a b (λ k t. t ≡ s) s h refl)

pub second_listed : (a b : Kripke) → Listed a b b
second_listed a b s h =
    let l : size a ≤ size a + s = omega arith in
    (size a + s, omega arith, second_to a b (λ k t. k ≡ b) (size a + s) l refl, second_to a b (λ k t. t ≡ s) (size a + s) l (omega arith))

pub home_listed : (a b : Kripke) (i : ℕ) → Listed a b (home a b i)
home_listed a b i = cond_both (ltb i (size a)) a b (Listed a b) (λ _. first_listed a b) (λ _. second_listed a b)

same_at : (x x' y y' : Kripke) (k s s' t t' : ℕ) → x ≡ x' → y ≡ y' → s ≡ s' → t ≡ t' → Same x y k s t → Same x' y' k s' t'
same_at x x' y y' k s s' t t' ex ey es et h =
    subst (λ (z : Kripke). Same z y' k s' t') ex (subst (λ (z : Kripke). Same x z k s' t') ey (subst (λ (z : ℕ). Same x y k z t') es (subst (λ (z : ℕ). Same x y k s z) et h)))

-- Where round k + 1 splits nothing, states of two of the structures that are the same after k rounds are so after k + 1.
pub settled_at : (a b : Kripke) (k : ℕ) → Settled a b k → (x y : Kripke) → Listed a b x → Listed a b y
    → (s t : ℕ) → s < size x → t < size y → Same x y k s t → Same x y (suc k) s t
settled_at a b k settled x y on-x on-y s t hs ht h =
    let (i, li, xi, si) = on-x s hs in
    let (j, lj, yj, tj) = on-y t ht in
    same_at (home a b i) x (home a b j) y (suc k) (place a b i) s (place a b j) t xi yj si tj
    (settled i j li lj (same_at x (home a b i) y (home a b j) k s (place a b i) t (place a b j) (sym xi) (sym yj) (sym si) (sym tj) h))

-- Once nothing is split, nothing ever is.
pub settled_on : (a b : Kripke) → Closed a → Closed b → (k : ℕ) → Settled a b k → Settled a b (suc k)
settled_on a b la lb k settled i j hi hj h =
    let on = settled_at a b k settled (home a b i) (home a b j) (home_listed a b i) (home_listed a b j) in
    let ci = home_closed a b la lb i in
    let cj = home_closed a b la lb j in
    let si = place_inside a b i hi in
    let sj = place_inside a b j hj in (
      h,
      λ u m. (let (v, m', r) = h.1 u m in (v, m', on u v (ci.inside (place a b i) u si m) (cj.inside (place a b j) v sj m') r)),
      λ v m. (let (u, m', r) = h.2 v m in (u, m', on u v (ci.inside (place a b i) u si m') (cj.inside (place a b j) v sj m) r)),
    )
