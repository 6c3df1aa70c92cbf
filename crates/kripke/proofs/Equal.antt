-- Being the same after k rounds is an equivalence, and every class has a least number.
use Rattle.std.proofs.Common.{◌≡◌, ℕ, zero, suc, ◌<◌, ◌≤◌, sym, refl, ◌∙◌, subst, inl, inr, arith}
use native.Mathlib.Decide.{dec_lt, ℕ_discrete}
use Rattle.kripke.specs.Structure.{Kripke}
use Rattle.kripke.specs.Rounds.{Same, Together, ClassOf, home, place, total}
use Rattle.kripke.proofs.Either.{Either, least_of}
use Rattle.kripke.proofs.Reflect.{same_either}

pub same_refl : (a : Kripke) (k s : ℕ) → Same a a k s s
same_refl a zero s = λ i. refl
same_refl a (suc k) s = (same_refl a k s, λ v m. (v, m, same_refl a k v), λ v m. (v, m, same_refl a k v))

pub same_sym : (a b : Kripke) (k s t : ℕ) → Same a b k s t → Same b a k t s
same_sym a b zero s t h = λ i. sym (h i)
same_sym a b (suc k) s t h = (
  same_sym a b k s t h.0,
  λ v m. (let z = h.2 v m in (z.0, z.1, same_sym a b k z.0 v z.2)),
  λ v m. (let z = h.1 v m in (z.0, z.1, same_sym a b k v z.0 z.2)),
)

pub same_trans : (a b c : Kripke) (k s t r : ℕ) → Same a b k s t → Same b c k t r → Same a c k s r
same_trans a b c zero s t r h g = λ i. h i ∙ g i
same_trans a b c (suc k) s t r h g = (
  same_trans a b c k s t r h.0 g.0,
  λ v m. (let p = h.1 v m in let q = g.1 p.0 p.1 in (q.0, q.1, same_trans a b c k v p.0 q.0 p.2 q.2)),
  λ v m. (let q = g.2 v m in let p = h.2 q.0 q.1 in (p.0, p.1, same_trans a b c k p.0 q.0 v p.2 q.2)),
)

module _ (a b : Kripke) (k : ℕ) where
  pub together_refl : (i : ℕ) → Together a b k i i
  together_refl i = same_refl (home a b i) k (place a b i)

  pub together_sym : (i j : ℕ) → Together a b k i j → Together a b k j i
  together_sym i j h = same_sym (home a b i) (home a b j) k (place a b i) (place a b j) h

  pub together_trans : (i j l : ℕ) → Together a b k i j → Together a b k j l → Together a b k i l
  together_trans i j l h g = same_trans (home a b i) (home a b j) (home a b l) k (place a b i) (place a b j) (place a b l) h g

  pub together_either : (i j : ℕ) → Either (Together a b k i j)
  together_either i j = same_either (home a b i) (home a b j) k (place a b i) (place a b j)

  -- Every number has a class number, and it is no larger; the class number is its own class number.
  pub class_exists : (i : ℕ) → (c : ℕ) × (c ≤ i) × ClassOf a b k i c
  class_exists i =
      let (c, l, h, lower) = least_of (Together a b k i) (together_either i) (suc i) i (omega arith) (together_refl i) in
      (c, l, record { member = h; least = λ j b g. elim (dec_lt j c) [ yes l' ↦ absurd (lower j l' g) | no n ↦ omega arith ] })

  pub class_low : (i c : ℕ) → i < total a b → ClassOf a b k i c → c ≤ i
  class_low i c h z = z.least i h (together_refl i)

  pub class_own : (i c : ℕ) → ClassOf a b k i c → ClassOf a b k c c
  class_own i c z = record { member = together_refl c; least = λ j b g. z.least j b (together_trans i c j z.member g) }

  -- Together means one class number.
  pub class_same : (i j c d : ℕ) → i < total a b → j < total a b → ClassOf a b k i c → ClassOf a b k j d → Together a b k i j → c ≡ d
  class_same i j c d hi hj x y h =
      let lc = class_low i c hi x in
      let ld = class_low j d hj y in
      omega (
        arith,
        x.least d (omega arith) (together_trans i j d h y.member),
        y.least c (omega arith) (together_trans j i c (together_sym i j h) x.member),
      )

  pub class_one : (i j c : ℕ) → ClassOf a b k i c → ClassOf a b k j c → Together a b k i j
  class_one i j c x y = together_trans i c j x.member (together_sym j c y.member)

  -- It is decided whether a number is its own class number.
  pub leads_either : (i : ℕ) → i < total a b → Either (ClassOf a b k i i)
  leads_either i h =
      let (c, l, z) = class_exists i in
      elim (ℕ_discrete c i) [
        | yes e ↦ inl (subst (λ (d : ℕ). ClassOf a b k i d) e z)
        | no n ↦ inr (λ y. n (class_same i i c i h h z y (together_refl i)))
      ]

-- Once the least of its class, a number stays so.
pub leads_on : (a b : Kripke) (k i : ℕ) → ClassOf a b k i i → ClassOf a b (suc k) i i
leads_on a b k i z = record { member = together_refl a b (suc k) i; least = λ j h g. z.least j h g.0 }
