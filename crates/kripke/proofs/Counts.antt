-- The number of classes: a round that splits nothing leaves it, and any other makes it grow.
use Rattle.std.proofs.Common.{◌≡◌, ℕ, suc, ◌<◌, ◌≤◌, subst, arith}
use mathlib.Core.Logic.{⊎_map}
use Rattle.kripke.specs.Structure.{Kripke}
use Rattle.kripke.specs.Rounds.{ClassOf, Settled, total}
use Rattle.kripke.specs.Theorems.{ClassesCounted, ClassesGrow}
use Rattle.kripke.proofs.Growth.{count_exists, count_same, count_some, rests_or_grows, at_rest}
use Rattle.kripke.proofs.Equal.{together_refl, together_sym, together_trans, class_exists, class_own, class_one, class_same, leads_either, leads_on}

module _ (a b : Kripke) where
  -- No number becomes the least of its class in round k + 1.
  abbrev Unled : ℕ → Type 0
  Unled k = (i : ℕ) → i < total a b → ClassOf a b (suc k) i i → ClassOf a b k i i

  -- Where no number does, nothing is split: two numbers that are together have one class number after the round too, since both were the least before.
  unled_settled : (k : ℕ) → Unled k → Settled a b k
  unled_settled k keep i j hi hj h =
      let (c, lc, x) = class_exists a b (suc k) i in
      let (d, ld, y) = class_exists a b (suc k) j in
      let one = together_trans a b k c i d (together_sym a b k i c x.member.0) (together_trans a b k i j d h y.member.0) in
      let e : c ≡ d = class_same a b k c d c d (omega arith) (omega arith) (keep c (omega arith) (class_own a b (suc k) i c x)) (keep d (omega arith) (class_own a b (suc k) j d y)) one in
      class_one a b (suc k) i j d (subst (λ (n : ℕ). ClassOf a b (suc k) i n) e x) y

  settled_unled : (k : ℕ) → Settled a b k → Unled k
  settled_unled k st i h z = record { member = together_refl a b k i; least = λ j l g. z.least j l (st i j h l g) }

pub classes_counted : ClassesCounted
classes_counted a b k =
    let P = λ (i : ℕ). ClassOf a b k i i in
    let (c, l, x) = count_exists P (total a b) (leads_either a b k) in
    (c, l, x, λ d y. count_same P P (total a b) c d x y (λ i h p. p) (λ i h p. p))

pub classes_grow : ClassesGrow
classes_grow a b k c d x y =
    ⊎_map (λ z. (unled_settled a b k z.0, z.1)) (λ z. (λ st. z.0 (settled_unled a b k st), z.1))
    (rests_or_grows (λ j i. ClassOf a b j i i) (total a b) (leads_either a b) (λ j i h. leads_on a b j i) k c d x y)

-- Where there is a state, one of the first rounds, fewer than the states, splits nothing.
pub settles : (a b : Kripke) → 1 ≤ total a b → (k : ℕ) × (k < total a b) × Settled a b k
settles a b some =
    let (c, l, x, _) = classes_counted a b 0 in
    let one = count_some (λ i. ClassOf a b 0 i i) (total a b) c x 0 some (record { member = together_refl a b 0 0; least = λ j h g. omega arith }) in
    let (k, l', r) = at_rest (λ j i. ClassOf a b j i i) (total a b) (leads_either a b) (λ j i h. leads_on a b j i) c x in
    (k, omega arith, unled_settled a b k r)
