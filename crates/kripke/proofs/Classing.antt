-- Lists of class numbers: how they begin, what a round makes of them, when nothing is split, and how many classes they have.
use Rattle.std.proofs.Common.{◌≡◌, ℕ, suc, ◌+◌, ◌-◌, ◌<◌, ◌≤◌, eqb, ◌↔◌, List, get_or, sym, subst, arith}
use mathlib.Core.Logic.Iff
use Rattle.kripke.specs.Structure.{Kripke, Closed, answer, size}
use Rattle.kripke.specs.Rounds.{Matched, Same, Together, ClassOf, Settled, home, place, total}
use Rattle.kripke.specs.Tests.{together}
use Rattle.kripke.specs.Union.{both}
use Rattle.kripke.specs.Classes.{Alike, Numbered, Low, Led, Refined, Count, Classes}
use Rattle.kripke.proofs.Reflect.{beq_iff, eqb-T, together-T}
use Rattle.kripke.proofs.Numbers.{first_to, first_of, second_to, second_of}
use Rattle.kripke.proofs.Equal.{together_refl, class_low, class_own, class_same, class_one}
use Rattle.kripke.proofs.Unions.{both_size, both_closed, both_together}
use Rattle.kripke.proofs.Growth.{count_map}

-- A list of class numbers as a fact of a struct, and as the statement that one number means being together.
pub numbered_to : (a b : Kripke) (k : ℕ) (cls : List ℕ) → Numbered a b k cls → (i j : ℕ) → i < total a b → j < total a b → Alike cls i j ↔ Together a b k i j
numbered_to a b k cls n i j hi hj =
    Iff.trans (Iff.symm (eqb-T (get_or cls i 0) (get_or cls j 0)))
    (Iff.trans ((beq_iff (eqb (get_or cls i 0) (get_or cls j 0)) (together a b k i j)).0 (n i j hi hj)) (together-T a b k i j))

pub numbered_of : (a b : Kripke) (k : ℕ) (cls : List ℕ) → ((i j : ℕ) → i < total a b → j < total a b → Alike cls i j ↔ Together a b k i j) → Numbered a b k cls
numbered_of a b k cls e i j hi hj =
    (beq_iff (eqb (get_or cls i 0) (get_or cls j 0)) (together a b k i j)).1
    (Iff.trans (eqb-T (get_or cls i 0) (get_or cls j 0)) (Iff.trans (e i j hi hj) (Iff.symm (together-T a b k i j))))

-- What matches by one relation matches by another that follows from it.
matched_map : (u : Kripke) → Closed u → (R S : ℕ → ℕ → Type 0) → ((v w : ℕ) → v < size u → w < size u → R v w → S v w)
    → (i j : ℕ) → i < size u → j < size u → Matched R u u i j → Matched S u u i j
matched_map u law R S on i j hi hj h v m =
    let (w, m', r) = h v m in
    (w, m', on v w (law.inside i v hi m) (law.inside j w hj m') r)

module _ (a b : Kripke) (la : Closed a) (lb : Closed b) where
  -- A list that has one number for states whose labels agree, and for no others, numbers the classes at the opening.
  pub opened_numbered : (cls : List ℕ)
      → ((i j : ℕ) → i < total a b → j < total a b → Alike cls i j ↔ ((q : ℕ) → answer (both a b) i q ≡ answer (both a b) j q))
      → Numbered a b 0 cls
  opened_numbered cls o = numbered_of a b 0 cls (λ i j hi hj. Iff.trans (o i j hi hj) (Iff.symm (both_together a b la lb 0 i j hi hj)))

  -- A round of refinement numbers the classes after one round more.
  pub round_numbered : (k : ℕ) (old new : List ℕ) → Numbered a b k old → Refined a b old new → Numbered a b (suc k) new
  round_numbered k old new n r = numbered_of a b (suc k) new (λ i j hi hj. Iff.trans (r i j hi hj) (Iff.trans (step i j hi hj) (Iff.symm (both_together a b la lb (suc k) i j hi hj))))
    where
      to : (v w : ℕ) → v < size (both a b) → w < size (both a b) → Alike old v w → Same (both a b) (both a b) k v w
      to v w hv hw e =
          let lv : v < total a b = omega (arith, both_size a b) in
          let lw : w < total a b = omega (arith, both_size a b) in
          (both_together a b la lb k v w lv lw).0 ((numbered_to a b k old n v w lv lw).0 e)

      of : (v w : ℕ) → v < size (both a b) → w < size (both a b) → Same (both a b) (both a b) k v w → Alike old v w
      of v w hv hw s =
          let lv : v < total a b = omega (arith, both_size a b) in
          let lw : w < total a b = omega (arith, both_size a b) in
          (numbered_to a b k old n v w lv lw).1 ((both_together a b la lb k v w lv lw).1 s)

      step : (i j : ℕ) → i < total a b → j < total a b
          → (Alike old i j × Matched (Alike old) (both a b) (both a b) i j × Matched (λ v u. Alike old u v) (both a b) (both a b) j i) ↔ Same (both a b) (both a b) (suc k) i j
      step i j hi hj =
          let law = both_closed a b la lb in
          let li : i < size (both a b) = omega (arith, both_size a b) in
          let lj : j < size (both a b) = omega (arith, both_size a b) in (
            λ h. (to i j li lj h.0, matched_map (both a b) law _ _ to i j li lj h.1, matched_map (both a b) law _ _ (λ w v hw hv e. to v w hv hw e) j i lj li h.2),
            λ h. (of i j li lj h.0, matched_map (both a b) law _ _ of i j li lj h.1, matched_map (both a b) law _ _ (λ w v hw hv e. of v w hv hw e) j i lj li h.2),
          )

-- A round that changes no class splits nothing.
pub still_settled : (a b : Kripke) (k : ℕ) (old new : List ℕ) → Numbered a b k old → Numbered a b (suc k) new
    → ((i j : ℕ) → i < total a b → j < total a b → Alike old i j → Alike new i j) → Settled a b k
still_settled a b k old new o n keep i j hi hj h =
    (numbered_to a b (suc k) new n i j hi hj).0 (keep i j hi hj ((numbered_to a b k old o i j hi hj).1 h))

-- A round that changes some class splits something.
pub changed_unsettled : (a b : Kripke) (k : ℕ) (old new : List ℕ) → Numbered a b k old → Numbered a b (suc k) new
    → (i j : ℕ) → i < total a b → j < total a b → Alike old i j → (¬ Alike new i j) → ¬ Settled a b k
changed_unsettled a b k old new o n i j hi hj e d st = d ((numbered_to a b (suc k) new n i j hi hj).1 (st i j hi hj ((numbered_to a b k old o i j hi hj).0 e)))

module _ (a b : Kripke) (k : ℕ) (cls : List ℕ) where
  -- Low and led, the numbers are the least of their classes; and back.
  pub class_of : Numbered a b k cls → Low (total a b) cls → Led (total a b) cls → (i : ℕ) → i < total a b → ClassOf a b k i (get_or cls i 0)
  class_of n low led i h =
      let l = low i h in
      record {
        member = (numbered_to a b k cls n i (get_or cls i 0) h (omega arith)).0 (sym (led i h));
        least = λ j hj g. omega (arith, low j hj, (numbered_to a b k cls n i j h hj).1 g);
      }

  module _ (each : (i : ℕ) → i < total a b → ClassOf a b k i (get_or cls i 0)) where
    pub of_class_numbered : Numbered a b k cls
    of_class_numbered = numbered_of a b k cls (λ i j hi hj. (
      λ e. class_one a b k i j (get_or cls j 0) (subst (λ (c : ℕ). ClassOf a b k i c) e (each i hi)) (each j hj),
      λ h. class_same a b k i j (get_or cls i 0) (get_or cls j 0) hi hj (each i hi) (each j hj) h,
    ))

    pub of_class_low : Low (total a b) cls
    of_class_low i h = class_low a b k i (get_or cls i 0) h (each i h)

    pub of_class_led : Led (total a b) cls
    of_class_led i h =
        let l = of_class_low i h in
        let c = get_or cls i 0 in
        class_same a b k c c (get_or cls c 0) c (omega arith) (omega arith) (each c (omega arith)) (class_own a b k i c (each i h)) (together_refl a b k c)

    leads : (i : ℕ) → i < total a b → (get_or cls i 0 ≡ i) ↔ ClassOf a b k i i
    leads i h = (
      λ e. subst (λ (c : ℕ). ClassOf a b k i c) e (each i h),
      λ z. class_same a b k i i (get_or cls i 0) i h h (each i h) z (together_refl a b k i),
    )

    -- The classes are as many as the states that have their own number.
    pub table_classes : (c : ℕ) → Count (λ i. get_or cls i 0 ≡ i) (total a b) c ↔ Classes a b k c
    table_classes c = (
      λ x. count_map _ _ (total a b) c x (λ i h. (leads i h).0) (λ i h. (leads i h).1),
      λ x. count_map _ _ (total a b) c x (λ i h. (leads i h).1) (λ i h. (leads i h).0),
    )

-- State s of the first and state t of the second are the same when their numbers are together.
pub cross_together : (a b : Kripke) (k s t : ℕ) → s < size a → Same a b k s t ↔ Together a b k s (size a + t)
cross_together a b k s t hs =
    let l : size a ≤ size a + t = omega arith in
    let e : size a + t - size a ≡ t = omega arith in (
      λ h. first_to a b (λ x i. Same x (home a b (size a + t)) k i (place a b (size a + t))) s hs
          (second_to a b (λ y j. Same a y k s j) (size a + t) l (subst (λ (j : ℕ). Same a b k s j) (sym e) h)),
      λ h. subst (λ (j : ℕ). Same a b k s j) e (second_of a b (λ y j. Same a y k s j) (size a + t) l
          (first_of a b (λ x i. Same x (home a b (size a + t)) k i (place a b (size a + t))) s hs h)),
    )
