-- Rounds and formulas, the other way: where k rounds tell two states apart, a next-only formula of nesting k or less is built that separates them.
use Rattle.std.proofs.Common.{◌≡◌, ℕ, zero, suc, ◌<◌, ◌≤◌, Bool, true, false, ◌⊎◌, List, [], ◌∷◌, sym, refl, ◌∙◌, subst, inl, inr, ⊎_elim, arith}
use Rattle.std.proofs.lemmas.Bool.{both_ways}
use Rattle.kripke.specs.Structure.{Kripke, Closed, Member, answer, size, state, successors}
use Rattle.kripke.specs.Ctl.{Formula, truth, question, and, EX}
use Rattle.kripke.specs.Ctl.{Holds, NextOnly, nesting}
use Rattle.kripke.specs.Rounds.{Matched, Same, Separated}
use Rattle.kripke.specs.Theorems.{SameOrSeparated, SameWhenInseparable}
use Rattle.kripke.proofs.Walks.{through, second}
use Rattle.kripke.proofs.Either.{mated_or, labels_or}
use Rattle.kripke.proofs.Sound.{same_unseparated}

-- A next-only formula of nesting k or less that holds at s of a and fails at t of b.
pub record Parts (a b : Kripke) (k s t : ℕ) (f : Formula) : Type 0 where
  pub plain : NextOnly f
  pub shallow : nesting f ≤ k
  pub here : Holds a f s
  pub not_there : ¬ Holds b f t

abbrev pub Parted : Kripke → Kripke → ℕ → ℕ → ℕ → Type 0
Parted a b k s t = (f : Formula) × Parts a b k s t f

pub swap : (a b : Kripke) (k s t : ℕ) → Parted a b k s t → Parted b a k t s
swap a b k s t (f, z) = (Formula.not f, record { plain = z.plain; shallow = z.shallow; here = z.not_there; not_there = λ n. n z.here })

pub deeper : (a b : Kripke) (k s t : ℕ) → Parted a b k s t → Parted a b (suc k) s t
deeper a b k s t (f, z) = (f, record { plain = z.plain; shallow = omega arith; here = z.here; not_there = z.not_there })

pub told_separated : (a b : Kripke) (k s t : ℕ) → Parted a b k s t → Separated a b k s t
told_separated a b k s t (f, z) = (f, z.plain, z.shallow, inl (z.here, z.not_there))

pub separated_told : (a b : Kripke) (k s t : ℕ) → Separated a b k s t → Parted a b k s t
separated_told a b k s t (f, o, n, inl z) = (f, record { plain = o; shallow = n; here = z.0; not_there = z.1 })
separated_told a b k s t (f, o, n, inr z) = (Formula.not f, record { plain = o; shallow = n; here = z.0; not_there = λ x. x z.1 })

-- One formula that holds at u and fails at every state of a list: the conjunction of one for each.
record Refutes (a b : Kripke) (k u : ℕ) (l : List ℕ) (f : Formula) : Type 0 where
  plain : NextOnly f
  shallow : nesting f ≤ k
  here : Holds a f u
  nowhere : (v : ℕ) → Member v l → ¬ Holds b f v

refute : (a b : Kripke) (k u : ℕ) (l : List ℕ) → ((v : ℕ) → Member v l → Parted a b k u v) → (f : Formula) × Refutes a b k u l f
refute a b k u [] parted = (truth, record { plain = tt; shallow = omega arith; here = tt; nowhere = λ v m h. absurd m })
refute a b k u (x ∷ l) parted =
    let (f, z) = parted x (inl refl) in
    let (g, r) = refute a b k u l (λ v m. parted v (inr m)) in (
      and f g,
      record {
        plain = (z.plain, r.plain);
        shallow = omega arith;
        here = (z.here, r.here);
        nowhere = λ v m h. elim m [ inl e ↦ z.not_there (subst (λ y. Holds b f y) e h.0) | inr m' ↦ r.nowhere v m' h.1 ];
      },
    )

-- A successor of s that no successor of t matches: it is parted from all of them by one formula, under EX.
unmatched : (a b : Kripke) → Closed a → (k s t u : ℕ) → s < size a → Member u (successors a s)
    → ((v : ℕ) → Member v (successors b t) → Parted a b k u v) → Parted a b (suc k) s t
unmatched a b la k s t u hs m parted =
    let (f, r) = refute a b k u (successors b t) parted in
    let (p, way, e) = through a la s u hs m in (
      EX f,
      record {
        plain = r.plain;
        shallow = omega arith;
        here = (p, way, subst (λ y. Holds a f y) (sym e) r.here);
        not_there = λ x. r.nowhere (x.0 1) (second b t x.0 x.1) x.2;
      },
    )

-- Labels that differ are parted apart by a question or its negation.
asked : (a b : Kripke) (s t i : ℕ) → (¬ answer a s i ≡ answer b t i) → Parted a b 0 s t
asked a b s t i d = go (answer a s i) (answer b t i) refl refl
  where
    go : (x y : Bool) → answer a s i ≡ x → answer b t i ≡ y → Parted a b 0 s t
    go true true p q = absurd (d (p ∙ sym q))
    go false false p q = absurd (d (p ∙ sym q))
    go true false p q = (question i, record { plain = tt; shallow = omega arith; here = p; not_there = both_ways (answer b t i) q })
    go false true p q = (Formula.not (question i), record { plain = tt; shallow = omega arith; here = both_ways (answer a s i) p; not_there = λ n. n q })

module _ (a b : Kripke) (la : Closed a) (lb : Closed b) where
  pub decide : (k s t : ℕ) → s < size a → t < size b → Same a b k s t ⊎ Parted a b k s t
  decide zero s t hs ht = ⊎_elim inl (λ z. inr (asked a b s t z.0 z.1)) (labels_or (state a s).answers (state b t).answers)
  decide (suc k) s t hs ht =
      go (decide k s t hs ht)
      (mated_or _ _ (successors a s) (successors b t) (λ u v m m'. decide k u v (la.inside s u hs m) (lb.inside t v ht m')))
      (mated_or _ _ (successors b t) (successors a s) (λ v u m' m. decide k u v (la.inside s u hs m) (lb.inside t v ht m')))
    where
      go : Same a b k s t ⊎ Parted a b k s t
          → Matched (λ u v. Same a b k u v) a b s t ⊎ ((u : ℕ) × Member u (successors a s) × ((v : ℕ) → Member v (successors b t) → Parted a b k u v))
          → Matched (λ v u. Same a b k u v) b a t s ⊎ ((v : ℕ) × Member v (successors b t) × ((u : ℕ) → Member u (successors a s) → Parted a b k u v))
          → Same a b (suc k) s t ⊎ Parted a b (suc k) s t
      go (inr z) x y = inr (deeper a b k s t z)
      go (inl h) (inr z) y = inr (unmatched a b la k s t z.0 hs z.1 z.2)
      go (inl h) (inl x) (inr z) = inr (swap b a (suc k) t s (unmatched b a lb k t s z.0 ht z.1 (λ u m. swap a b k u z.0 (z.2 u m))))
      go (inl h) (inl x) (inl y) = inl (h, x, y)

pub same_or_separated : SameOrSeparated
same_or_separated a b la lb k s t hs ht = ⊎_elim inl (λ z. inr (told_separated a b k s t z)) (decide a b la lb k s t hs ht)

pub same_when_inseparable : SameWhenInseparable
same_when_inseparable a b la lb k s t hs ht =
    (same_unseparated a b la lb k s t hs ht, λ no. ⊎_elim (λ h. h) (λ z. absurd (no z)) (same_or_separated a b la lb k s t hs ht))
