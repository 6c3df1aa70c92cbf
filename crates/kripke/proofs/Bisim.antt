-- Path lifting: states that a bisimulation relates agree on every CTL formula.
use Rattle.std.proofs.Common.{◌≡◌, ℕ, zero, suc, ◌↔◌, sym, refl, ◌∙◌, subst}
use mathlib.Core.Logic.Iff
use mathlib.Core.Logic.{⊎_map}
use Rattle.kripke.specs.Structure.{Kripke, answer}
use Rattle.kripke.specs.Ctl.{Formula, truth, question, and, or, EX, AX, EF, AF, EG, AG, EU, AU}
use Rattle.kripke.specs.Ctl.{Path, Next, Always, Until, OnSome, OnEach, Anything, Holds}
use Rattle.kripke.specs.Rounds.{Matched, Same}

-- R is a bisimulation between the states of a and those of b.
pub record Bisim (a b : Kripke) (R : ℕ → ℕ → Type 0) : Type 0 where
  pub alike : (s t i : ℕ) → R s t → answer a s i ≡ answer b t i
  pub forth : (s t : ℕ) → R s t → Matched R a b s t
  pub back : (s t : ℕ) → R s t → Matched (λ v u. R u v) b a t s

-- A path of a is followed in b, step by step.
module _ (a b : Kripke) (R : ℕ → ℕ → Type 0) (forth : (s t : ℕ) → R s t → Matched R a b s t) (s : ℕ) (p : ℕ → ℕ) (way : Path a s p) (t : ℕ) (r : R s t) where
  partner : (i : ℕ) → (v : ℕ) × R (p i) v
  partner zero = (t, subst (λ x. R x t) (sym way.starts) r)
  partner (suc i) = let m = forth (p i) (partner i).0 (partner i).1 (p (suc i)) (way.steps i) in (m.0, m.2)

  abbrev lifted : ℕ → ℕ
  lifted i = (partner i).0

  lifted_path : Path b t lifted
  unfolding partner
  lifted_path = record { starts = refl; steps = λ i. (forth (p i) (partner i).0 (partner i).1 (p (suc i)) (way.steps i)).1 }

  lift : (q : ℕ → ℕ) × Path b t q × ((i : ℕ) → R (p i) (q i))
  lift = (lifted, lifted_path, λ i. (partner i).1)

-- P of a state is what P' is of each state that R relates to it; and the same of paths that are matched place by place.
abbrev Alike : (ℕ → ℕ → Type 0) → (ℕ → Type 0) → (ℕ → Type 0) → Type 0
Alike R P P' = (s t : ℕ) → R s t → P s ↔ P' t

abbrev AlikeOn : (ℕ → ℕ → Type 0) → ((ℕ → ℕ) → Type 0) → ((ℕ → ℕ) → Type 0) → Type 0
AlikeOn R Φ Ψ = (p q : ℕ → ℕ) → ((i : ℕ) → R (p i) (q i)) → Φ p ↔ Ψ q

module _ (R : ℕ → ℕ → Type 0) (P P' : ℕ → Type 0) (on_p : Alike R P P') where
  next_alike : AlikeOn R (Next P) (Next P')
  next_alike p q rs = on_p (p 1) (q 1) (rs 1)

  always_alike : AlikeOn R (Always P) (Always P')
  always_alike p q rs = (λ h i. (on_p (p i) (q i) (rs i)).0 (h i), λ h i. (on_p (p i) (q i) (rs i)).1 (h i))

  until_alike : (Q Q' : ℕ → Type 0) → Alike R Q Q' → AlikeOn R (Until P Q) (Until P' Q')
  until_alike Q Q' on_q p q rs = (
    λ h. (h.0, (on_q (p h.0) (q h.0) (rs h.0)).0 h.1, λ j l. (on_p (p j) (q j) (rs j)).0 (h.2 j l)),
    λ h. (h.0, (on_q (p h.0) (q h.0) (rs h.0)).1 h.1, λ j l. (on_p (p j) (q j) (rs j)).1 (h.2 j l)),
  )

module _ (a b : Kripke) (R : ℕ → ℕ → Type 0) (z : Bisim a b R) (Φ Ψ : (ℕ → ℕ) → Type 0) (same : AlikeOn R Φ Ψ) where
  some_alike : Alike R (λ s. OnSome a s Φ) (λ t. OnSome b t Ψ)
  some_alike s t r = (
    λ h. let l = lift a b R z.forth s h.0 h.1 t r in (l.0, l.1, (same h.0 l.0 l.2).0 h.2),
    λ h. let l = lift b a (λ v u. R u v) (λ v u. z.back u v) t h.0 h.1 s r in (l.0, l.1, (same l.0 h.0 l.2).1 h.2),
  )

  each_alike : Alike R (λ s. OnEach a s Φ) (λ t. OnEach b t Ψ)
  each_alike s t r = (
    λ h q way. let l = lift b a (λ v u. R u v) (λ v u. z.back u v) t q way s r in (same l.0 q l.2).0 (h l.0 l.1),
    λ h p way. let l = lift a b R z.forth s p way t r in (same p l.0 l.2).1 (h l.0 l.1),
  )

anything_alike : (R : ℕ → ℕ → Type 0) → Alike R Anything Anything
anything_alike R s t r = Iff.rfl

pub agree : (a b : Kripke) (R : ℕ → ℕ → Type 0) → Bisim a b R → (f : Formula) → Alike R (Holds a f) (Holds b f)
agree a b R z truth = anything_alike R
agree a b R z (question i) = λ s t r. (λ e. sym (z.alike s t i r) ∙ e, λ e. z.alike s t i r ∙ e)
agree a b R z (Formula.not f) = λ s t r. Iff.not (agree a b R z f s t r)
agree a b R z (and f g) = λ s t r. Iff.and (agree a b R z f s t r) (agree a b R z g s t r)
agree a b R z (or f g) = λ s t r.
    (⊎_map (agree a b R z f s t r).0 (agree a b R z g s t r).0, ⊎_map (agree a b R z f s t r).1 (agree a b R z g s t r).1)
agree a b R z (EX f) = some_alike a b R z _ _ (next_alike R _ _ (agree a b R z f))
agree a b R z (AX f) = each_alike a b R z _ _ (next_alike R _ _ (agree a b R z f))
agree a b R z (EF f) = some_alike a b R z _ _ (until_alike R _ _ (anything_alike R) _ _ (agree a b R z f))
agree a b R z (AF f) = each_alike a b R z _ _ (until_alike R _ _ (anything_alike R) _ _ (agree a b R z f))
agree a b R z (EG f) = some_alike a b R z _ _ (always_alike R _ _ (agree a b R z f))
agree a b R z (AG f) = each_alike a b R z _ _ (always_alike R _ _ (agree a b R z f))
agree a b R z (EU f g) = some_alike a b R z _ _ (until_alike R _ _ (agree a b R z f) _ _ (agree a b R z g))
agree a b R z (AU f g) = each_alike a b R z _ _ (until_alike R _ _ (agree a b R z f) _ _ (agree a b R z g))

-- Related states are the same after any number of rounds.
pub bisim_same : (a b : Kripke) (R : ℕ → ℕ → Type 0) → Bisim a b R → (k s t : ℕ) → R s t → Same a b k s t
bisim_same a b R z zero s t r = λ i. z.alike s t i r
bisim_same a b R z (suc k) s t r = (
  bisim_same a b R z k s t r,
  λ u m. (let (v, m', r') = z.forth s t r u m in (v, m', bisim_same a b R z k u v r')),
  λ v m. (let (u, m', r') = z.back s t r v m in (u, m', bisim_same a b R z k u v r')),
)
