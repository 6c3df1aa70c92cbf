-- Rounds and formulas, one way: states that are the same after k rounds agree on every next-only formula of nesting k or less.
use Rattle.std.proofs.Common.{◌≡◌, ℕ, zero, suc, ◌<◌, ◌≤◌, ◌↔◌, sym, ◌∙◌, subst, inl, inr, arith}
use mathlib.Core.Logic.Iff
use native.Mathlib.Decide.{dec_le}
use Rattle.kripke.specs.Structure.{Kripke, Closed, answer, size}
use Rattle.kripke.specs.Ctl.{Formula, truth, question, and, or, EX, AX, EF, AF, EG, AG, EU, AU}
use Rattle.kripke.specs.Ctl.{Holds, NextOnly, nesting}
use Rattle.kripke.specs.Rounds.{Matched, Same, Separates, Separated}
use Rattle.kripke.specs.Theorems.{LeastNesting}
use Rattle.kripke.proofs.Walks.{through, second}

-- After any round the labels agree.
pub same_answers : (a b : Kripke) (k s t : ℕ) → Same a b k s t → (i : ℕ) → answer a s i ≡ answer b t i
same_answers a b zero s t h = h
same_answers a b (suc k) s t h = same_answers a b k s t h.0

-- A formula that two states agree on does not separate them.
pub unseparated : (a b : Kripke) (s t : ℕ) (f : Formula) → Holds a f s ↔ Holds b f t → ¬ Separates a b s t f
unseparated a b s t f e (inl z) = z.1 (e.0 z.0)
unseparated a b s t f e (inr z) = z.0 (e.1 z.1)

-- EX carries over where the successors of s are matched in b.
carries : (a b : Kripke) → Closed a → Closed b → (R : ℕ → ℕ → Type 0) (f : Formula) (s t : ℕ) → s < size a → t < size b → Matched R a b s t
    → ((u v : ℕ) → u < size a → v < size b → R u v → Holds a f u → Holds b f v) → Holds a (EX f) s → Holds b (EX f) t
carries a b la lb R f s t hs ht m ih x =
    let u = x.0 1 in
    let mu = second a s x.0 x.1 in
    let (v, mv, r) = m u mu in
    let (p, way, e) = through b lb t v ht mv in
    (p, way, subst (λ y. Holds b f y) (sym e) (ih u v (la.inside s u hs mu) (lb.inside t v ht mv) r x.2))

module _ (a b : Kripke) (la : Closed a) (lb : Closed b) where
  pub sound : (f : Formula) (k s t : ℕ) → s < size a → t < size b → Same a b k s t → NextOnly f → nesting f ≤ k → Holds a f s ↔ Holds b f t
  sound truth k s t hs ht h o n = Iff.rfl
  sound (question i) k s t hs ht h o n = let e = same_answers a b k s t h i in (λ x. sym e ∙ x, λ x. e ∙ x)
  sound (Formula.not f) k s t hs ht h o n = Iff.not (sound f k s t hs ht h o n)
  sound (and f g) k s t hs ht h o n = Iff.and (sound f k s t hs ht h o.0 (omega arith)) (sound g k s t hs ht h o.1 (omega arith))
  sound (or f g) k s t hs ht h o n = absurd o
  sound (EX f) zero s t hs ht h o n = absurd (omega arith)
  sound (EX f) (suc k) s t hs ht h o n = (
    carries a b la lb _ f s t hs ht h.1 (λ u v hu hv r. (sound f k u v hu hv r o (omega arith)).0),
    carries b a lb la _ f t s ht hs h.2 (λ v u hv hu r. (sound f k u v hu hv r o (omega arith)).1),
  )
  sound (AX f) k s t hs ht h o n = absurd o
  sound (EF f) k s t hs ht h o n = absurd o
  sound (AF f) k s t hs ht h o n = absurd o
  sound (EG f) k s t hs ht h o n = absurd o
  sound (AG f) k s t hs ht h o n = absurd o
  sound (EU f g) k s t hs ht h o n = absurd o
  sound (AU f g) k s t hs ht h o n = absurd o

-- So no such formula separates them, and one that does nests deeper.
pub same_unseparated : (a b : Kripke) → Closed a → Closed b → (k s t : ℕ) → s < size a → t < size b → Same a b k s t → ¬ Separated a b k s t
same_unseparated a b la lb k s t hs ht h (f, o, n, z) = unseparated a b s t f (sound a b la lb f k s t hs ht h o n) z

pub least_nesting : LeastNesting
least_nesting a b la lb k s t hs ht h f o z =
    elim (dec_le (nesting f) k) [ yes l ↦ absurd (unseparated a b s t f (sound a b la lb f k s t hs ht h o l) z) | no n ↦ omega arith ]
