-- CTL: formulas, paths, and what it means that a formula holds at a state.
use Rattle.std.specs.Prelude.{◌≡◌, ℕ, suc, ◌<◌, max, true, ◌⊎◌}
use Rattle.kripke.specs.Structure.{Kripke, Member, answer, successors}

pub data Formula : Type 0 where
  truth : Formula
  question : ℕ → Formula
  not : Formula → Formula
  and or : Formula → Formula → Formula
  EX AX EF AF EG AG : Formula → Formula
  EU AU : Formula → Formula → Formula

-- A path from s: an infinite sequence of states that begins with s, each followed by one of its successors.
pub record Path (k : Kripke) (s : ℕ) (p : ℕ → ℕ) : Type 0 where
  pub starts : p 0 ≡ s
  pub steps : (i : ℕ) → Member (p (suc i)) (successors k (p i))

-- Some path from s, or each one, is as Φ says.
abbrev pub OnSome : Kripke → ℕ → ((ℕ → ℕ) → Type 0) → Type 0
OnSome k s Φ = (p : ℕ → ℕ) × Path k s p × Φ p

abbrev pub OnEach : Kripke → ℕ → ((ℕ → ℕ) → Type 0) → Type 0
OnEach k s Φ = (p : ℕ → ℕ) → Path k s p → Φ p

-- What is said of a path: P at position 1; P at every position; Q at some position, and P at every position before it.
abbrev pub Next : (ℕ → Type 0) → (ℕ → ℕ) → Type 0
Next P p = P (p 1)

abbrev pub Always : (ℕ → Type 0) → (ℕ → ℕ) → Type 0
Always P p = (i : ℕ) → P (p i)

abbrev pub Until : (ℕ → Type 0) → (ℕ → Type 0) → (ℕ → ℕ) → Type 0
Until P Q p = (n : ℕ) × Q (p n) × ((j : ℕ) → j < n → P (p j))

abbrev pub Anything : ℕ → Type 0
Anything _ = Unit {0}

-- The formula holds at state s.
abbrev pub Holds : Kripke → Formula → ℕ → Type 0
Holds k truth s = Unit {0}
Holds k (question i) s = answer k s i ≡ true
Holds k (not f) s = ¬ Holds k f s
Holds k (and f g) s = Holds k f s × Holds k g s
Holds k (or f g) s = Holds k f s ⊎ Holds k g s
Holds k (EX f) s = OnSome k s (Next (Holds k f))
Holds k (AX f) s = OnEach k s (Next (Holds k f))
Holds k (EF f) s = OnSome k s (Until Anything (Holds k f))
Holds k (AF f) s = OnEach k s (Until Anything (Holds k f))
Holds k (EG f) s = OnSome k s (Always (Holds k f))
Holds k (AG f) s = OnEach k s (Always (Holds k f))
Holds k (EU f g) s = OnSome k s (Until (Holds k f) (Holds k g))
Holds k (AU f g) s = OnEach k s (Until (Holds k f) (Holds k g))

-- The formula is made of true, questions, not, and, EX alone.
abbrev pub NextOnly : Formula → Type 0
NextOnly truth = Unit {0}
NextOnly (question i) = Unit {0}
NextOnly (not f) = NextOnly f
NextOnly (and f g) = NextOnly f × NextOnly g
NextOnly (or f g) = ⊥
NextOnly (EX f) = NextOnly f
NextOnly (AX f) = ⊥
NextOnly (EF f) = ⊥
NextOnly (AF f) = ⊥
NextOnly (EG f) = ⊥
NextOnly (AG f) = ⊥
NextOnly (EU f g) = ⊥
NextOnly (AU f g) = ⊥

-- The greatest number of EX one inside another.
abbrev pub nesting : Formula → ℕ
nesting truth = 0
nesting (question i) = 0
nesting (not f) = nesting f
nesting (and f g) = max (nesting f) (nesting g)
nesting (or f g) = max (nesting f) (nesting g)
nesting (EX f) = suc (nesting f)
nesting (AX f) = nesting f
nesting (EF f) = nesting f
nesting (AF f) = nesting f
nesting (EG f) = nesting f
nesting (AG f) = nesting f
nesting (EU f g) = max (nesting f) (nesting g)
nesting (AU f g) = max (nesting f) (nesting g)
