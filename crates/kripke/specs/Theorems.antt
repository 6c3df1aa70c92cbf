-- The theorems that the comparison rests on.
use Rattle.std.specs.Prelude.{◌≡◌, ℕ, suc, ◌<◌, ◌≤◌, T, ◌⊎◌, ◌↔◌}
use Rattle.kripke.specs.Structure.{Kripke, Closed, Lawful, size}
use Rattle.kripke.specs.Ctl.{Formula, Holds, NextOnly, nesting}
use Rattle.kripke.specs.Rounds.{Same, Separates, Apart, Separated, total, home, place, Together, Inseparable, ClassOf, Settled}
use Rattle.kripke.specs.Rounds.{ClosedDifferent, ClosedAlike, FirstClosed}
use Rattle.kripke.specs.Tests.{same}
use Rattle.kripke.specs.Classes.{Classes}

-- Two states are the same after k rounds exactly when no next-only formula of nesting k or less separates them.
abbrev pub SameWhenInseparable : Type 0
SameWhenInseparable = (a b : Kripke) → Closed a → Closed b → (k s t : ℕ) → s < size a → t < size b
    → Same a b k s t ↔ ¬ Separated a b k s t

-- Two states are the same after k rounds, or here is a next-only formula of nesting k or less that separates them.
abbrev pub SameOrSeparated : Type 0
SameOrSeparated = (a b : Kripke) → Closed a → Closed b → (k s t : ℕ) → s < size a → t < size b
    → Same a b k s t ⊎ Separated a b k s t

-- The class number of a state is the least number of a state that no next-only formula of nesting k or less separates from it.
abbrev pub ClassByFormulas : Type 0
ClassByFormulas = (a b : Kripke) → Closed a → Closed b → (k i c : ℕ) → i < total a b → c < total a b
    → ClassOf a b k i c ↔ (Inseparable a b k i c × ((j : ℕ) → j < total a b → Inseparable a b k i j → c ≤ j))

-- Where a round splits nothing, states that are together agree on every CTL formula, of any size, each in its own structure.
abbrev pub SettledAgree : Type 0
SettledAgree = (a b : Kripke) → Closed a → Closed b → (k : ℕ) → Settled a b k → (i j : ℕ) → i < total a b → j < total a b → Together a b k i j
    → (f : Formula) → Holds (home a b i) f (place a b i) ↔ Holds (home a b j) f (place a b j)

-- Some CTL formula separates two states exactly when some round tells them apart;
abbrev pub ApartByRounds : Type 0
ApartByRounds = (a b : Kripke) → Closed a → Closed b → (s t : ℕ) → s < size a → t < size b
    → Apart a b s t ↔ ((k : ℕ) × ¬ Same a b k s t)

-- so some CTL formula separates the initial states of two models exactly when some round closes their comparison as different.
abbrev pub ModelsApart : Type 0
ModelsApart = (q : ℕ) (a b : Kripke) → Lawful q a → Lawful q b
    → Apart a b a.initial b.initial ↔ ((k : ℕ) × ClosedDifferent a b k)

-- A next-only formula that separates two states nests deeper than any number of rounds after which they are the same.
abbrev pub LeastNesting : Type 0
LeastNesting = (a b : Kripke) → Closed a → Closed b → (k s t : ℕ) → s < size a → t < size b → Same a b k s t
    → (f : Formula) → NextOnly f → Separates a b s t f → k < nesting f

-- Closing comes within as many rounds as there are states: k rounds close the comparison, and fewer do not.
abbrev pub ClosesInTime : Type 0
ClosesInTime = (q : ℕ) (a b : Kripke) → Lawful q a → Lawful q b → (k : ℕ) × (k ≤ total a b) × FirstClosed a b k

-- What closing means: as alike, that no CTL formula of any size separates the initial states;
abbrev pub AlikeAgree : Type 0
AlikeAgree = (q : ℕ) (a b : Kripke) → Lawful q a → Lawful q b → (k : ℕ) → ClosedAlike a b k → ¬ Apart a b a.initial b.initial

-- as different, that a next-only formula of nesting k separates them, and no next-only formula that does nests less deep.
abbrev pub DifferentSeparated : Type 0
DifferentSeparated = (q : ℕ) (a b : Kripke) → Lawful q a → Lawful q b → (k : ℕ) → FirstClosed a b k → ClosedDifferent a b k
    → ((f : Formula) × NextOnly f × (nesting f ≡ k) × Separates a b a.initial b.initial f)
    × ((f : Formula) → NextOnly f → Separates a b a.initial b.initial f → k ≤ nesting f)

-- After any number of rounds there is one number of classes, at most that of the states;
abbrev pub ClassesCounted : Type 0
ClassesCounted = (a b : Kripke) (k : ℕ) → (c : ℕ) × (c ≤ total a b) × Classes a b k c × ((d : ℕ) → Classes a b k d → c ≡ d)

-- a round that splits nothing leaves it, and any other makes it grow.
abbrev pub ClassesGrow : Type 0
ClassesGrow = (a b : Kripke) (k c d : ℕ) → Classes a b k c → Classes a b (suc k) d
    → (Settled a b k × (c ≡ d)) ⊎ (¬ Settled a b k × (c < d))

-- Every formula is decided at every state.
abbrev pub Decided : Type 0
Decided = (k : Kripke) → Closed k → (f : Formula) (s : ℕ) → s < size k → Holds k f s ⊎ ¬ Holds k f s

-- The test of the rounds answers yes exactly for states that are the same.
abbrev pub TestReflects : Type 0
TestReflects = (a b : Kripke) (k s t : ℕ) → T (same a b k s t) ↔ Same a b k s t
