-- Rounds: which states the rule of the comparison tells apart, and which formulas do.
use Rattle.std.specs.Prelude.{◌≡◌, ℕ, zero, suc, ◌+◌, ◌-◌, ◌<◌, ◌≤◌, cond, ◌⊎◌, nat_lt}
use Rattle.kripke.specs.Structure.{Kripke, Member, answer, size, successors}
use Rattle.kripke.specs.Ctl.{Formula, Holds, NextOnly, nesting}

-- Each successor of s in a has a successor of t in b that R relates to it.
abbrev pub Matched : (ℕ → ℕ → Type 0) → Kripke → Kripke → ℕ → ℕ → Type 0
Matched R a b s t = (u : ℕ) → Member u (successors a s) → (v : ℕ) × Member v (successors b t) × R u v

-- State s of a and state t of b are the same after k rounds: at first when their labels agree on every question;
-- after a round when they were before, and each successor of either has one of the other that was the same.
abbrev pub Same : Kripke → Kripke → ℕ → ℕ → ℕ → Type 0
Same a b zero s t = (i : ℕ) → answer a s i ≡ answer b t i
Same a b (suc k) s t = Same a b k s t × Matched (λ u v. Same a b k u v) a b s t × Matched (λ v u. Same a b k u v) b a t s

-- The formula holds at one of the two states and fails at the other.
abbrev pub Separates : Kripke → Kripke → ℕ → ℕ → Formula → Type 0
Separates a b s t f = (Holds a f s × ¬ Holds b f t) ⊎ (¬ Holds a f s × Holds b f t)

-- Some CTL formula, of any size, separates the two states.
abbrev pub Apart : Kripke → Kripke → ℕ → ℕ → Type 0
Apart a b s t = (f : Formula) × Separates a b s t f

-- Some next-only formula of nesting k or less separates the two states.
abbrev pub Separated : Kripke → Kripke → ℕ → ℕ → ℕ → Type 0
Separated a b k s t = (f : Formula) × NextOnly f × (nesting f ≤ k) × Separates a b s t f

-- The states of two structures numbered through: below the first's size a state of the first, else one of the second.
abbrev pub total : Kripke → Kripke → ℕ
total a b = size a + size b

abbrev pub home : Kripke → Kripke → ℕ → Kripke
home a b i = cond (nat_lt i (size a)) a b

abbrev pub place : Kripke → Kripke → ℕ → ℕ
place a b i = cond (nat_lt i (size a)) i (i - size a)

-- The two numbered states are together after k rounds, each in its own structure.
abbrev pub Together : Kripke → Kripke → ℕ → ℕ → ℕ → Type 0
Together a b k i j = Same (home a b i) (home a b j) k (place a b i) (place a b j)

-- No next-only formula of nesting k or less separates the two numbered states.
abbrev pub Inseparable : Kripke → Kripke → ℕ → ℕ → ℕ → Type 0
Inseparable a b k i j = ¬ Separated (home a b i) (home a b j) k (place a b i) (place a b j)

-- The class number: the least number together with i.
pub record ClassOf (a b : Kripke) (k i c : ℕ) : Type 0 where
  pub member : Together a b k i c
  pub least : (j : ℕ) → j < total a b → Together a b k i j → c ≤ j

-- Round k + 1 splits nothing: states that are together stay so.
abbrev pub Settled : Kripke → Kripke → ℕ → Type 0
Settled a b k = (i j : ℕ) → i < total a b → j < total a b → Together a b k i j → Together a b (suc k) i j

-- The closing rule, after k rounds: as different when the initial states are not together, as alike when they are and the last round split nothing.
abbrev pub ClosedDifferent : Kripke → Kripke → ℕ → Type 0
ClosedDifferent a b k = ¬ Same a b k a.initial b.initial

abbrev pub ClosedAlike : Kripke → Kripke → ℕ → Type 0
ClosedAlike a b zero = ⊥
ClosedAlike a b (suc k) = Settled a b k × Same a b (suc k) a.initial b.initial

-- The comparison is closed after k rounds; and it is so after no fewer.
abbrev pub ClosedAfter : Kripke → Kripke → ℕ → Type 0
ClosedAfter a b k = ClosedDifferent a b k ⊎ ClosedAlike a b k

abbrev pub FirstClosed : Kripke → Kripke → ℕ → Type 0
FirstClosed a b k = ClosedAfter a b k × ((j : ℕ) → j < k → ¬ ClosedAfter a b j)
