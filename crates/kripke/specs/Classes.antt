-- The classes after k rounds: how many there are, and what a list of class numbers has to satisfy.
use Rattle.std.specs.Prelude.{◌≡◌, ℕ, suc, ◌<◌, ◌≤◌, T, ◌↔◌, List, ◌==◌, slice_index}
use Rattle.std.specs.Bool.{beq}
use Rattle.kripke.specs.Structure.{Kripke}
use Rattle.kripke.specs.Rounds.{Matched, ClassOf, total}
use Rattle.kripke.specs.Tests.{together}
use Rattle.kripke.specs.Union.{both}

-- Exactly c of the numbers below n are as P says.
pub data Count (P : ℕ → Type 0) : ℕ → ℕ → Type 0 where
  none : Count P 0 0
  more : (n c : ℕ) → Count P n c → P n → Count P (suc n) (suc c)
  pass : (n c : ℕ) → Count P n c → ¬ P n → Count P (suc n) c

-- There are c classes after k rounds: c of the numbers are their own class number.
abbrev pub Classes : Kripke → Kripke → ℕ → ℕ → Type 0
Classes a b k c = Count (λ i. ClassOf a b k i i) (total a b) c

-- Two states have one number in the list.
abbrev pub Alike : List ℕ → ℕ → ℕ → Type 0
Alike cls i j = slice_index cls i ≡ slice_index cls j

-- The list numbers the classes after k rounds: states have one number exactly when they are together.
abbrev pub Numbered : Kripke → Kripke → ℕ → List ℕ → Type 0
Numbered a b k cls = (i j : ℕ) → i < total a b → j < total a b → T (beq (slice_index cls i == slice_index cls j) (together a b k i j))

-- Of n states none has a number above its own, and a number is the number of its own state: so each has the least of its class.
abbrev pub Low : ℕ → List ℕ → Type 0
Low n cls = (i : ℕ) → i < n → slice_index cls i ≤ i

abbrev pub Led : ℕ → List ℕ → Type 0
Led n cls = (i : ℕ) → i < n → slice_index cls (slice_index cls i) ≡ slice_index cls i

-- The list `new` splits the classes of `old` by the classes of the successors, both ways.
abbrev pub Refined : Kripke → Kripke → List ℕ → List ℕ → Type 0
Refined a b old new = (i j : ℕ) → i < total a b → j < total a b
    → Alike new i j ↔ (Alike old i j × Matched (Alike old) (both a b) (both a b) i j × Matched (λ v u. Alike old u v) (both a b) (both a b) j i)
