-- The rule of the rounds as a test: a struct keeps facts that are propositions, and the answer of a test is one.
use Rattle.std.specs.Prelude.{ℕ, zero, suc, max, Bool, true, false, not, ◌&&◌, ◌||◌, List, [], ◌∷◌, length, slice_index_or}
use Rattle.std.specs.Bool.{beq}
use Rattle.kripke.specs.Structure.{Kripke, state, successors}
use Rattle.kripke.specs.Rounds.{home, place, total}

-- The test passes at every member of a list, at some member, at every number below n.
abbrev pub every : (ℕ → Bool) → List ℕ → Bool
every q [] = true
every q (x ∷ xs) = q x && every q xs

abbrev pub some : (ℕ → Bool) → List ℕ → Bool
some q [] = false
some q (x ∷ xs) = q x || some q xs

abbrev pub below : (ℕ → Bool) → ℕ → Bool
below q zero = true
below q (suc n) = q n && below q n

-- The two labels agree on every question that either has.
abbrev pub agree : List Bool → List Bool → Bool
agree xs ys = below (λ i. beq (slice_index_or xs i false) (slice_index_or ys i false)) (max (length xs) (length ys))

-- `Same`, `Together` and `Settled`, as tests.
unfoldable pub same : Kripke → Kripke → ℕ → ℕ → ℕ → Bool
same a b zero s t = agree (state a s).answers (state b t).answers
same a b (suc k) s t =
    same a b k s t
    && (every (λ u. some (λ v. same a b k u v) (successors b t)) (successors a s)
    && every (λ v. some (λ u. same a b k u v) (successors a s)) (successors b t))

abbrev pub together : Kripke → Kripke → ℕ → ℕ → ℕ → Bool
together a b k i j = same (home a b i) (home a b j) k (place a b i) (place a b j)

unfoldable pub settled : Kripke → Kripke → ℕ → Bool
settled a b k = below (λ i. below (λ j. not (together a b k i j) || together a b (suc k) i j) (total a b)) (total a b)
