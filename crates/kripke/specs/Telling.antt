-- The telling question of two labels.
use Rattle.std.specs.Prelude.{◌≡◌, ℕ, ◌<◌, Bool, false, List, Some, None, Option, slice_index_or}

-- Two labels agree on question i. A question past the last one is answered no.
abbrev pub Agree : List Bool → List Bool → ℕ → Type 0
Agree xs ys i = slice_index_or xs i false ≡ slice_index_or ys i false

-- The least question that two labels answer differently; none exactly when they agree on every question.
abbrev pub Telling : List Bool → List Bool → Option ℕ → Type 0
Telling xs ys None = (i : ℕ) → Agree xs ys i
Telling xs ys (Some i) = ¬ Agree xs ys i × ((j : ℕ) → j < i → Agree xs ys j)
