-- The rows of a stored model, and what they must keep to.
use Rattle.std.specs.Prelude.{ℕ, ◌<◌, Bool, List, [], map, length, slice_index_or}
use Rattle.kripke.specs.Structure.{Kripke, State, Member}
use Rattle.image.specs.declared.stored.row.Row.{Row}

-- The successors of the rows.
abbrev pub nexts : {L : Type 0} → List (Row L) → List (List ℕ)
nexts rows = map (λ row. row.next.items) rows

-- All successors are rows.
abbrev pub Inside : {L : Type 0} → List (Row L) → Type 0
Inside rows = (s t : ℕ) → s < length rows → Member t (slice_index_or (nexts rows) s []) → t < length rows

-- What rows mean, where `answers` says what a label answers.
abbrev pub row_state : {L : Type 0} → (L → List Bool) → Row L → State
row_state answers row = record { answers = answers row.label; next = row.next.items }

abbrev pub rows_mean : {L : Type 0} → (L → List Bool) → List (Row L) → ℕ → Kripke
rows_mean answers rows start = record { initial = start; states = map (row_state answers) rows }
