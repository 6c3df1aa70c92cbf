-- What a stored model means, where `answers` says what a label answers.
use Rattle.std.specs.Prelude.{◌≡◌, ℕ, ◌<◌, Bool, List, length, slice_index_or, vec_items}
use Rattle.kripke.specs.Structure.{Kripke}
use Rattle.labels.specs.Kinds.{Coding}
use Rattle.image.specs.Checks.{Shown}
use Rattle.image.specs.Image.{label_bytes, states}
use Rattle.image.specs.Stored.{row_state, rows_mean}
use Rattle.image.specs.declared.stored.row.Row.{Row}
use Rattle.image.specs.declared.stored.StoredModel.{StoredModel}

abbrev pub meaning_of : {L : Type 0} → (L → List Bool) → StoredModel L → Kripke
meaning_of answers m = rows_mean answers (vec_items m.rows) m.initial

-- The label that the model has for state s; that of d where it has no such state.
abbrev pub label_at : {L : Type 0} → StoredModel L → ℕ → Row L → L
label_at m s d = (slice_index_or (vec_items m.rows) s d).label

-- The labels that the model has are those that the image's bytes code, state by state: `codes` says which bytes code which label.
abbrev pub LabelsOf : {L : Type 0} → (List ℕ → L → Type 0) → List ℕ → StoredModel L → Type 0
LabelsOf {L} codes img m = (s : ℕ) (d : Row L) → s < states img → codes (label_bytes img s) (label_at m s d)

-- The first n rows are what the image describes, each as its record shows it, with the label that its bytes code.
pub record Filled {L : Type 0} (answers : L → List Bool) (codes : List ℕ → L → Type 0) (c : Coding) (img : List ℕ) (n : ℕ) (rows : List (Row L)) : Type 0 where
  pub count : length rows ≡ n
  pub each : (s : ℕ) (d : Row L) → s < n → Shown c img s (row_state answers (slice_index_or rows s d))
  pub coded : (s : ℕ) (d : Row L) → s < n → codes (label_bytes img s) (slice_index_or rows s d).label
