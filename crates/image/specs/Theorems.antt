-- What the format pins down.
use Rattle.std.specs.Prelude.{◌≡◌, ℕ, ◌<◌, List, length}
use Rattle.kripke.specs.Refusals.{Clean, FirstBreach}
use Rattle.kripke.specs.Structure.{Kripke, Lawful, size, state}
use Rattle.kripke.specs.declared.refusal.Layer.{Layer}
use Rattle.kripke.specs.declared.refusal.Refusal.{Refusal}
use Rattle.labels.specs.Kinds.{Coding}
use Rattle.image.specs.Loading.{ImageBreach, Describes}

-- An image describes at most one model.
abbrev pub OneModel : Type 0
OneModel = (c : Coding) (img : List ℕ) (k l : Kripke) → Describes c img k → Describes c img l → k ≡ l

-- The labels of the states answer q questions each.
abbrev pub Answered : ℕ → Kripke → Type 0
Answered q k = (s : ℕ) → s < size k → length (state k s).answers ≡ q

-- An image that breaks no rule describes some model, and a lawful one, for as many questions as its labels answer.
abbrev pub SomeModel : Type 0
SomeModel =
    (c : Coding) (img : List ℕ) → Clean (ImageBreach c img) →
    (k : Kripke) × Describes c img k × ((q : ℕ) → Answered q k → Lawful q k)

-- Two first refusals of an image are one, and an image that breaks no rule has none.
abbrev pub OneRefusal : Type 0
OneRefusal =
    (c : Coding) (img : List ℕ) (layer : Layer) →
    ((e f : Refusal) → FirstBreach (ImageBreach c img) layer e → FirstBreach (ImageBreach c img) layer f → e ≡ f)
    × (Clean (ImageBreach c img) → (e : Refusal) → ¬ FirstBreach (ImageBreach c img) layer e)
