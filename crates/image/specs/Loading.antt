-- What an image must keep to, and the model that it describes.
use Rattle.std.specs.Prelude.{◌≡◌, ℕ, suc, ◌+◌, ◌<◌, ◌≤◌, Bool, true, List, [], ◌∷◌, length, is_some, Some, ◌≢◌}
use Rattle.kripke.specs.Structure.{Kripke, size, state, successors}
use Rattle.kripke.specs.declared.refusal.Cause.{Cause}
use Rattle.kripke.specs.declared.refusal.Cause.TheVariants.{ShortImage, HeaderField, ImageLength, StateRecord, LinkRecord, LongChain}
use Rattle.kripke.specs.declared.refusal.Layer.{Layer}
use Rattle.kripke.specs.declared.refusal.Layer.TheVariants.{FirstImage, SecondImage}
use Rattle.labels.specs.Kinds.{Coding}
use Rattle.image.specs.Image.{most_states, most_links, most_successors, byte_at, kind_of, states, links, initial, whole, state_at, label_bytes, first, link_at, target, after, Link, Chain, Walk}
use Rattle.image.specs.declared.slot.Slot.{Slot}
use Rattle.image.specs.declared.slot.Slot.TheVariants.{First, Second}

-- A state record in order: its label bytes code a label, its first link is one, its last two bytes are zero.
pub record GoodState (c : Coding) (img : List ℕ) (s : ℕ) : Type 0 where
  pub coded : is_some (c.decoded (label_bytes img s)) ≡ true
  pub linked : Link img (first img s)
  pub low : byte_at img (state_at s + 6) ≡ 0
  pub high : byte_at img (state_at s + 7) ≡ 0

-- A link record in order.
pub record GoodLink (img : List ℕ) (l : ℕ) : Type 0 where
  pub leads : target img l < states img
  pub goes : after img l ≤ links img

-- A header field that is outside its limits, by its offset.
pub data BadField (c : Coding) (img : List ℕ) : ℕ → Type 0 where
  kind : kind_of img ≢ c.kind → BadField c img 0
  gap : byte_at img 1 ≢ 0 → BadField c img 1
  state_count : ¬ ((1 ≤ states img) × (states img ≤ most_states)) → BadField c img 2
  link_count : ¬ ((1 ≤ links img) × (links img ≤ most_links)) → BadField c img 4
  begins : ¬ initial img < states img → BadField c img 6

-- The breaches of an image for a holder of kind c, each with its cause and place.
pub data ImageBreach (c : Coding) (img : List ℕ) : Cause → ℕ → Type 0 where
  short : length img < 8 → ImageBreach c img ShortImage (length img)
  field : {p : ℕ} → BadField c img p → ImageBreach c img HeaderField p
  sized : length img ≢ whole img → ImageBreach c img ImageLength (whole img)
  entry : {s : ℕ} → s < states img → ¬ GoodState c img s → ImageBreach c img StateRecord (state_at s)
  link : {l : ℕ} → Link img l → ¬ GoodLink img l → ImageBreach c img LinkRecord (link_at img l)
  chain : {s : ℕ} → s < states img → Walk img (first img s) (suc most_successors) → ImageBreach c img LongChain (state_at s)

-- The model that an image describes: the initial state and the number of states of its header, each with the label of its bytes and the targets of its chain.
pub record Describes (c : Coding) (img : List ℕ) (k : Kripke) : Type 0 where
  pub begins : k.initial ≡ initial img
  pub counted : size k ≡ states img
  pub labelled : (s : ℕ) → s < states img → c.decoded (label_bytes img s) ≡ Some (state k s).answers
  pub linked : (s : ℕ) → s < states img → Chain img (first img s) (successors k s)

-- A fresh model: one state, its own successor, initial, with the kind's fresh label.
abbrev pub Fresh : Coding → Kripke → Type 0
Fresh c k =
    (label : List Bool) × (Some label ≡ c.decoded c.fresh)
    × (k ≡ record { initial = 0; states = record { answers = label; next = 0 ∷ [] } ∷ [] })

-- The layer that refuses a first or only image, and the one that refuses a second.
abbrev pub slot_layer : Slot → Layer
slot_layer First = FirstImage
slot_layer Second = SecondImage
