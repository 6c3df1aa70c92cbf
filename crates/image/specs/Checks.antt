-- What the private steps of the loader answer, each over the image alone.
use Rattle.std.specs.Prelude.{◌≡◌, ℕ, suc, ◌<◌, ◌≤◌, List, MatchOption, None, Option, Some}
use Rattle.kripke.specs.Structure.{State}
use Rattle.labels.specs.Kinds.{Coding}
use Rattle.image.specs.Image.{after, byte_at, Chain, first, initial, kind_of, label_bytes, Link, links, most_links, most_states, most_successors, states, target, Walk}
use Rattle.image.specs.Loading.{BadField, GoodLink, GoodState}

-- The header's fields are within their limits.
pub record GoodHeader (c : Coding) (img : List ℕ) : Type 0 where
  pub kind : kind_of img ≡ c.kind
  pub gap : byte_at img 1 ≡ 0
  pub some : 1 ≤ states img
  pub few : states img ≤ most_states
  pub some_links : 1 ≤ links img
  pub few_links : links img ≤ most_links
  pub begins : initial img < states img

-- The first header field that is outside its limits, by its offset; none where all are within.
abbrev pub FirstBadField : Coding → List ℕ → Option ℕ → Type 0
FirstBadField c img None = GoodHeader c img
FirstBadField c img (Some p) = BadField c img p × ((q : ℕ) → q < p → ¬ BadField c img q)

-- The first number from low up to high that is bad; none where all are good.
abbrev pub FirstBad : (Good Bad : ℕ → Type 0) (low high : ℕ) → Option ℕ → Type 0
FirstBad Good Bad low high first =
    MatchOption first ((k : ℕ) → low ≤ k → k < high → Good k)
    (λ i. (low ≤ i) × (i < high) × Bad i × ((k : ℕ) → low ≤ k → k < i → Good k))

-- Every state has a first link, and every link is in order.
abbrev pub Firsts : List ℕ → Type 0
Firsts img = (s : ℕ) → s < states img → Link img (first img s)

abbrev pub Links : List ℕ → Type 0
Links img = (l : ℕ) → Link img l → GoodLink img l

-- Every state's record is in order.
abbrev pub States : Coding → List ℕ → Type 0
States c img = (s : ℕ) → s < states img → GoodState c img s

-- The chain of state s has more links than a state may have successors.
abbrev pub LongChain : List ℕ → ℕ → Type 0
LongChain img s = Walk img (first img s) (suc most_successors)

-- One step along a chain: past its end there is none, and else the target of a link, and the link after it.
abbrev pub Step : List ℕ → ℕ → Option ℕ → ℕ → Type 0
Step img l None next = (l ≡ 0) × (next ≡ 0)
Step img l (Some t) next = Link img l × (t ≡ target img l) × (next ≡ after img l)

-- A state as its record describes it.
abbrev pub Shown : Coding → List ℕ → ℕ → State → Type 0
Shown c img s x = (c.decoded (label_bytes img s) ≡ Some x.answers) × Chain img (first img s) x.next
