-- The stored image, by its bytes. Every number has its low byte first; a byte past the end reads as 0.
use Rattle.std.specs.Prelude.{ℕ, suc, ◌+◌, ◌-◌, ◌*◌, ◌≤◌, List, [], ◌∷◌, slice_index}

abbrev pub byte_at : List ℕ → ℕ → ℕ
byte_at img i = slice_index img i

unfoldable pub number_at : List ℕ → ℕ → ℕ
number_at img i = byte_at img i + byte_at img (i + 1) * 256

-- The limits of a model that an image can describe: its states, its links, and the successors of a state.
abbrev pub most_states : ℕ
most_states = 256

abbrev pub most_links : ℕ
most_links = 4096

abbrev pub most_successors : ℕ
most_successors = 16

-- The header, 8 bytes: kind, a zero byte, the number of states, the number of links, the initial state.
abbrev pub kind_of : List ℕ → ℕ
kind_of img = byte_at img 0

abbrev pub states : List ℕ → ℕ
states img = number_at img 2

abbrev pub links : List ℕ → ℕ
links img = number_at img 4

abbrev pub initial : List ℕ → ℕ
initial img = number_at img 6

-- The length that the header asks for: 8 bytes a state record, 4 bytes a link record.
abbrev pub whole : List ℕ → ℕ
whole img = 8 + 8 * states img + 4 * links img

-- The record of state s: four label bytes, the first link, two zero bytes.
abbrev pub state_at : ℕ → ℕ
state_at s = 8 + 8 * s

abbrev pub label_bytes : List ℕ → ℕ → List ℕ
label_bytes img s =
    byte_at img (state_at s) ∷ byte_at img (state_at s + 1) ∷ byte_at img (state_at s + 2) ∷ byte_at img (state_at s + 3) ∷ []

abbrev pub first : List ℕ → ℕ → ℕ
first img s = number_at img (state_at s + 4)

-- The record of link l, counted from 1: the target state, the next link.
abbrev pub link_at : List ℕ → ℕ → ℕ
link_at img l = 8 + 8 * states img + 4 * (l - 1)

abbrev pub target : List ℕ → ℕ → ℕ
target img l = number_at img (link_at img l)

abbrev pub after : List ℕ → ℕ → ℕ
after img l = number_at img (link_at img l + 2)

-- The number names a link.
abbrev pub Link : List ℕ → ℕ → Type 0
Link img l = (1 ≤ l) × (l ≤ links img)

-- The chain from link l has these targets, in order; 0 ends it.
pub data Chain (img : List ℕ) : ℕ → List ℕ → Type 0 where
  end : Chain img 0 []
  more : {l : ℕ} {ts : List ℕ} → Link img l → Chain img (after img l) ts → Chain img l (target img l ∷ ts)

-- The chain from link l has at least n links.
pub data Walk (img : List ℕ) : ℕ → ℕ → Type 0 where
  here : {l : ℕ} → Walk img l 0
  on : {l n : ℕ} → Link img l → Walk img (after img l) n → Walk img l (suc n)
