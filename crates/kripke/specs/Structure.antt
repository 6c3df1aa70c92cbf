-- Finite Kripke structures: what a model means.
use Rattle.std.specs.Prelude.{◌≡◌, ℕ, ◌<◌, ◌≤◌, Bool, false, ◌⊎◌, List, [], ◌∷◌, length, slice_index_or}

-- A state: the answers of its label, one a question, and its successors in their order.
pub record State : Type 0 where
  pub answers : List Bool
  pub next : List ℕ

-- A structure: its states, numbered from 0 by their places, and the number of the initial one.
pub record Kripke : Type 0 where
  pub initial : ℕ
  pub states : List State

-- What stands at a place of a list, and past its end what stands first; of an empty list the default.
abbrev pub or_first : {X : Type 0} → List X → ℕ → X → X
or_first xs i default = slice_index_or xs i (slice_index_or xs 0 default)

-- The number of states; state s, and past the last one state 0; its successors; its answer to question i, no past the last question.
abbrev pub size : Kripke → ℕ
size k = length k.states

abbrev pub blank_state : State
blank_state = record { answers = []; next = [] }

abbrev pub state : Kripke → ℕ → State
state k s = or_first k.states s blank_state

abbrev pub successors : Kripke → ℕ → List ℕ
successors k s = (state k s).next

abbrev pub answer : Kripke → ℕ → ℕ → Bool
answer k s i = slice_index_or (state k s).answers i false

-- The number x stands in the list.
abbrev pub Member : ℕ → List ℕ → Type 0
Member x [] = ⊥
Member x (y ∷ ys) = (x ≡ y) ⊎ Member x ys

-- Every state has a successor, and successors are states: so from every state there is a path, and it never leaves the structure.
pub record Closed (k : Kripke) : Type 0 where
  pub onward : (s : ℕ) → s < size k → 1 ≤ length (successors k s)
  pub inside : (s t : ℕ) → s < size k → Member t (successors k s) → t < size k

-- The law of a model whose labels have q questions: 1 to 256 states, the initial one among them, each with q answers and 1 to 16 successors among them.
pub record Lawful (q : ℕ) (k : Kripke) : Type 0 where
  pub some : 1 ≤ size k
  pub few : size k ≤ 256
  pub begins : k.initial < size k
  pub answered : (s : ℕ) → s < size k → length (state k s).answers ≡ q
  pub closed : Closed k
  pub narrow : (s : ℕ) → s < size k → length (successors k s) ≤ 16
