-- The bench table.
use Rattle.std.specs.Prelude.{ℕ, true, false, List, [], ◌∷◌, ◌++◌, map, replicate, codes}
use Rattle.std.specs.List.{range_with_len}
use Rattle.kripke.specs.Structure.{Kripke, State}
use Rattle.kripke.specs.Ctl.{question, EF, AF, AG}
use Rattle.kripke.specs.declared.node.Node.{Node}
use Rattle.labels.specs.Kinds.{bits}
use Rattle.reader.specs.Table.{node}
use Rattle.examples.specs.Rows.{Row, lawful, answers, says, closes, enough_places, few_places, reads, too_deep, enough_words, few_words, alike, different}

-- A state: its signal word and its successors. A structure begins at its state 0.
abbrev pub to : ℕ → List ℕ → State
to word next = record { answers = bits word; next = next }

abbrev pub model : List State → Kripke
model states = record { initial = 0; states = states }

-- One state; one state of word 1; a chain of three; a choice to go on; a choice made late, and one made early.
abbrev pub L : Kripke
L = model (to 0 (0 ∷ []) ∷ [])

abbrev pub M : Kripke
M = model (to 1 (0 ∷ []) ∷ [])

abbrev pub S : Kripke
S = model (to 0 (1 ∷ []) ∷ to 0 (2 ∷ []) ∷ to 1 (2 ∷ []) ∷ [])

abbrev pub W : Kripke
W = model (to 0 (0 ∷ 1 ∷ []) ∷ to 1 (1 ∷ []) ∷ [])

abbrev pub P : Kripke
P = model (to 0 (1 ∷ []) ∷ to 0 (2 ∷ 3 ∷ []) ∷ to 1 (2 ∷ []) ∷ to 2 (3 ∷ []) ∷ [])

abbrev pub R : Kripke
R = model (to 0 (1 ∷ 2 ∷ []) ∷ to 0 (3 ∷ []) ∷ to 0 (4 ∷ []) ∷ to 1 (3 ∷ []) ∷ to 2 (4 ∷ []) ∷ [])

-- One state that leads to itself so many times; so many states that do it once; the most states, each with the most successors.
abbrev pub wide : ℕ → Kripke
wide n = model (to 0 (replicate n 0) ∷ [])

abbrev pub long : ℕ → Kripke
long n = model (replicate n (to 0 (0 ∷ [])))

abbrev pub largest : Kripke
largest = model (replicate 256 (to 4294967295 (replicate 16 255)))

-- E[q0 U (q1&!q2)]: its last node is E[0 U 4].
abbrev pub until : List Node
until = node 1 0 0 ∷ node 1 1 0 ∷ node 1 2 0 ∷ node 2 2 0 ∷ node 3 1 3 ∷ node 11 0 4 ∷ []

-- A[EX AX q0 U (EF AF q1&(EG AG !q2|T))]: every operator but E[U].
abbrev pub operators : List Node
operators =
    node 1 0 0 ∷ node 6 0 0 ∷ node 5 1 0 ∷ node 1 1 0 ∷ node 8 3 0 ∷ node 7 4 0 ∷ node 1 2 0 ∷ node 2 6 0
    ∷ node 10 7 0 ∷ node 9 8 0 ∷ node 0 0 0 ∷ node 4 9 10 ∷ node 3 5 11 ∷ node 12 2 12 ∷ []

-- So many signs ! and T: node 0 is true, and every other node is the one before it, negated.
abbrev pub negations : ℕ → List ℕ
negations n = replicate n 33 ++ codes "T"

abbrev pub negated : ℕ → List Node
negated n = node 0 0 0 ∷ map (λ (i : ℕ). node 2 i 0) (range_with_len 0 n)

abbrev pub table : List Row
table =
    answers 60 5 50 60 2 true
    ∷ answers 59 5 50 60 2 false
    ∷ answers 5 5 50 60 0 true
    ∷ answers 6 5 50 60 0 false
    ∷ says W (EF (question 0)) true
    ∷ says W (AG (EF (question 0))) true
    ∷ says W (AF (question 0)) false
    ∷ closes L L alike 1
    ∷ closes L S different 2
    ∷ enough_places L S 2 13
    ∷ few_places L S 2 12 (codes "refused 21 6 12")
    ∷ closes P R different 2
    ∷ closes L M different 0
    ∷ reads (codes "E[q0 U (q1&!q2)]") until
    ∷ enough_words until 24
    ∷ few_words until 23 (codes "refused 16 5 23")
    ∷ reads (negations 63) (negated 63)
    ∷ too_deep (negations 64) 64 (codes "refused 12 4 64")
    ∷ reads (codes "A[EX AX q0 U (EF AF q1&(EG AG !q2|T))]") operators
    ∷ lawful largest true
    ∷ lawful (long 257) false
    ∷ lawful (wide 17) false
    ∷ lawful (wide 0) false
    ∷ []
