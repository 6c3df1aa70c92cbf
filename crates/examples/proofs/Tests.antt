-- The statements of the table as tests that compute.
use Rattle.std.proofs.Common.{ℕ, zero, suc, ◌+◌, ◌/◌, ◌%◌, cond, Bool, true, false, not, ◌&&◌, ◌||◌, eqb, ltb, leb, List, [], ◌∷◌, ◌++◌, length, get_or, codes}
use mathlib.Core.Bool.{beq}
use Rattle.kripke.specs.Structure.{Kripke, size, state, successors, answer}
use Rattle.kripke.specs.Ctl.{Formula, truth, question, and, or, EX, AX, EF, AF, EG, AG, EU, AU}
use Rattle.kripke.specs.Nodes.{Operator, constant, asking, unary, binary, operator, operators, blank_node}
use Rattle.kripke.specs.Refusals.{number_of, layer_of}
use Rattle.kripke.specs.Tests.{every, below, same, settled}
use Rattle.kripke.specs.declared.node.Node.{Node}
use Rattle.kripke.specs.declared.refusal.Refusal.{Refusal}
use Rattle.evaluator.specs.Marks.{steps}
use Rattle.kripke.specs.declared.quantifier.Quantifier.{Quantifier}
use Rattle.kripke.specs.declared.quantifier.Quantifier.TheVariants as quantifier
use Rattle.reader.specs.Tokens.{Stream, rest}
use Rattle.reader.specs.Grammar.{Mark, mark}
use Rattle.reader.specs.Phrases.{applied}
use Rattle.reader.specs.declared.token.Token.{Token}
use Rattle.reader.specs.declared.token.Token.TheVariants as token
use Rattle.examples.specs.Rows.{Verdict, alike, different}

-- The law of models.
abbrev pub state_in_order : ℕ → Kripke → ℕ → Bool
state_in_order q k s =
    eqb (length (state k s).answers) q
    && (leb 1 (length (successors k s)) && (leb (length (successors k s)) 16 && every (λ t. ltb t (size k)) (successors k s)))

abbrev pub is_lawful : ℕ → Kripke → Bool
is_lawful q k = leb 1 (size k) && (leb (size k) 256 && (ltb k.initial (size k) && below (state_in_order q k) (size k)))

-- The closing rule.
abbrev pub met : Kripke → Kripke → ℕ → Bool
met a b k = same a b k a.initial b.initial

abbrev pub closed_alike : Kripke → Kripke → ℕ → Bool
closed_alike a b zero = false
closed_alike a b (suc k) = settled a b k && met a b (suc k)

abbrev pub closed_after : Kripke → Kripke → ℕ → Bool
closed_after a b k = not (met a b k) || closed_alike a b k

abbrev pub first_closed : Kripke → Kripke → ℕ → Bool
first_closed a b k = closed_after a b k && below (λ j. not (closed_after a b j)) k

abbrev pub verdict : Kripke → Kripke → Verdict → ℕ → Bool
verdict a b alike k = closed_alike a b k
verdict a b different k = not (met a b k)

-- The rules of node tables.
abbrev pub ordered : Operator → ℕ → ℕ → ℕ → ℕ → Bool
ordered constant q i a b = eqb a 0 && eqb b 0
ordered asking q i a b = ltb a q && eqb b 0
ordered (unary op) q i a b = ltb a i && eqb b 0
ordered (binary op) q i a b = ltb a i && ltb b i

abbrev pub lawful_node : ℕ → ℕ → Node → Bool
lawful_node q i n = ltb n.code (length operators) && ordered (operator n) q i n.a n.b

abbrev pub is_well_formed : ℕ → List Node → Bool
is_well_formed q ns = leb 1 (length ns) && (leb (length ns) 2045 && below (λ i. lawful_node q i (get_or ns i blank_node)) (length ns))

-- The states from which each path, or some path, comes to g by way of f, as far as j sweeps find them; and whether one more sweep finds none.
abbrev pub whole : Kripke → ℕ → Bool
whole k s = ltb s (size k)

abbrev pub turned : Kripke → (ℕ → Bool) → ℕ → Bool
turned k q s = not (beq (whole k s) (q s))

abbrev pub grown : Kripke → Quantifier → (ℕ → Bool) → (ℕ → Bool) → ℕ → ℕ → Bool
grown k e f g zero s = g s
grown k e f g (suc j) s = grown k e f g j s || (f s && steps e (grown k e f g j) (successors k s))

abbrev pub until : Kripke → Quantifier → (ℕ → Bool) → (ℕ → Bool) → ℕ → Bool
until k e f g = grown k e f g (size k)

abbrev pub still : Kripke → Quantifier → (ℕ → Bool) → (ℕ → Bool) → Bool
still k e f q = below (λ s. not (f s && steps e q (successors k s)) || q s) (size k)

-- The states of a structure where a formula holds, and whether all its sweeps were enough.
unfoldable pub marks : Kripke → Formula → ℕ → Bool
marks k truth s = whole k s
marks k (question i) s = whole k s && answer k s i
marks k (Formula.not f) s = turned k (marks k f) s
marks k (and f g) s = marks k f s && marks k g s
marks k (or f g) s = marks k f s || marks k g s
marks k (EX f) s = whole k s && steps quantifier.Exists (marks k f) (successors k s)
marks k (AX f) s = whole k s && steps quantifier.ForAll (marks k f) (successors k s)
marks k (EF f) s = until k quantifier.Exists (whole k) (marks k f) s
marks k (AF f) s = until k quantifier.ForAll (whole k) (marks k f) s
marks k (EG f) s = turned k (until k quantifier.ForAll (whole k) (turned k (marks k f))) s
marks k (AG f) s = turned k (until k quantifier.Exists (whole k) (turned k (marks k f))) s
marks k (EU f g) s = until k quantifier.Exists (marks k f) (marks k g) s
marks k (AU f g) s = until k quantifier.ForAll (marks k f) (marks k g) s

unfoldable pub enough : Kripke → Formula → Bool
enough k truth = true
enough k (question i) = true
enough k (Formula.not f) = enough k f
enough k (and f g) = enough k f && enough k g
enough k (or f g) = enough k f && enough k g
enough k (EX f) = enough k f
enough k (AX f) = enough k f
enough k (EF f) = enough k f && still k quantifier.Exists (whole k) (until k quantifier.Exists (whole k) (marks k f))
enough k (AF f) = enough k f && still k quantifier.ForAll (whole k) (until k quantifier.ForAll (whole k) (marks k f))
enough k (EG f) = enough k f && still k quantifier.ForAll (whole k) (until k quantifier.ForAll (whole k) (turned k (marks k f)))
enough k (AG f) = enough k f && still k quantifier.Exists (whole k) (until k quantifier.Exists (whole k) (turned k (marks k f)))
enough k (EU f g) = (enough k f && enough k g) && still k quantifier.Exists (marks k f) (until k quantifier.Exists (marks k f) (marks k g))
enough k (AU f g) = (enough k f && enough k g) && still k quantifier.ForAll (marks k f) (until k quantifier.ForAll (marks k f) (marks k g))

-- The limits of a formula's text.
abbrev pub asked : ℕ → Token → Bool
asked q token.Truth = true
asked q (token.Question j) = ltb j q
asked q (token.Unary u) = true
asked q (token.Alone p) = true
asked q (token.Sign t) = true
asked q token.Other = true
asked q token.End = true

abbrev pub limited : ℕ → List Mark → Bool
limited q [] = true
limited q (mark t l ∷ ms) = (leb l 64 && asked q t) && limited q ms

-- The line of a refusal whose numbers have at most two digits, and whether it is one.
abbrev pub numeral : ℕ → List ℕ
numeral n = cond (ltb n 10) ((48 + n) ∷ []) ((48 + n / 10) ∷ (48 + n % 10) ∷ [])

abbrev pub line_of : Refusal → List ℕ
line_of e = codes "refused " ++ (numeral (number_of e.cause) ++ (codes " " ++ (numeral (layer_of e.layer) ++ (codes " " ++ numeral e.place))))

abbrev pub two_digits : Refusal → Bool
two_digits e = ltb (number_of e.cause) 100 && (ltb (layer_of e.layer) 100 && ltb e.place 100)

-- The formula of a text that begins with operators of one argument, and ends with what has none.
abbrev pub chain : List Token → Formula
chain [] = truth
chain (token.Truth ∷ ts) = truth
chain (token.Question j ∷ ts) = question j
chain (token.Unary u ∷ ts) = applied u (chain ts)
chain (token.Alone p ∷ ts) = truth
chain (token.Sign t ∷ ts) = truth
chain (token.Other ∷ ts) = truth
chain (token.End ∷ ts) = truth

-- The tokens after the first n.
abbrev pub skip : ℕ → Stream → Stream
skip zero s = s
skip (suc n) s = skip n (rest s)
