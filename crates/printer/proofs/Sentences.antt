-- The text of a formula is a sentence of it.
use Rattle.std.proofs.Common.{ℕ, suc, ◌≤◌, List, [], ◌∷◌, ◌++◌, sym, ◌∙◌, arith}
use Rattle.kripke.specs.Ctl.{Formula, truth, question, not, and, or, EX, AX, EF, AF, EG, AG, EU, AU}
use Rattle.reader.specs.declared.token.Token.TheVariants.{Truth, Question, Unary, Alone, Sign, Other, End}
use Rattle.reader.specs.Grammar.{Mark, mark, marks, toks, All, Within, Sentence}
use Rattle.reader.proofs.Phrases.{toks-append}
use Rattle.printer.specs.Spelling.{shown}
use Rattle.printer.proofs.Lexing.{EachPlain, lexing}

-- A formula is written with no other byte, and without the end.
abbrev Proper : List Mark → Type 0
Proper [] = Unit {0}
Proper (mark Other l ∷ ms) = ⊥
Proper (mark End l ∷ ms) = ⊥
Proper (mark Truth l ∷ ms) = Proper ms
Proper (mark (Question j) l ∷ ms) = Proper ms
Proper (mark (Unary u) l ∷ ms) = Proper ms
Proper (mark (Alone q) l ∷ ms) = Proper ms
Proper (mark (Sign s) l ∷ ms) = Proper ms

proper_append : (a b : List Mark) → Proper a → Proper b → Proper (a ++ b)
proper_append [] b h g = g
proper_append (mark Other l ∷ ms) b h g = absurd h
proper_append (mark End l ∷ ms) b h g = absurd h
proper_append (mark Truth l ∷ ms) b h g = proper_append ms b h g
proper_append (mark (Question j) l ∷ ms) b h g = proper_append ms b h g
proper_append (mark (Unary u) l ∷ ms) b h g = proper_append ms b h g
proper_append (mark (Alone q) l ∷ ms) b h g = proper_append ms b h g
proper_append (mark (Sign s) l ∷ ms) b h g = proper_append ms b h g

proper_two : (a b : List Mark) (m e : Mark) → Proper a → Proper b → Proper (m ∷ []) → Proper (e ∷ []) → Proper (a ++ (m ∷ (b ++ (e ∷ []))))
proper_two a b m e h g k n = proper_append a (m ∷ (b ++ (e ∷ []))) h (proper_append (m ∷ []) (b ++ (e ∷ [])) k (proper_append b (e ∷ []) g n))

proper : (f : Formula) (l : ℕ) → Proper (marks l f)
proper truth l = tt
proper (question j) l = tt
proper (not f) l = proper f (suc l)
proper (and f g) l = proper_two (marks (suc l) f) (marks (suc l) g) _ _ (proper f (suc l)) (proper g (suc l)) tt tt
proper (or f g) l = proper_two (marks (suc l) f) (marks (suc l) g) _ _ (proper f (suc l)) (proper g (suc l)) tt tt
proper (EX f) l = proper f (suc l)
proper (AX f) l = proper f (suc l)
proper (EF f) l = proper f (suc l)
proper (AF f) l = proper f (suc l)
proper (EG f) l = proper f (suc l)
proper (AG f) l = proper f (suc l)
proper (EU f g) l = proper_two (marks (suc l) f) (marks (suc l) g) _ _ (proper f (suc l)) (proper g (suc l)) tt tt
proper (AU f g) l = proper_two (marks (suc l) f) (marks (suc l) g) _ _ (proper f (suc l)) (proper g (suc l)) tt tt

plain : (q : ℕ) (ms : List Mark) → q ≤ 100 → Proper ms → All q ms → EachPlain (toks ms)
plain q [] few p h = tt
plain q (mark Other l ∷ ms) few p h = absurd p
plain q (mark End l ∷ ms) few p h = absurd p
plain q (mark Truth l ∷ ms) few p h = (tt, plain q ms few p h.1)
plain q (mark (Question j) l ∷ ms) few p h = (omega (arith, h.0.1), plain q ms few p h.1)
plain q (mark (Unary u) l ∷ ms) few p h = (tt, plain q ms few p h.1)
plain q (mark (Alone k) l ∷ ms) few p h = (tt, plain q ms few p h.1)
plain q (mark (Sign s) l ∷ ms) few p h = (tt, plain q ms few p h.1)

-- What is shown of a formula on at most a hundred questions is read as the formula.
pub sentence : (q : ℕ) (f : Formula) → q ≤ 100 → Within q f → Sentence (shown f) f
sentence q f few h = lexing (toks (marks 1 f)) (plain q (marks 1 f) few (proper f 1) h) 0 ∙ sym (toks-append (marks 1 f) (mark End 0 ∷ []))
