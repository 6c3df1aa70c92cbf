-- The tokens of a text that is spelt token by token are those tokens.
use Rattle.std.proofs.Common.{◌≡◌, ℕ, suc, ◌<◌, false, eqb, List, [], ◌∷◌, ◌++◌, None, refl, ap, ◌∙◌}
use Rattle.reader.specs.declared.token.Token.{Token}
use Rattle.reader.specs.declared.token.Token.TheVariants.{Truth, Question, Unary, Alone, Sign, Other, End}
use Rattle.reader.specs.declared.token.Unary.TheVariants.{Not, EX, AX, EF, AF, EG, AG}
use Rattle.reader.specs.declared.token.Sign.TheVariants.{And, Or, Open, Close, Left, Right, Until}
use Rattle.kripke.specs.declared.quantifier.Quantifier.TheVariants.{Exists, ForAll}
use Rattle.reader.specs.Tokens.{single, operator, acting, lex, tokens, kinds}
use Rattle.printer.specs.Spelling.{spell, spelt}
use Rattle.printer.proofs.Numerals.{Clear, Begins, question_begins}

-- A token that has a spelling; a question's number has one or two digits.
abbrev pub Plain : Token → Type 0
Plain Truth = Unit {0}
Plain (Question j) = j < 100
Plain (Unary u) = Unit {0}
Plain (Alone q) = Unit {0}
Plain (Sign s) = Unit {0}
Plain Other = ⊥
Plain End = ⊥

abbrev pub EachPlain : List Token → Type 0
EachPlain [] = Unit {0}
EachPlain (t ∷ ts) = Plain t × EachPlain ts

-- A spelling goes on no token before it.
clear : (t : Token) → Plain t → (r : List ℕ) → Clear (spell t ++ r)
clear Truth h r = (refl, refl, refl, refl)
clear (Question j) h r = (refl, refl, refl, refl)
clear (Unary Not) h r = (refl, refl, refl, refl)
clear (Unary EX) h r = (refl, refl, refl, refl)
clear (Unary AX) h r = (refl, refl, refl, refl)
clear (Unary EF) h r = (refl, refl, refl, refl)
clear (Unary AF) h r = (refl, refl, refl, refl)
clear (Unary EG) h r = (refl, refl, refl, refl)
clear (Unary AG) h r = (refl, refl, refl, refl)
clear (Alone Exists) h r = (refl, refl, refl, refl)
clear (Alone ForAll) h r = (refl, refl, refl, refl)
clear (Sign And) h r = (refl, refl, refl, refl)
clear (Sign Or) h r = (refl, refl, refl, refl)
clear (Sign Open) h r = (refl, refl, refl, refl)
clear (Sign Close) h r = (refl, refl, refl, refl)
clear (Sign Left) h r = (refl, refl, refl, refl)
clear (Sign Right) h r = (refl, refl, refl, refl)
clear (Sign Until) h r = (refl, refl, refl, refl)
clear Other h r = absurd h
clear End h r = absurd h

clear_all : (ts : List Token) → EachPlain ts → Clear (spelt ts)
clear_all [] h = tt
clear_all (t ∷ ts) h = clear t h.0 (spelt ts)

-- A byte that is a token by itself.
no_operator : (b : ℕ) (r : List ℕ) → eqb b 69 ≡ false → eqb b 65 ≡ false → operator (b ∷ r) ≡ None
no_operator b [] e a = refl
no_operator b (c ∷ r) e a = rw (e, a)

single_lex : (b : ℕ) (r : List ℕ) → eqb b 113 ≡ false → eqb b 69 ≡ false → eqb b 65 ≡ false → lex (b ∷ r) ≡ (single b, 1)
single_lex b r p e a = rw p (ap (acting b) (no_operator b r e a))

one_byte : (b : ℕ) (r : List ℕ) (o : ℕ) → eqb b 32 ≡ false → eqb b 113 ≡ false → eqb b 69 ≡ false → eqb b 65 ≡ false → Begins o (b ∷ r) (single b) r
unfolding tokens
one_byte b r o s p e a = (suc o, rw (s, single_lex b r p e a))

lexed : (t : Token) → Plain t → (o : ℕ) (r : List ℕ) → Clear r → Begins o (spell t ++ r) t r
unfolding tokens
lexed Truth h o r g = one_byte 84 r o refl refl refl refl
lexed (Question j) h o r g = question_begins j h o r g
lexed (Unary Not) h o r g = one_byte 33 r o refl refl refl refl
lexed (Unary EX) h o r g = (suc (suc (suc o)), refl)
lexed (Unary AX) h o r g = (suc (suc (suc o)), refl)
lexed (Unary EF) h o r g = (suc (suc (suc o)), refl)
lexed (Unary AF) h o r g = (suc (suc (suc o)), refl)
lexed (Unary EG) h o r g = (suc (suc (suc o)), refl)
lexed (Unary AG) h o r g = (suc (suc (suc o)), refl)
lexed (Alone Exists) h o [] g = (suc o, refl)
lexed (Alone Exists) h o (b ∷ r) g = (suc o, rw (g.1, g.2, g.3))
lexed (Alone ForAll) h o [] g = (suc o, refl)
lexed (Alone ForAll) h o (b ∷ r) g = (suc o, rw (g.1, g.2, g.3))
lexed (Sign And) h o r g = one_byte 38 r o refl refl refl refl
lexed (Sign Or) h o r g = one_byte 124 r o refl refl refl refl
lexed (Sign Open) h o r g = one_byte 40 r o refl refl refl refl
lexed (Sign Close) h o r g = one_byte 41 r o refl refl refl refl
lexed (Sign Left) h o r g = one_byte 91 r o refl refl refl refl
lexed (Sign Right) h o r g = one_byte 93 r o refl refl refl refl
lexed (Sign Until) h o r g = (suc (suc (suc o)), refl)
lexed Other h o r g = absurd h
lexed End h o r g = absurd h

-- The tokens of a spelling.
pub lexing : (ts : List Token) → EachPlain ts → (o : ℕ) → kinds (tokens 0 o (spelt ts)) ≡ ts ++ (End ∷ [])
unfolding tokens
lexing [] h o = refl
lexing (t ∷ ts) h o =
    let z = lexed t h.0 o (spelt ts) (clear_all ts h.1) in
    z.1 ∙ ap (λ l. t ∷ l) (lexing ts h.1 z.0)
