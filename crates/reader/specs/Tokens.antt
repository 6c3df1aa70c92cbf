-- Tokens: where each token of a text stands.
use Rattle.std.specs.Prelude.{◌≡◌, ℕ, zero, suc, ◌+◌, ◌-◌, ◌*◌, Bool, cond, ◌&&◌, List, [], ◌∷◌, ◌++◌, length, drop, map, replicate, Some, None, Option, ◌==◌, nat_le}
use Rattle.std.specs.Option.{option_map}
use Rattle.reader.specs.declared.token.Token.{Token}
use Rattle.reader.specs.declared.token.Token.TheVariants.{Truth, Question, Alone, Sign, Other, End}
use Rattle.reader.specs.declared.token.Token.TheVariants as token
use Rattle.reader.specs.declared.token.Sign.TheVariants.{And, Or, Open, Close, Left, Right, Until}
use Rattle.reader.specs.declared.token.Unary.{Unary}
use Rattle.reader.specs.declared.token.Unary.TheVariants.{Not, EX, AX, EF, AF, EG, AG}
use Rattle.kripke.specs.declared.quantifier.Quantifier.TheVariants.{Exists, ForAll}

-- The tokens of one byte: T ! & | ( ) [ ] U, E or A alone, and any other byte.
abbrev pub single : ℕ → Token
single b =
    cond (b == 84) Truth (cond (b == 33) (token.Unary Not) (cond (b == 38) (Sign And) (cond (b == 124) (Sign Or)
    (cond (b == 40) (Sign Open) (cond (b == 41) (Sign Close) (cond (b == 91) (Sign Left) (cond (b == 93) (Sign Right)
    (cond (b == 85) (Sign Until) (cond (b == 69) (Alone Exists) (cond (b == 65) (Alone ForAll) Other))))))))))

-- The operators of two bytes: E or A directly before X, F or G.
abbrev pub step : ℕ → Unary → Unary → Unary → Option Unary
step b x f g = cond (b == 88) (Some x) (cond (b == 70) (Some f) (cond (b == 71) (Some g) None))

abbrev pub operator : List ℕ → Option Unary
operator [] = None
operator (b ∷ []) = None
operator (b ∷ c ∷ bs) = cond (b == 69) (step c EX EF EG) (cond (b == 65) (step c AX AF AG) None)

-- The same, with the rest of the text.
abbrev pub operator_split : List ℕ → Option (Unary × List ℕ)
operator_split bs = option_map (λ (u : Unary). (u, drop 2 bs)) (operator bs)

-- The number that follows the sign q, and how many digits it has: two if there are two and the first is not 0, else one.
abbrev pub digit : ℕ → Bool
digit d = nat_le 48 d && nat_le d 57

abbrev pub numeral : List ℕ → Option (ℕ × ℕ)
numeral [] = None
numeral (d ∷ []) = cond (digit d) (Some (d - 48, 1)) None
numeral (d ∷ e ∷ bs) = cond (digit d) (cond (nat_le 49 d && digit e) (Some ((d - 48) * 10 + (e - 48), 2)) (Some (d - 48, 1))) None

-- The same, with the rest of the text.
abbrev pub numeral_split : List ℕ → Option (ℕ × List ℕ)
numeral_split bs = option_map (λ (n : ℕ × ℕ). (n.0, drop n.1 bs)) (numeral bs)

-- The token that a text begins with, and how many bytes it has.
abbrev pub asking : Option (ℕ × ℕ) → Token × ℕ
asking None = (Other, 1)
asking (Some n) = (Question n.0, suc n.1)

abbrev pub acting : ℕ → Option Unary → Token × ℕ
acting b None = (single b, 1)
acting b (Some u) = (token.Unary u, 2)

abbrev pub lex : List ℕ → Token × ℕ
lex [] = (End, 0)
lex (b ∷ bs) = cond (b == 113) (asking (numeral bs)) (acting b (operator (b ∷ bs)))

-- The same, with the rest of the text.
abbrev pub token_split : List ℕ → Token × List ℕ
token_split bs = ((lex bs).0, drop (lex bs).1 bs)

-- What a part of a text is, as a token; the part with no bytes is the end.
abbrev pub token_of : List ℕ → Token
token_of part = (lex part).0

-- The tokens of a text, each with its offset, the end of the text last.
pub data Stream : Type 0 where
  done : ℕ → Stream
  next : ℕ → Token → Stream → Stream

abbrev pub is_space : ℕ → Bool
is_space b = b == 32

-- The text after the spaces that it begins with.
abbrev pub unspaced : List ℕ → List ℕ
unspaced [] = []
unspaced (b ∷ bs) = cond (is_space b) (unspaced bs) (b ∷ bs)

-- The tokens from offset o on, where the first k bytes of what is left belong to a token before. Bytes 32, spaces, are passed over.
unfoldable pub tokens : ℕ → ℕ → List ℕ → Stream
tokens k o [] = done o
tokens (suc k) o (b ∷ bs) = tokens k (suc o) bs
tokens zero o (b ∷ bs) = cond (is_space b) (tokens zero (suc o) bs) (next o (lex (b ∷ bs)).0 (tokens ((lex (b ∷ bs)).1 - 1) (suc o) bs))

-- The first token, its offset, and the tokens after it.
abbrev pub first : Stream → Token
first (done o) = End
first (next o t s) = t

abbrev pub offset : Stream → ℕ
offset (done o) = o
offset (next o t s) = o

abbrev pub rest : Stream → Stream
rest (done o) = done o
rest (next o t s) = s

-- All tokens.
abbrev pub kinds : Stream → List Token
kinds (done o) = End ∷ []
kinds (next o t s) = t ∷ kinds s

-- s is the tokens ts, and then s'.
abbrev pub After : Stream → List Token → Stream → Type 0
After s [] s' = s ≡ s'
After (done o) (t ∷ ts) s' = ⊥
After (next o u s) (t ∷ ts) s' = (u ≡ t) × After s ts s'

-- A part has been cut off a text: the text was some spaces, the part, and the rest.
abbrev pub Cut : List ℕ → List ℕ → List ℕ → Type 0
Cut text part rest = (spaces : ℕ) × (text ≡ replicate spaces 32 ++ (part ++ rest))

-- A token as it stands in a text: the spaces before it, and its bytes, which are that token from the first to the last.
pub record Part : Type 0 where
  pub spaces : ℕ
  pub bytes : List ℕ
  pub token : Token
  pub is : lex bytes ≡ (token, length bytes)

abbrev pub text_of : List Part → List ℕ
text_of [] = []
text_of (p ∷ ps) = replicate p.spaces 32 ++ (p.bytes ++ text_of ps)

-- A text is made of parts and the spaces before them, and the parts are the tokens.
pub record MadeOf (text : List ℕ) (ts : List Token) : Type 0 where
  pub parts : List Part
  pub whole : text ≡ text_of parts
  pub are : map (λ p. p.token) parts ≡ ts
