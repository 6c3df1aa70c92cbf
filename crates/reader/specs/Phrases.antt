-- Phrases: the parts of a formula's text that the reader takes one after another, and what it owes of each.
use Rattle.std.specs.Prelude.{◌≡◌, ℕ, ◌≤◌, List, [], ◌∷◌, ◌++◌, Some, None, Ok, Err, Option, Result, ◌≢◌}
use Rattle.kripke.specs.Ctl.{Formula, truth, not, and, or, EX, AX, EF, AF, EG, AG, EU, AU}
use Rattle.kripke.specs.declared.operator.Operator.{Operator}
use Rattle.kripke.specs.declared.operator.Operator.TheVariants as operator
use Rattle.kripke.specs.declared.refusal.Refusal.{Refusal}
use Rattle.kripke.specs.declared.refusal.Layer.TheVariants as layer
use Rattle.kripke.specs.declared.refusal.Cause.{Cause}
use Rattle.kripke.specs.declared.refusal.Cause.TheVariants as cause
use Rattle.reader.specs.declared.token.Token.{Token}
use Rattle.reader.specs.declared.token.Token.TheVariants as token
use Rattle.reader.specs.declared.token.Sign.{Sign}
use Rattle.reader.specs.declared.token.Sign.TheVariants as sign
use Rattle.reader.specs.declared.token.Unary.{Unary}
use Rattle.reader.specs.declared.token.Unary.TheVariants as unary
use Rattle.kripke.specs.declared.quantifier.Quantifier.TheVariants.{Exists, ForAll}
use Rattle.reader.specs.declared.head.Opening.{Opening}
use Rattle.reader.specs.declared.head.Opening.TheVariants.{Pair, Until}
use Rattle.reader.specs.declared.head.Head.{Head}
use Rattle.reader.specs.declared.head.Head.TheVariants as head
use Rattle.reader.specs.Tokens.{Stream, first, offset, After}
use Rattle.reader.specs.Grammar.{Mark, mark, marks, toks, Asked, All}

-- A kind of phrase: what it stands for, how that is written, and an example.
pub record Phrase : Type 1 where
  pub A : Type 0
  pub mk : A → List Mark
  pub any : A

abbrev pub Then : Phrase → Phrase → Phrase
Then P Q = record { A = P.A × Q.A; mk = λ x. P.mk x.0 ++ Q.mk x.1; any = (P.any, Q.any) }

abbrev pub Nothing : Phrase
Nothing = record { A = Unit {0}; mk = λ x. []; any = tt }

-- One token with which no subformula begins: a sign, or the end.
abbrev pub Exact : Token → Phrase
Exact t = record { A = Unit {0}; mk = λ x. mark t 0 ∷ []; any = tt }

abbrev pub Signed : Sign → Phrase
Signed t = Exact (token.Sign t)

-- A formula at level l.
abbrev pub Form : ℕ → Phrase
Form l = record { A = Formula; mk = marks l; any = truth }

-- & or |.
pub data Link : Type 0 where
  conj disj : Link

abbrev pub linking : Link → Sign
linking conj = sign.And
linking disj = sign.Or

abbrev pub Linked : Phrase
Linked = record { A = Link; mk = λ k. mark (token.Sign (linking k)) 0 ∷ []; any = conj }

-- What follows the first token of an operator of two arguments: before the first argument, between the two, and after the second.
abbrev pub Opened : Opening → Phrase
Opened Pair = Nothing
Opened (Until q) = Signed sign.Left

abbrev pub Middle : Opening → Phrase
Middle Pair = Linked
Middle (Until q) = Signed sign.Until

abbrev pub closing : Opening → Sign
closing Pair = sign.Close
closing (Until q) = sign.Right

-- The formula of two arguments, and its operator.
abbrev pub joined : (o : Opening) → (Middle o).A → Formula → Formula → Formula
joined Pair conj f g = and f g
joined Pair disj f g = or f g
joined (Until Exists) m f g = EU f g
joined (Until ForAll) m f g = AU f g

abbrev pub joined_by : (o : Opening) → (Middle o).A → Operator
joined_by Pair conj = operator.And
joined_by Pair disj = operator.Or
joined_by (Until Exists) m = operator.EU
joined_by (Until ForAll) m = operator.AU

-- The formula of one argument, and its operator.
abbrev pub applied : Unary → Formula → Formula
applied unary.Not f = not f
applied unary.EX f = EX f
applied unary.AX f = AX f
applied unary.EF f = EF f
applied unary.AF f = AF f
applied unary.EG f = EG f
applied unary.AG f = AG f

abbrev pub applied_by : Unary → Operator
applied_by unary.Not = operator.Not
applied_by unary.EX = operator.EX
applied_by unary.AX = operator.AX
applied_by unary.EF = operator.EF
applied_by unary.AF = operator.AF
applied_by unary.EG = operator.EG
applied_by unary.AG = operator.AG

-- The first token of a formula.
abbrev pub opening : Head → Token
opening head.Truth = token.Truth
opening (head.Question j) = token.Question j
opening (head.Unary u) = token.Unary u
opening (head.Binary Pair) = token.Sign sign.Open
opening (head.Binary (Until q)) = token.Alone q

-- What a token begins, if anything.
abbrev pub head_of : Token → Option Head
head_of token.Truth = Some head.Truth
head_of (token.Question j) = Some (head.Question j)
head_of (token.Unary u) = Some (head.Unary u)
head_of (token.Alone q) = Some (head.Binary (Until q))
head_of (token.Sign sign.And) = None
head_of (token.Sign sign.Or) = None
head_of (token.Sign sign.Open) = Some (head.Binary Pair)
head_of (token.Sign sign.Close) = None
head_of (token.Sign sign.Left) = None
head_of (token.Sign sign.Right) = None
head_of (token.Sign sign.Until) = None
head_of token.Other = None
head_of token.End = None

-- Why the token t is refused after the marks pre, which w continues: no P goes on with it, whatever follows; or it is a question c or beyond; or it begins a
-- subformula at level 65.
pub data Why (P : Phrase) (c : ℕ) (pre w : List Mark) (t : Token) : Cause → Type 0 where
  unexpected : ((y : P.A) (r v : List Token) → toks pre ++ (t ∷ v) ≢ toks (P.mk y) ++ r) → Why P c pre w t cause.Unexpected
  unasked : (v : List Mark) (m j : ℕ) → w ≡ mark t m ∷ v → t ≡ token.Question j → c ≤ j → Why P c pre w t cause.QuestionNumber
  deep : (v : List Mark) → w ≡ mark t 65 ∷ v → Asked c t → Why P c pre w t cause.TooDeep

-- The tokens s are refused where a P was to be read: the tokens of pre, within the limits, begin a P, and the next one is refused.
pub record Refused (P : Phrase) (c : ℕ) (s : Stream) (e : Refusal) : Type 0 where
  pub pre : List Mark
  pub w : List Mark
  pub value : P.A
  pub at : Stream
  pub after : After s (toks pre) at
  pub good : All c pre
  pub spelt : pre ++ w ≡ P.mk value
  pub here : offset at ≡ e.place
  pub layered : e.layer ≡ layer.Text
  pub why : Why P c pre w (first at) e.cause

-- The tokens s begin with a P within the limits, given as r, and then s' follows.
pub record Taken {R : Type 0} (P : Phrase) (Is : P.A → R → Type 0) (c : ℕ) (s : Stream) (r : R) (s' : Stream) : Type 0 where
  pub value : P.A
  pub is : Is value r
  pub after : After s (toks (P.mk value)) s'
  pub good : All c (P.mk value)

-- What a reader of P owes.
abbrev pub Owes : {R : Type 0} → (P : Phrase) → (P.A → R → Type 0) → ℕ → Stream → Stream → Result R Refusal → Type 0
Owes P Is c s s' (Ok r) = Taken P Is c s r s'
Owes P Is c s s' (Err e) = Refused P c s e

-- What the reader of the first token of a formula at level l owes.
pub record Begun (c l : ℕ) (s : Stream) (h : Head) (s' : Stream) : Type 0 where
  pub after : After s (opening h ∷ []) s'
  pub good : (l ≤ 64) × Asked c (opening h)

abbrev pub Begins : ℕ → ℕ → Stream → Stream → Result Head Refusal → Type 0
Begins c l s s' (Ok h) = Begun c l s h s'
Begins c l s s' (Err e) = Refused (Form l) c s e
