-- What the reader of formulas refuses, in which order, and what it promises of a text that it reads.
use Rattle.std.specs.Prelude.{◌≡◌, ℕ, ◌<◌, ◌≤◌, cond, ◌⊎◌, List, [], ◌∷◌, ◌++◌, length, drop, Ok, Err, Result, nat_lt}
use Rattle.kripke.specs.Ctl.{Formula}
use Rattle.kripke.specs.Nodes.{root, WellFormed}
use Rattle.kripke.specs.Refusals.{number_of, FirstBreachBy}
use Rattle.kripke.specs.declared.node.Node.{Node}
use Rattle.kripke.specs.declared.refusal.Refusal.{Refusal}
use Rattle.kripke.specs.declared.refusal.Layer.TheVariants as layer
use Rattle.kripke.specs.declared.refusal.Cause.{Cause}
use Rattle.kripke.specs.declared.refusal.Cause.TheVariants as cause
use Rattle.reader.specs.declared.token.Token.{Token}
use Rattle.reader.specs.declared.token.Token.TheVariants.{Question}
use Rattle.reader.specs.Tokens.{Stream, tokens, first, offset, After}
use Rattle.reader.specs.Grammar.{Mark, mark, whole, toks, Sentence, Viable, Within}
use Rattle.reader.specs.Table.{table}

-- The rules that a text breaks, read with q questions into the given number of places.
-- A place in the text is what stands before it, the tokens ts, and what follows, s; its offset is that of the first token of s.
pub data TextBreach (text : List ℕ) (q places : ℕ) : Cause → ℕ → Type 0 where
  long : 4096 < length text → TextBreach text q places cause.TextLimits 0
  unlimited : (q ≡ 0) ⊎ (32 < q) → TextBreach text q places cause.TextLimits 0
  -- some formula's text begins with ts, and none with ts and the token, other byte or end that follows
  unexpected : (ts : List Token) (s : Stream) → After (tokens 0 0 text) ts s → Viable ts → (¬ Viable (ts ++ (first s ∷ [])))
      → TextBreach text q places cause.Unexpected (offset s)
  -- some formula's text goes on with the question j
  unasked : (ts : List Token) (s : Stream) (j : ℕ) → After (tokens 0 0 text) ts s → first s ≡ Question j → Viable (ts ++ (first s ∷ [])) → q ≤ j
      → TextBreach text q places cause.QuestionNumber (offset s)
  -- in some formula's text that goes on with the token, a subformula begins with it at level 65
  deep : (ts : List Token) (s : Stream) (f : Formula) (ps qs : List Mark) → After (tokens 0 0 text) ts s → toks ps ≡ ts → ps ++ (mark (first s) 65 ∷ qs) ≡ whole f
      → TextBreach text q places cause.TooDeep (offset s)
  many : (f : Formula) → Sentence text f → (places < length (table f)) ⊎ (2045 < length (table f)) → TextBreach text q places cause.ManyNodes (length (table f))

-- The limits are told first and too many nodes last; of the others the least offset is told, and at one offset the lower number.
abbrev pub stage : Cause → ℕ
stage c = cond (nat_lt (number_of c) 10) 0 (cond (nat_lt (number_of c) 13) 1 2)

abbrev pub Sooner : Cause → ℕ → Cause → ℕ → Type 0
Sooner d q c p = (stage d < stage c) ⊎ ((stage d ≡ stage c) × ((q < p) ⊎ ((q ≡ p) × (number_of d < number_of c))))

-- The text is a sentence of one formula, within the limits for q questions; its table stands in the places from the first on, the other places are as before.
-- n is its number of nodes.
pub record Reads (text : List ℕ) (q : ℕ) (before after : List Node) (n : ℕ) : Type 0 where
  pub formula : Formula
  pub sentence : Sentence text formula
  pub within : Within q formula
  pub only : (g : Formula) → Sentence text g → g ≡ formula
  pub counted : n ≡ length (table formula)
  pub written : after ≡ table formula ++ drop n before
  pub rooted : root (table formula) ≡ formula
  pub ordered : WellFormed q (table formula)

-- The text and the stated count of questions are within their limits.
pub record Limited (text : List ℕ) (q : ℕ) : Type 0 where
  pub short : length text ≤ 4096
  pub some : 1 ≤ q
  pub few : q ≤ 32

-- The reader is to read the text as the formula f: it is a sentence of f, and all limits are kept.
pub record Readable (text : List ℕ) (q places : ℕ) (f : Formula) : Type 0 where
  pub limited : Limited text q
  pub sentence : Sentence text f
  pub within : Within q f
  pub room : length (table f) ≤ places
  pub few : length (table f) ≤ 2045

-- Every text that is to be read is read: none of them is refused.
abbrev pub Complete : List ℕ → ℕ → ℕ → Result ℕ Refusal → Type 0
Complete text q places (Ok n) = Unit {0}
Complete text q places (Err e) = (f : Formula) → ¬ Readable text q places f

-- The refusal of a call that is judged so and complete.
abbrev pub Refuses : List ℕ → ℕ → ℕ → Refusal → Type 0
Refuses text q places e = FirstBreachBy Sooner (TextBreach text q places) layer.Text e × ((f : Formula) → ¬ Readable text q places f)
