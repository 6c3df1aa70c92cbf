-- The reader's steps: what it has before it, and what it has made.
use Rattle.std.specs.Prelude.{◌≡◌, ℕ, ◌+◌, List, length, drop, slice_set, Ok, Err, Result}
use Rattle.kripke.specs.Ctl.{Formula}
use Rattle.kripke.specs.declared.node.Node.{Node}
use Rattle.kripke.specs.declared.refusal.Refusal.{Refusal}
use Rattle.reader.specs.declared.token.Token.TheVariants.{End}
use Rattle.reader.specs.declared.cursor.Cursor.{Cursor}
use Rattle.reader.specs.Tokens.{Stream, lex, tokens, token_of, first, rest, offset}
use Rattle.reader.specs.Grammar.{Sentence, Within}
use Rattle.reader.specs.Table.{nodes, table, laid}
use Rattle.reader.specs.Phrases.{Phrase, Then, Exact, Form, Refused}

-- What is left of a cursor's text, and the tokens in it.
abbrev pub left : Cursor → List ℕ
left c = drop c.at c.text.now

abbrev pub ahead : Cursor → Stream
ahead c = tokens 0 c.at (left c)

-- The first token of the stream s has been passed: it is the part, from its first byte to its last, which begins where the token stands and ends at the offset o, and s' is ahead then.
pub record Passed (s : Stream) (part : List ℕ) (o : ℕ) (s' : Stream) : Type 0 where
  pub is : first s ≡ token_of part
  pub entire : (lex part).1 ≡ length part
  pub here : offset s + length part ≡ o
  pub after : rest s ≡ s'

-- A whole text: a formula, and then the end.
abbrev pub Text : Phrase
Text = Then (Form 1) (Exact End)

-- One more node has been made, number i, and written if there is a place for it.
pub record Pushed (i : ℕ) (before : List Node) (n : Node) (own i' : ℕ) (after : List Node) : Type 0 where
  pub own-is : own ≡ i
  pub counted : i' ≡ i + 1
  pub written : after ≡ slice_set before i n

-- The formula's nodes have been made, numbered from i on; its own is the last of them, and then comes number i'.
pub record Laying (i : ℕ) (before : List Node) (f : Formula) (own i' : ℕ) (after : List Node) : Type 0 where
  pub last : own + 1 ≡ i'
  pub counted : i' ≡ i + length (nodes i f)
  pub written : after ≡ laid before i (nodes i f)

-- What the reader of a whole text owes: its nodes are written as far as there are places for them.
pub record Whole (text : List ℕ) (c : ℕ) (before after : List Node) (n : ℕ) : Type 0 where
  pub formula : Formula
  pub sentence : Sentence text formula
  pub within : Within c formula
  pub counted : n ≡ length (table formula)
  pub written : after ≡ laid before 0 (table formula)

abbrev pub Parsed : List ℕ → ℕ → List Node → List Node → Result ℕ Refusal → Type 0
Parsed text c before after (Ok n) = Whole text c before after n
Parsed text c before after (Err e) = Refused Text c (tokens 0 0 text) e
