-- The rows of the bench table, and what it means that a row holds, in the words of the contracts that it is an example of.
use Rattle.std.specs.Prelude.{◌≡◌, ℕ, ◌≤◌, Bool, true, false, List, [], ◌∷◌, ◌++◌, length, drop, slice_index_or}
use Rattle.kripke.specs.Structure.{Kripke, Lawful}
use Rattle.kripke.specs.Ctl.{Formula, Holds, NextOnly, nesting}
use Rattle.kripke.specs.Rounds.{Separates, Apart, ClosedAlike, ClosedDifferent, FirstClosed}
use Rattle.kripke.specs.Refusals.{Clean, FirstBreach, FirstBreachBy, told_as}
use Rattle.kripke.specs.declared.node.Node.{Node}
use Rattle.kripke.specs.declared.refusal.Refusal.{Refusal}
use Rattle.kripke.specs.declared.refusal.Cause.TheVariants as cause
use Rattle.kripke.specs.declared.refusal.Layer.TheVariants as layer
use Rattle.labels.specs.Kinds.{bands}
use Rattle.reader.specs.Breaches.{TextBreach, Sooner, Reads}
use Rattle.compare.specs.Breaches.{FormulaBreach}
use Rattle.evaluator.specs.Breaches as evaluation

pub data Verdict : Type 0 where
  alike different : Verdict

pub data Row : Type 0 where
  -- the structure is lawful for labels of 32 questions, or it is not
  lawful : Kripke → Bool → Row
  -- a reading of this level, with these limits, answers the question so
  answers : (level fault pre_alarm alarm question : ℕ) → Bool → Row
  -- the formula holds at the structure's initial state, or it does not
  says : Kripke → Formula → Bool → Row
  -- the comparison closes after k rounds, with this verdict
  closes : Kripke → Kripke → Verdict → ℕ → Row
  -- the text is read as a formula of these nodes; it is refused at this offset, as too deep, and told so
  reads : List ℕ → List Node → Row
  too_deep : List ℕ → ℕ → List ℕ → Row
  -- so many places are enough for the formula, after k rounds that closed the comparison as different; so many are refused, and told so
  enough_places : Kripke → Kripke → ℕ → ℕ → Row
  few_places : Kripke → Kripke → ℕ → ℕ → List ℕ → Row
  -- so many words are enough to evaluate the table; so many are refused, and told so
  enough_words : List Node → ℕ → Row
  few_words : List Node → ℕ → List ℕ → Row

-- The statement, or its opposite.
abbrev pub Is : Bool → Type 0 → Type 0
Is true P = P
Is false P = ¬ P

-- What a verdict says after k rounds: of alike structures, that no formula separates them; of different ones, that a next-only formula of nesting k does.
abbrev pub Says : Kripke → Kripke → Verdict → ℕ → Type 0
Says a b alike k = ClosedAlike a b k × (¬ Apart a b a.initial b.initial)
Says a b different k =
    ClosedDifferent a b k × ((f : Formula) × NextOnly f × (nesting f ≡ k) × Separates a b a.initial b.initial f)

-- The comparison of two models of signal words is closed after k rounds, and after no fewer, with this verdict.
pub record Closes (a b : Kripke) (v : Verdict) (k : ℕ) : Type 0 where
  pub first : Lawful 32 a
  pub second : Lawful 32 b
  pub closed : FirstClosed a b k
  pub verdict : Says a b v k

-- The text is read into the given places.
pub record Read (text : List ℕ) (ns before : List Node) : Type 0 where
  pub clean : Clean (TextBreach text 32 (length before))
  pub read : Reads text 32 before (ns ++ drop (length ns) before) (length ns)

-- The refusals of the rows: by a text that is too deep at an offset, by so few places, by so few words.
abbrev pub deep_at : ℕ → Refusal
deep_at offset = record { cause = cause.TooDeep; layer = layer.Text; place = offset }

abbrev pub places_given : ℕ → Refusal
places_given n = record { cause = cause.FewPlaces; layer = layer.Comparison; place = n }

abbrev pub words_given : ℕ → Refusal
words_given n = record { cause = cause.FewWords; layer = layer.Evaluation; place = n }

abbrev pub Holding : Row → Type 0
Holding (lawful k said) = Is said (Lawful 32 k)
Holding (answers level fault pre_alarm alarm question said) = slice_index_or (bands level fault pre_alarm alarm) question false ≡ said
Holding (says k f said) = Lawful 32 k × Is said (Holds k f k.initial)
Holding (closes a b v k) = Closes a b v k
Holding (reads text ns) = (before : List Node) → length ns ≤ length before → Read text ns before
Holding (too_deep text place line) = ((places : ℕ) → FirstBreachBy Sooner (TextBreach text 32 places) layer.Text (deep_at place)) × (told_as (deep_at place) ≡ line)
Holding (enough_places a b k places) = Clean (FormulaBreach a b k places)
Holding (few_places a b k places line) = FirstBreach (FormulaBreach a b k places) layer.Comparison (places_given places) × (told_as (places_given places) ≡ line)
Holding (enough_words ns w) = Clean (evaluation.EvaluationBreach 32 ns w)
Holding (few_words ns w line) = FirstBreach (evaluation.EvaluationBreach 32 ns w) layer.Evaluation (words_given w) × (told_as (words_given w) ≡ line)

-- Every row of a table holds.
abbrev pub Each : List Row → Type 0
Each [] = Unit {0}
Each (r ∷ rs) = Holding r × Each rs
