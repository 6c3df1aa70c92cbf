-- Refusals: their numbers, and what it means that a call is refused in the stated cases and in no other.
use Rattle.std.specs.Prelude.{◌≡◌, ℕ, ◌<◌, ◌⊎◌, List, ◌++◌, Ok, Err, codes, decimal, Result}
use Rattle.kripke.specs.declared.refusal.Refusal.{Refusal}
use Rattle.kripke.specs.declared.refusal.Error.{Error}
use Rattle.kripke.specs.declared.refusal.Error.TheVariants.{Refused, Memory}
use Rattle.kripke.specs.declared.refusal.Layer.{Layer}
use Rattle.kripke.specs.declared.refusal.Layer.TheVariants as layer
use Rattle.kripke.specs.declared.refusal.Cause.{Cause}
use Rattle.kripke.specs.declared.refusal.Cause.TheVariants as cause

-- The number of each cause, and of each layer.
abbrev pub number_of : Cause → ℕ
number_of cause.ShortImage = 1
number_of cause.HeaderField = 2
number_of cause.ImageLength = 3
number_of cause.StateRecord = 4
number_of cause.LinkRecord = 5
number_of cause.LongChain = 6
number_of cause.RuleLimits = 7
number_of cause.UnlawfulRule = 8
number_of cause.TextLimits = 9
number_of cause.Unexpected = 10
number_of cause.QuestionNumber = 11
number_of cause.TooDeep = 12
number_of cause.ManyNodes = 13
number_of cause.NodeCount = 14
number_of cause.BadNode = 15
number_of cause.FewWords = 16
number_of cause.ClosedComparison = 17
number_of cause.StateNumber = 18
number_of cause.OpenComparison = 19
number_of cause.NotDifferent = 20
number_of cause.FewPlaces = 21
number_of cause.ReportSize = 22

abbrev pub layer_of : Layer → ℕ
layer_of layer.FirstImage = 1
layer_of layer.SecondImage = 2
layer_of layer.Rules = 3
layer_of layer.Text = 4
layer_of layer.Evaluation = 5
layer_of layer.Comparison = 6
layer_of layer.Report = 7

-- What is told of a refusal: the word, the number, the layer and the place.
abbrev pub told_as : Refusal → List ℕ
told_as e = codes "refused " ++ (decimal (number_of e.cause) ++ (codes " " ++ (decimal (layer_of e.layer) ++ (codes " " ++ decimal e.place))))

-- Which rules an input breaks: a cause and a place for each breach.
abbrev pub Rules : Type 1
Rules = Cause → ℕ → Type 0

-- An order of telling: the breach (d, q) is told before (c, p).
abbrev pub Order : Type 1
Order = Cause → ℕ → Cause → ℕ → Type 0

-- The usual order: the lower number is told first, and of the same the lower place.
abbrev pub Before : Order
Before d q c p = (number_of d < number_of c) ⊎ ((number_of d ≡ number_of c) × (q < p))

-- No rule is broken.
abbrev pub Clean : Rules → Type 0
Clean broken = (c : Cause) (p : ℕ) → ¬ broken c p

-- The refusal tells a breach, and no breach is told before it.
pub record FirstBreachBy (Sooner : Order) (Broken : Rules) (layer : Layer) (e : Refusal) : Type 0 where
  pub broken : Broken e.cause e.place
  pub least : (d : Cause) (q : ℕ) → Sooner d q e.cause e.place → ¬ Broken d q
  pub layered : e.layer ≡ layer

abbrev pub FirstBreach : Rules → Layer → Refusal → Type 0
FirstBreach = FirstBreachBy Before

-- What is promised of a call that may refuse: the rules that its input breaks, the layer that tells them, what holds of a value that it gives,
-- and what holds after a refusal (that nothing has changed).
pub record Judgement (X : Type 0) : Type 1 where
  pub breaches : Rules
  pub layer : Layer
  pub accepted : X → Type 0
  pub refused : Type 0

-- An input that breaks no rule is accepted; for any other the first breach is told.
abbrev pub JudgedBy : {X : Type 0} → Order → Result X Refusal → Judgement X → Type 0
JudgedBy Sooner (Ok x) j = Clean j.breaches × j.accepted x
JudgedBy Sooner (Err e) j = FirstBreachBy Sooner j.breaches j.layer e × j.refused

abbrev pub Judged : {X : Type 0} → Result X Refusal → Judgement X → Type 0
Judged = JudgedBy Before

-- The same of a call that allocates. Want of memory is met only by an input that breaks no rule, and changes nothing either.
abbrev pub JudgedInMemory : {X : Type 0} → Result X Error → Judgement X → Type 0
JudgedInMemory (Ok x) j = Clean j.breaches × j.accepted x
JudgedInMemory (Err (Refused e)) j = FirstBreach j.breaches j.layer e × j.refused
JudgedInMemory (Err Memory) j = Clean j.breaches × j.refused
