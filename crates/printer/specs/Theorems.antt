-- What is printed is read back.
use Rattle.std.specs.Prelude.{◌≡◌, ℕ, ◌<◌, ◌⊎◌, List, length, take, Ok, Err, Result}
use Rattle.kripke.specs.Ctl.{Formula}
use Rattle.kripke.specs.Nodes.{root}
use Rattle.kripke.specs.Refusals.{JudgedBy}
use Rattle.kripke.specs.declared.node.Node.{Node}
use Rattle.kripke.specs.declared.refusal.Refusal.{Refusal}
use Rattle.kripke.specs.declared.refusal.Cause.TheVariants.{ManyNodes}
use Rattle.kripke.specs.declared.refusal.Layer.TheVariants.{Text}
use Rattle.reader.specs.Breaches.{TextBreach, Reads, Sooner}
use Rattle.reader.specs.Table.{table}
use Rattle.printer.specs.Printed.{TextOf}

-- The n nodes that are read are a table of the formula f; or there are too many nodes, and that alone is refused.
abbrev pub Back : Formula → List Node → List Node → Result ℕ Refusal → Type 0
Back f before after (Ok n) = root (take n after) ≡ f
Back f before after (Err e) = (e.cause ≡ ManyNodes) × ((length before < length (table f)) ⊎ (2045 < length (table f)))

-- Whatever the reader of formulas may answer to a text that was printed, with the same questions and any places.
abbrev pub ReadBack : Type 0
ReadBack = (q : ℕ) (ns : List Node) (text : List ℕ) → TextOf q ns text → (before after : List Node) (r : Result ℕ Refusal)
    → JudgedBy Sooner r (record { breaches = TextBreach text q (length before); layer = Text; accepted = Reads text q before after; refused = after ≡ before }) → Back (root ns) before after r
