-- A structure as read: one row a state.
use Rattle.std.specs.Prelude.{ℕ, List, map}
use Rattle.kripke.specs.Structure.{Kripke, State}
use Rattle.refine.specs.declared.row.Row.{Row}

abbrev pub state_of : Row → State
state_of r = record { answers = r.answers.items; next = r.next.items }

abbrev pub structure : ℕ → List Row → Kripke
structure initial rows = record { initial = initial; states = map state_of rows }
