-- The structure that a table is.
use Rattle.kripke.specs.Structure.{Kripke}
use Rattle.refine.specs.Rows.{structure}
use Rattle.refine.specs.declared.table.Table.{Table}

abbrev pub structure_of : Table → Kripke
structure_of t = structure t.initial t.rows.items
