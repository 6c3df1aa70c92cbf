-- The two structures of a pair, and both as one.
use Rattle.kripke.specs.Structure.{Kripke}
use Rattle.kripke.specs.Union.{both}
use Rattle.refine.specs.Tables.{structure_of}
use Rattle.refine.specs.declared.pair.Pair.{Pair}

abbrev pub first_of : Pair → Kripke
first_of p = structure_of p.first

abbrev pub second_of : Pair → Kripke
second_of p = structure_of p.second

abbrev pub both_of : Pair → Kripke
both_of p = both (first_of p) (second_of p)
