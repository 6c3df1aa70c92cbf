-- The bands of a reading's level, by the answers that each gives.
use Rattle.std.specs.Prelude.{Bool, true, false, List, [], ◌∷◌}
use Rattle.labels.specs.declared.reading.Band.{Band}
use Rattle.labels.specs.declared.reading.Band.TheVariants.{Fault, Normal, PreAlarm, Alarm}

abbrev pub shows : Band → List Bool
shows Fault = true ∷ false ∷ false ∷ []
shows Normal = false ∷ false ∷ false ∷ []
shows PreAlarm = false ∷ true ∷ false ∷ []
shows Alarm = false ∷ true ∷ true ∷ []
