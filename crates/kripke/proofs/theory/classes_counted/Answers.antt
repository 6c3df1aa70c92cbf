-- The theorem is proved in proofs/Counts.antt.
use Rattle.kripke.proofs.Counts.{classes_counted}
use Rattle.kripke.proofs.theory.classes_counted.Goals as goal

pub returns : goal.returns
returns c = classes_counted
