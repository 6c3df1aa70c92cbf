-- The theorem is proved in proofs/Counts.antt.
use Rattle.kripke.proofs.Counts.{classes_grow}
use Rattle.kripke.proofs.theory.classes_grow.Goals as goal

pub returns : goal.returns
returns c = classes_grow
