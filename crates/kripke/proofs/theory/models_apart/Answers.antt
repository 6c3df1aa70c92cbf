-- The theorem is proved in proofs/Closing.antt.
use Rattle.kripke.proofs.Closing.{models_apart}
use Rattle.kripke.proofs.theory.models_apart.Goals as goal

pub returns : goal.returns
returns c = models_apart
