-- The theorem is proved in proofs/Closing.antt.
use Rattle.kripke.proofs.Closing.{different_separated}
use Rattle.kripke.proofs.theory.different_separated.Goals as goal

pub returns : goal.returns
returns c = different_separated
