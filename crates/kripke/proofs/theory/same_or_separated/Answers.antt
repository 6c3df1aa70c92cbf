-- The theorem is proved in proofs/Separate.antt.
use Rattle.kripke.proofs.Separate.{same_or_separated}
use Rattle.kripke.proofs.theory.same_or_separated.Goals as goal

pub returns : goal.returns
returns c = same_or_separated
