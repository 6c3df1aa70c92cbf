-- The theorem is proved in proofs/Separate.antt.
use Rattle.kripke.proofs.Separate.{same_when_inseparable}
use Rattle.kripke.proofs.theory.same_when_inseparable.Goals as goal

pub returns : goal.returns
returns c = same_when_inseparable
