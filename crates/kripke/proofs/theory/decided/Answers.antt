-- The theorem is proved in proofs/Decide.antt.
use Rattle.kripke.proofs.Decide.{decided}
use Rattle.kripke.proofs.theory.decided.Goals as goal

pub returns : goal.returns
returns c = decided
