-- The theorem is proved in proofs/Settle.antt.
use Rattle.kripke.proofs.Settle.{settled_agree}
use Rattle.kripke.proofs.theory.settled_agree.Goals as goal

pub returns : goal.returns
returns c = settled_agree
