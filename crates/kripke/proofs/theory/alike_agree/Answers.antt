-- The theorem is proved in proofs/Closing.antt.
use Rattle.kripke.proofs.Closing.{alike_agree}
use Rattle.kripke.proofs.theory.alike_agree.Goals as goal

pub returns : goal.returns
returns c = alike_agree
