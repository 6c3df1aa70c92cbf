-- The theorem is proved in proofs/Sound.antt.
use Rattle.kripke.proofs.Sound.{least_nesting}
use Rattle.kripke.proofs.theory.least_nesting.Goals as goal

pub returns : goal.returns
returns c = least_nesting
