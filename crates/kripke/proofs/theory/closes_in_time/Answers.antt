-- The theorem is proved in proofs/Closing.antt.
use Rattle.kripke.proofs.Closing.{closes_in_time}
use Rattle.kripke.proofs.theory.closes_in_time.Goals as goal

pub returns : goal.returns
returns c = closes_in_time
