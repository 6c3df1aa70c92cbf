-- The theorem is proved in proofs/Closing.antt.
use Rattle.kripke.proofs.Closing.{apart_by_rounds}
use Rattle.kripke.proofs.theory.apart_by_rounds.Goals as goal

pub returns : goal.returns
returns c = apart_by_rounds
