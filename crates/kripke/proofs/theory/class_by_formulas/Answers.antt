-- The theorem is proved in proofs/Closing.antt.
use Rattle.kripke.proofs.Closing.{class_by_formulas}
use Rattle.kripke.proofs.theory.class_by_formulas.Goals as goal

pub returns : goal.returns
returns c = class_by_formulas
