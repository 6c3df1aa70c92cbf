-- The theorem is proved in proofs/Reflect.antt.
use Rattle.kripke.proofs.Reflect.{same-T}
use Rattle.kripke.proofs.theory.test_reflects.Goals as goal

pub returns : goal.returns
returns c = same-T
