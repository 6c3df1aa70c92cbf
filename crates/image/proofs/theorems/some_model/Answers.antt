use Rattle.image.proofs.Described.{models_some}
use Rattle.image.proofs.theorems.some_model.Goals as goal

pub returns : goal.returns
returns c = models_some
