use Rattle.image.proofs.Unique.{models_one}
use Rattle.image.proofs.theorems.one_model.Goals as goal

pub returns : goal.returns
returns c = models_one
