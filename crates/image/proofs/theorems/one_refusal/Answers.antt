use Rattle.image.proofs.Unique.{refusals_one}
use Rattle.image.proofs.theorems.one_refusal.Goals as goal

pub returns : goal.returns
returns c = refusals_one
