use Rattle.refine.specs.Refinements.{first, second}
use Rattle.refine.proofs.Staging.{classes_counted}
use Rattle.refine.proofs.refinement.Refinement.count.Goals as goal

pub returns : goal.returns
returns c = let r = c.args.self.now in classes_counted (first r) (second r) r.rounds r.parts r.long r.numbered
