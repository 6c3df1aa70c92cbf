use Rattle.compare.proofs.Lists.{law_of}
use Rattle.compare.proofs.comparison.Comparison.open_and_run.Goals as goal

pub returns-clause-law : goal.returns-clause-law
returns-clause-law g c =
    let o = c.open-comparison.ensures in
    law_of c.open-comparison.result _ _ _ _ _ _ _ o.first_is o.second_is o.questions_is o.none c.run.ensures.law
