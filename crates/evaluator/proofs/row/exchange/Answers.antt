use Rattle.evaluator.proofs.Reversing.{exchanged}
use Rattle.evaluator.proofs.row.exchange.Goals as goal

pub returns : goal.returns
returns c = λ j l. exchanged c.args.word c.args.k c.args.mask c.requires.pairs j l
