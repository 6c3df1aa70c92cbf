use Rattle.evaluator.proofs.Reversing.{eights, fours, halves, ones, sixteens, turned_over, twos}
use Rattle.evaluator.proofs.row.reversed.Goals as goal

pub exchange-ones-requires-clause-pairs : goal.exchange-ones-requires-clause-pairs
exchange-ones-requires-clause-pairs c = ones

pub exchange-twos-requires-clause-pairs : goal.exchange-twos-requires-clause-pairs
exchange-twos-requires-clause-pairs c = twos

pub exchange-fours-requires-clause-pairs : goal.exchange-fours-requires-clause-pairs
exchange-fours-requires-clause-pairs c = fours

pub exchange-bytes-requires-clause-pairs : goal.exchange-bytes-requires-clause-pairs
exchange-bytes-requires-clause-pairs c = eights

pub exchange-quarters-requires-clause-pairs : goal.exchange-quarters-requires-clause-pairs
exchange-quarters-requires-clause-pairs c = sixteens

pub exchange-requires-clause-pairs : goal.exchange-requires-clause-pairs
exchange-requires-clause-pairs c = halves

pub returns : goal.returns
returns c =
    turned_over c.args.word c.exchange-ones.result c.exchange-twos.result c.exchange-fours.result c.exchange-bytes.result c.exchange-quarters.result c.exchange.result
    c.exchange-ones.ensures c.exchange-twos.ensures c.exchange-fours.ensures c.exchange-bytes.ensures c.exchange-quarters.ensures c.exchange.ensures
