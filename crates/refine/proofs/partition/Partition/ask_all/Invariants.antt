use Rattle.refine.specs.Pairs.{both_of}
use Rattle.refine.specs.Rounding.{Asking}
use Rattle.refine.proofs.partition.Partition.ask_all.Given as goal

abbrev pub invariant-loop-q : goal.invariant-loop-q
invariant-loop-q l = Asking (both_of l.pair) l.initial.self l.self l.q
