use Rattle.refine.specs.Pairs.{both_of}
use Rattle.refine.proofs.Rounding.{Refining}
use Rattle.refine.proofs.partition.Partition.round.Given as goal

abbrev pub invariant-loop-c : goal.invariant-loop-c
invariant-loop-c l = Refining (both_of l.pair) l.initial.self l.self l.c
