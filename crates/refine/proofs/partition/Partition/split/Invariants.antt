use Rattle.refine.proofs.Scan.{Splitting}
use Rattle.refine.proofs.partition.Partition.split.Given as goal

abbrev pub invariant-loop-s : goal.invariant-loop-s
invariant-loop-s l = Splitting l.initial.self l.self l.test l.row l.name l.s
