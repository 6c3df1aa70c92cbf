use Rattle.std.proofs.Common.{arith}
use Rattle.compare.proofs.comparison.Comparison.open.Goals as goal

pub invariant_of-result : goal.invariant_of-result
invariant_of-result g c = record { «open» = λ j l. absurd (omega (arith, l, c.open-stages.ensures.rounds)); kept = c.keep.ensures }
