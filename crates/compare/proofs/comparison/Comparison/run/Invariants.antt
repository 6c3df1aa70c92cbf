use Rattle.std.proofs.Common.{◌≡◌, length, take, drop}
use Rattle.compare.specs.Calls.{SameModels}
use Rattle.compare.specs.Law.{DidAll, served}
use Rattle.compare.proofs.comparison.Comparison.run.Given as goal

abbrev pub invariant-loop-i : goal.invariant-loop-i
invariant-loop-i l =
    (l.i-end ≡ served l.requests l.fn.answers) × (length l.answers ≡ length l.fn.answers) × (drop l.i l.answers ≡ drop l.i l.fn.answers) × SameModels l.fn.self l.self
    × DidAll l.fn.self (take l.i l.requests) (take l.i l.answers) l.self
