use Rattle.std.proofs.Common.{◌≡◌, ◌*◌, ◌≤◌, length}
use Rattle.kripke.specs.Rounds.{total}
use Rattle.kripke.specs.Union.{both}
use Rattle.refine.specs.Sources.{Leads}
use Rattle.refine.specs.Tables.{structure_of}
use Rattle.refine.proofs.turning.reverse.Given as goal

abbrev pub invariant-loop-s : goal.invariant-loop-s
invariant-loop-s l =
    (l.s-end ≡ total (structure_of l.first) (structure_of l.second)) × (length l.sources.steps.items ≤ 16 * l.s)
    × Leads (both (structure_of l.first) (structure_of l.second)) l.sources l.s
