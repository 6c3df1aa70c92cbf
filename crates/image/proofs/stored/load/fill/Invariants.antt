use Rattle.std.proofs.Common.{◌≡◌, ◌≤◌, vec_items, vec_capacity}
use Rattle.image.specs.Held.{Filled}
use Rattle.image.specs.Image.{most_states}
use Rattle.image.proofs.stored.load.fill.Given as goal

abbrev pub invariant-loop-s : goal.invariant-loop-s
invariant-loop-s g l =
    (l.s-end ≡ l.image.linked.records.states) × (most_states ≤ vec_capacity l.rows)
    × Filled g.L.Label.answers g.L.Coded.codes g.L.Coded.coding l.image.linked.records.image.now l.s (vec_items l.rows)
