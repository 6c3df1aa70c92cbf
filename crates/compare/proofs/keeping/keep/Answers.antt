use Rattle.std.proofs.Common.{◌≡◌, ℕ, false, true, get_or, ◌∙◌, subst}
use Rattle.std.proofs.lemmas.Bool.{eq-eqb, ne_eqb}
use Rattle.refine.specs.Refinements.{first, second}
use Rattle.refine.specs.Steps.{class_of}
use Rattle.compare.specs.Closing.{level}
use Rattle.compare.specs.Pruned.{Pruned}
use Rattle.compare.proofs.Levels.{level_at, kept_none, kept_some}
use Rattle.compare.proofs.keeping.keep.Goals as goal

pub returns-then-one-other : goal.returns-then-one-other
returns-then-one-other c =
    let r = c.args.stages.now in
    let e : level (first r) (second r) r.rounds ≡ false =
    level_at r _ _ c.initial_classes-one.ensures.one c.initial_classes-one.ensures.other ∙ ne_eqb _ _ c.if-one-other.true in
    let p = subst (λ (k : ℕ). Pruned r.parts.questions r.parts.nodes.list.items (get_or r.parts.node k 0) c.prune.new.out.list.items)
    c.initial_classes-one.ensures.one c.prune.ensures in
    kept_some r e _ (subst (λ (q : ℕ). Pruned q r.parts.nodes.list.items (get_or r.parts.node (class_of r.parts (first r).initial) 0) c.prune.new.out.list.items) r.asks p)

pub returns-else-one-other : goal.returns-else-one-other
returns-else-one-other c =
    let r = c.args.stages.now in
    let e : level (first r) (second r) r.rounds ≡ true =
    level_at r _ _ c.initial_classes-one.ensures.one c.initial_classes-one.ensures.other ∙ eq-eqb _ _ c.if-one-other.false in
    kept_none r e _ c.clear.ensures
