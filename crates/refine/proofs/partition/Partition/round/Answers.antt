use Rattle.std.proofs.Common.{◌≡◌, ℕ, ◌+◌, ◌<◌, get_or, sym, refl, subst, arith}
use Rattle.kripke.specs.Structure.{Kripke}
use Rattle.refine.specs.Pairs.{first_of, second_of, both_of}
use Rattle.refine.specs.Tests.{hits}
use Rattle.refine.specs.Steps.{at}
use Rattle.refine.specs.declared.partition.Partition.{Partition}
use Rattle.refine.proofs.Rowed.{table_lawful}
use Rattle.refine.proofs.Rounding.{Refining, refining_none, refining_skip, refining_step, stale, inside_both, rounded}
use Rattle.refine.proofs.partition.Partition.round.Goals as goal
use Rattle.refine.proofs.partition.Partition.round.Goals.{then-class-c+then-new-c, else-class-c, else-class-c-via-then-class-c+else-new-c, else-class-c-via-else-class-c}

pub loop-c-init : goal.loop-c-init
loop-c-init c = refining_none (both_of c.args.pair.now) c.args.self.now

pub loop-c-preserved : goal.loop-c-preserved
loop-c-preserved c =
    let u : Kripke = both_of c.args.pair.now in
    let p : Partition = c.args.self.now in
    let q : Partition = c.loop-c.self in
    let i : ℕ = c.loop-c.c in
    let inside = inside_both (first_of c.args.pair.now) (second_of c.args.pair.now) (table_lawful c.args.pair.now.first).closed (table_lawful c.args.pair.now.second).closed p c.requires.long in
    elim c.if-class-c.branch [
      | then-class-c+then-new-c w ↦
          (let hv = w.split_by.ensures in
          let rows : (s : ℕ) → s < p.states → at hv.row s ≡ hits u p.class i s = λ s h. hv.hit s (omega (arith, h, c.requires.long)) in
          subst (λ (r : Partition). Refining u p r (i + 1)) (sym w.self-is)
          (refining_step u p q i c.loop-c.invariant i (get_or p.node i 0) c.loop-c-test.true w.if-class-c.true refl
          inside refl w.split_by.new.self hv.row rows hv.divided))
      | else-class-c w ↦
          subst (λ (r : Partition). Refining u p r (i + 1)) (sym w.self-is) (refining_skip u p q i c.loop-c.invariant (λ lead. elim w.else-class-c.branch [
            | else-class-c-via-then-class-c+else-new-c w' ↦
                stale u p.states c.args.former.now p.class i inside c.requires.tried (c.changed-new.ensures i w'.if-new-c.false)
            | else-class-c-via-else-class-c w' ↦ absurd (w'.if-class-c.false lead)
          ]))
    ]

pub returns-clause-rounded : goal.returns-clause-rounded
returns-clause-rounded c =
    let r = c.args.pair.now in
    let p : Partition = c.args.self.now in
    let all : c.loop-c.c ≡ p.states = omega arith in
    rounded (first_of r) (second_of r) (table_lawful r.first).closed (table_lawful r.second).closed p c.loop-c.self c.requires.long
    (subst (λ (i : ℕ). Refining (both_of r) p c.loop-c.self i) all c.loop-c.invariant)
