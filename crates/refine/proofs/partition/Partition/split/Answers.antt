use Rattle.std.proofs.Common.{sym, ◌∙◌, arith}
use Rattle.refine.specs.Steps.{own}
use Rattle.refine.specs.declared.partition.Partition.{Partition}
use Rattle.refine.proofs.Scan.{odd_here, splitting_none, splitting_skip, splitting_step}
use Rattle.refine.proofs.partition.Partition.split.Goals as goal
use Rattle.refine.proofs.partition.Partition.split.Goals.{then-not-agrees, else-not-agrees}

pub loop-s-init : goal.loop-s-init
loop-s-init c = splitting_none c.args.self.now c.args.test c.args.row.now c.requires

pub agrees-requires : goal.agrees-requires
agrees-requires c = omega (arith, c.loop-s-test.true, c.loop-s.invariant.scanned.keeps.states)

pub loop-s-preserved : goal.loop-s-preserved
loop-s-preserved c =
    let p : Partition = c.args.self.now in
    let q : Partition = c.loop-s.self in
    let h = c.loop-s.invariant in
    elim c.if-not-agrees.branch [
      | then-not-agrees w ↦
          (let o = odd_here p q (own p c.args.test) c.args.row.now c.loop-s.s c.agrees.result h.scanned c.loop-s-test.true c.agrees.ensures w.if-not-agrees.true in
          rw (w.self-is, w.name-is)
          (splitting_step p q w.part.new.self c.args.test c.args.row.now c.loop-s.name w.part.result c.loop-s.s h o w.part.ensures.parted w.part.ensures.named))
      | else-not-agrees w ↦
          rw (w.self-is, w.name-is)
          (splitting_skip p q c.args.test c.args.row.now c.loop-s.name c.loop-s.s h (sym c.agrees.ensures ∙ w.if-not-agrees.false))
    ]
