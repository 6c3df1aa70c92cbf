use Rattle.std.proofs.Common.{T, length, sym, subst, arith}
use Rattle.kripke.specs.declared.node.Node.{Node}
use Rattle.refine.specs.Growth.{next_node}
use Rattle.refine.specs.Steps.{Divided}
use Rattle.refine.specs.Pairs.{both_of}
use Rattle.refine.proofs.Orders.{T_and, lt_T}
use Rattle.refine.proofs.Begins.{asking_none, asking_more}
use Rattle.refine.proofs.partition.Partition.ask_all.Goals as goal

pub loop-q-init : goal.loop-q-init
loop-q-init c = asking_none (both_of c.args.pair.now) c.args.self.now

pub split-requires : goal.split-requires
split-requires c = subst (λ (n : Node). T (next_node c.loop-q.self.questions (length c.loop-q.self.nodes.list.items) n)) (sym c.new.ensures)
    (T_and _ _ (lt_T c.loop-q.q c.loop-q.self.questions (omega (arith, c.loop-q-test.true, c.loop-q.invariant.keeps.questions))) tt)

pub loop-q-preserved : goal.loop-q-preserved
loop-q-preserved c =
    asking_more (both_of c.args.pair.now) c.args.self.now c.loop-q.self c.split.new.self c.loop-q.q c.answer_row-row.result c.loop-q.invariant
    (λ s h. c.answer_row-row.ensures s (omega (arith, h, c.requires.long)))
    (subst (λ (n : Node). Divided c.loop-q.self c.split.new.self n c.answer_row-row.result) c.new.ensures c.split.ensures)
