use Rattle.std.proofs.Common.{◌≡◌, ℕ, suc, ◌-◌, ◌<◌, Bool, true, false, List, length, get_or, replicate, refl, ap, ◌∙◌, arith, length-set}
use lib.ListN.{length-replicate}
use Rattle.kripke.specs.Nodes.{blank_node}
use Rattle.kripke.specs.declared.node.Node.{Node}
use Rattle.compare.specs.Pruned.{named}
use Rattle.compare.specs.Reach.{uses_a, uses_b}
use Rattle.compare.proofs.Renames.{earlier_a, earlier_b, nodes_fit}
use Rattle.compare.proofs.Marks.{marking_start, marking_more, marks, named_low}
use Rattle.compare.proofs.prune.reach.Goals as goal

pub loop-i-init : goal.loop-i-init
loop-i-init c =
    let z : List Bool = replicate 2048 false in (
      length-set z c.args.root true ∙ length-replicate 2048 false,
      omega arith,
      marking_start c.args.parts.now.nodes.list.items c.args.root 2048 (omega (arith, nodes_fit c.args.parts.now)),
    )

pub mark-requires : goal.mark-requires
mark-requires c =
    let p = c.args.parts.now in
    let i : ℕ = c.loop-i.i - 1 in
    let n : Node = get_or c.deref.result.now i blank_node in
    let l : i < length p.nodes.list.items = omega (arith, c.loop-i.invariant.1) in
    let r : n ≡ get_or p.nodes.list.items i blank_node = ap (λ (xs : List Node). get_or xs i blank_node) c.deref.ensures.0 in
    named_low (uses_a n) n.a _ c.operands-a.ensures.first (λ e. omega (arith, l, nodes_fit p, earlier_a p i n l r e))

pub mark-requires-then-reached-i : goal.mark-requires-then-reached-i
mark-requires-then-reached-i c =
    let p = c.args.parts.now in
    let i : ℕ = c.loop-i.i - 1 in
    let n : Node = get_or c.deref.result.now i blank_node in
    let l : i < length p.nodes.list.items = omega (arith, c.loop-i.invariant.1) in
    let r : n ≡ get_or p.nodes.list.items i blank_node = ap (λ (xs : List Node). get_or xs i blank_node) c.deref.ensures.0 in
    named_low (uses_b n) n.b _ c.operands-a.ensures.second (λ e. omega (arith, l, nodes_fit p, earlier_b p i n l r e))

pub loop-i-preserved-then-reached-i : goal.loop-i-preserved-then-reached-i
loop-i-preserved-then-reached-i c =
    let p = c.args.parts.now in
    let ns : List Node = p.nodes.list.items in
    let i : ℕ = c.loop-i.i - 1 in
    let n : Node = get_or ns i blank_node in
    let s : c.loop-i.i ≡ suc (c.loop-i.i - 1) = omega arith in
    let l : i < length ns = omega (arith, c.loop-i.invariant.1) in
    let r : get_or c.deref.result.now i blank_node ≡ n = ap (λ (xs : List Node). get_or xs i blank_node) c.deref.ensures.0 in (
      c.mark-then-reached-i.array_long,
      omega (arith, c.loop-i.invariant.1),
      marking_more p.questions ns c.args.root i c.loop-i.i c.loop-i.reached c.mark.new.reached c.mark-then-reached-i.new.reached s p.orderly l c.if-reached-i.true
          (marks (uses_a n) n.a _ c.loop-i.reached c.mark.new.reached (c.operands-a.ensures.first ∙ ap (λ (m : Node). named (uses_a m) m.a) r)
          (λ e. omega (arith, earlier_a p i n l refl e, l, nodes_fit p, c.loop-i.invariant.0)) c.mark.ensures)
          (marks (uses_b n) n.b _ c.mark.new.reached c.mark-then-reached-i.new.reached (c.operands-a.ensures.second ∙ ap (λ (m : Node). named (uses_b m) m.b) r)
          (λ e. omega (arith, earlier_b p i n l refl e, l, nodes_fit p, c.mark.array_long)) c.mark-then-reached-i.ensures)
          c.loop-i.invariant.2,
    )
