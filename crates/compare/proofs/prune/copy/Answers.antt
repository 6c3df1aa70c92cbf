use Rattle.std.proofs.Common.{◌≡◌, ℕ, ◌+◌, ◌<◌, List, length, get_or, sym, ap, ◌∙◌, subst, arith, length-set, rules}
use Rattle.kripke.specs.Nodes.{blank_node}
use Rattle.kripke.specs.declared.node.Node.{Node}
use Rattle.compare.specs.Pruned.{rename}
use Rattle.compare.proofs.Renames.{nodes_fit}
use Rattle.compare.proofs.Copies.{Copied, copied_skip, copied_push, pruned}
use Rattle.compare.proofs.prune.copy.Goals as goal
use Rattle.compare.proofs.prune.copy.Goals.{then-reached-i, else-reached-i}

pub loop-i-preserved : goal.loop-i-preserved
loop-i-preserved c =
    let p = c.args.parts.now in
    let ns : List Node = p.nodes.list.items in
    let ks = c.args.reached.now in
    let i : ℕ = c.loop-i.i in
    elim c.if-reached-i.branch [
      | then-reached-i w ↦
          (let m : w.len-m.result ≡ length c.loop-i.out.list.items = search rules in
          let l : i < length ns = omega arith in
          let r : w.renamed.result ≡ rename c.loop-i.to (get_or ns i blank_node) =
          w.renamed.ensures ∙ ap (λ (n : Node). rename c.loop-i.to n) (ap (λ (xs : List Node). get_or xs i blank_node) w.deref.ensures.0) in
          let ms : c.if-reached-i.out.list.items ≡ w.push.new.self.items = ap (λ o. o.list.items) w.out-is in (
            ap length w.to-is ∙ length-set c.loop-i.to i w.len-m.result ∙ c.loop-i.invariant.0,
            subst (λ (z : List ℕ). Copied p.questions ns ks (i + 1) z c.if-reached-i.out.list.items) (sym w.to-is)
                (copied_push p.questions ns ks i c.loop-i.to w.len-m.result c.loop-i.out.list.items c.if-reached-i.out.list.items w.renamed.result
                p.orderly l (omega (arith, l, nodes_fit p, c.loop-i.invariant.0)) (c.requires.marked.closed i (omega arith) w.if-reached-i.true) w.if-reached-i.true r m
                (ms ∙ w.push.ensures.items) c.loop-i.invariant.1),
          ))
      | else-reached-i w ↦ (
        ap length w.to-is ∙ c.loop-i.invariant.0,
        subst (λ (z : List ℕ). Copied p.questions ns ks (i + 1) z c.if-reached-i.out.list.items) (sym w.to-is)
            (subst (λ (z : List Node). Copied p.questions ns ks (i + 1) c.loop-i.to z) (sym (ap (λ o. o.list.items) w.out-is))
            (copied_skip p.questions ns ks i c.loop-i.to c.loop-i.out.list.items w.if-reached-i.false c.loop-i.invariant.1)),
      )
    ]

pub returns : goal.returns
returns c =
    let p = c.args.parts.now in
    let e : c.loop-i.i ≡ c.args.root + 1 = omega arith in
    pruned p.questions p.nodes.list.items c.args.root c.args.reached.now c.loop-i.to c.loop-i.out.list.items p.orderly c.requires.inside c.requires.marked
    (subst (λ (z : ℕ). Copied p.questions p.nodes.list.items c.args.reached.now z c.loop-i.to c.loop-i.out.list.items) e c.loop-i.invariant.1)
