use Rattle.std.proofs.Common.{◌≡◌, ◌++◌, [], ◌∷◌, List, length, get_or, sym, ap, ◌∙◌, rules}
use Rattle.kripke.specs.Nodes.{blank_node}
use Rattle.kripke.specs.declared.node.Node.{Node}
use Rattle.refine.proofs.Grown.{conjoined_true, conjoined_new}
use Rattle.refine.proofs.nodes.Nodes.conjoin.Goals as goal

pub returns-then-deref-a : goal.returns-then-deref-a
returns-then-deref-a c =
    let ns : List Node = c.args.self.now.list.items in
    conjoined_true ns c.args.a c.args.b c.requires.first c.requires.second
    (ap (λ (l : List Node). (get_or l c.args.a blank_node).code) (sym c.deref.ensures.0) ∙ c.if-deref-a.true ∙ c.from.ensures)

pub returns : goal.returns
returns c =
    let ns : List Node = c.args.self.now.list.items in
    let l : length ns ≡ c.len-r.result = search rules in
    conjoined_new ns c.push.new.self.items c.args.a c.args.b c.len-r.result c.requires.first c.requires.second l
    (c.push.ensures.items ∙ ap (λ (n : Node). ns ++ n ∷ []) c.new.ensures)
