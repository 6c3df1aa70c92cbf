use Rattle.std.proofs.Common.{◌≡◌, ◌++◌, [], ◌∷◌, List, length, ap, ◌∙◌, rules}
use Rattle.kripke.specs.declared.node.Node.{Node}
use Rattle.refine.proofs.Grown.{begun}
use Rattle.refine.proofs.nodes.Nodes.begin.Goals as goal

pub returns : goal.returns
returns c =
    let ns : List Node = c.args.self.now.list.items in
    let ms : List Node = c.push.new.self.items in
    let l : length ns ≡ c.len-x.result = search rules in
    begun ns ms c.push-2.new.self.items c.args.test c.len-x.result l c.push.ensures.items
    (c.push-2.ensures.items ∙ ap (λ (n : Node). ms ++ n ∷ []) c.new.ensures)
