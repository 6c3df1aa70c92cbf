use Rattle.std.proofs.Common.{sym}
use Rattle.image.specs.Image.{most_successors}
use Rattle.image.proofs.Runs.{longer}
use Rattle.image.proofs.chain.Linked.chain_is_long.Goals as goal

pub returns : goal.returns
returns c =
    let chain = c.chain.ensures in
    rw (c.is_some.ensures, sym chain.first, sym chain.linked)
    (longer c.chain.result c.nth.new.self most_successors c.nth.result c.nth.ensures.ran)
