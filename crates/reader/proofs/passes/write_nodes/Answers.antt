use Rattle.reader.proofs.Judgements.{read_so}
use Rattle.reader.proofs.passes.write_nodes.Goals as goal

pub returns : goal.returns
returns c =
    let z = read_so c.args.text.now c.args.questions c.args.places.now c.read_whole.new.places c.requires.0 c.read_whole.result c.requires.1 c.read_whole.ensures in
    record { judged = z.0; complete = z.1 }
