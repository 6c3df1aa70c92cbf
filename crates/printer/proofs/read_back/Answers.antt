use Rattle.printer.proofs.Reading.{read_back}
use Rattle.printer.proofs.read_back.Goals as goal

pub returns : goal.returns
returns c = read_back
