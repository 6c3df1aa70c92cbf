use Rattle.report.proofs.Putting.{then}
use Rattle.report.proofs.cursor.Cursor.put_line.Goals as goal

pub returns : goal.returns
returns c = search then
