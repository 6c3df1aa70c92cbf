use Rattle.std.proofs.Common.{sym}
use Rattle.report.proofs.Putting.{then}
use Rattle.report.proofs.cursor.Cursor.put_field.Goals as goal

pub returns : goal.returns
returns g c = rw (sym c.format.ensures.text) (search then)
