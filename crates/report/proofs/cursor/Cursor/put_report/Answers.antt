use Rattle.report.proofs.Putting.{then}
use Rattle.report.proofs.cursor.Cursor.put_report.Goals as goal

pub returns-in-Alike : goal.returns-in-Alike
returns-in-Alike c = rw c.in-Alike.is (search then)

pub returns-in-Different : goal.returns-in-Different
returns-in-Different c = rw c.in-Different.is (search then)
