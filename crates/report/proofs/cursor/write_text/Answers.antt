use Rattle.std.proofs.Common.{arith}
use Rattle.report.proofs.Lengths.{length-report}
use Rattle.report.proofs.cursor.write_text.Goals as goal

pub put_report-requires : goal.put_report-requires
put_report-requires c = omega (arith, length-report c.args.report c.requires)
