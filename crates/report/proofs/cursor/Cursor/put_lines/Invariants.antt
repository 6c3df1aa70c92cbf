use Rattle.std.proofs.Common.{take}
use Rattle.report.specs.Puts.{Puts}
use Rattle.report.specs.Text.{node_lines}
use Rattle.report.proofs.cursor.Cursor.put_lines.Given as goal

abbrev pub invariant-loop-i : goal.invariant-loop-i
invariant-loop-i l = Puts (node_lines 0 (take l.i l.nodes)) l.initial.self l.self
