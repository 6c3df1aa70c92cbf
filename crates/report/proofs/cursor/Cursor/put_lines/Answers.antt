use Rattle.std.proofs.Common.{suc, ◌+◌, get_or, take, drop, sym}
use mathlib.Core.Path.{subst⁻¹}
use Rattle.report.specs.Puts.{Countable}
use Rattle.report.specs.Text.{node_line, node_lines}
use Rattle.report.proofs.Putting.{then, first_countable, rest_countable, puts_same}
use Rattle.report.proofs.Lines.{lines_more, lines_split}
use Rattle.report.proofs.cursor.Cursor.put_lines.Goals as goal

pub put_line-requires : goal.put_line-requires
put_line-requires c =
    let ns = c.args.nodes.now in
    let i = c.loop-i.i in
    first_countable c.loop-i.self (node_line i (get_or ns i _)) (node_lines (suc i) (drop (i + 1) ns))
    (rest_countable (node_lines 0 (take i ns)) _
    (subst⁻¹ (λ t. Countable t c.args.self.now) (lines_split ns i _ c.loop-i-test.true) c.requires)
    c.loop-i.invariant)

pub loop-i-preserved : goal.loop-i-preserved
loop-i-preserved c = puts_same (sym (lines_more c.args.nodes.now c.loop-i.i _ c.loop-i-test.true)) (then _ _ c.loop-i.invariant c.put_line.ensures)
