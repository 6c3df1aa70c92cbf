-- Each call has one level less.
use Rattle.printer.proofs.writer.Writer.+put_formula.Given as goal

abbrev pub decreases-put_formula : goal.decreases-put_formula
decreases-put_formula l = l.levels
