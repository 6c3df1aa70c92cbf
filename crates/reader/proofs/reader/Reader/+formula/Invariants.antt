use Rattle.reader.proofs.reader.Reader.+formula.Given as goal

abbrev pub decreases-formula : goal.decreases-formula
decreases-formula l = l.levels
