use Rattle.std.proofs.Common.{◌≡◌, length}
use Rattle.reader.specs.Tokens.{unspaced}
use Rattle.reader.proofs.cursor.after_spaces.Given as goal

abbrev pub invariant-loop-text : goal.invariant-loop-text
invariant-loop-text l = unspaced l.text ≡ unspaced l.initial.text

abbrev pub decreases-loop-text : goal.decreases-loop-text
decreases-loop-text l = length l.text
