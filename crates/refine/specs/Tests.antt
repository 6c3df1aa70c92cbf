-- Tests: a next-only formula at a state, and a successor in a class, answered by yes or no.
use Rattle.std.specs.Prelude.{ℕ, Bool, true, false, not, ◌&&◌, List, nat_eq, slice_index}
use Rattle.kripke.specs.Structure.{Kripke, answer, successors}
use Rattle.kripke.specs.Tests.{some}
use Rattle.kripke.specs.Ctl.{Formula, truth, question, and, or, EX, AX, EF, AF, EG, AG, EU, AU}

-- The formula holds at state s. Only next-only formulas are tested: the others fail.
abbrev pub test : Kripke → Formula → ℕ → Bool
test k truth s = true
test k (question i) s = answer k s i
test k (Formula.not f) s = not (test k f s)
test k (and f g) s = test k f s && test k g s
test k (or f g) s = false
test k (EX f) s = some (test k f) (successors k s)
test k (AX f) s = false
test k (EF f) s = false
test k (AF f) s = false
test k (EG f) s = false
test k (AG f) s = false
test k (EU f g) s = false
test k (AU f g) s = false

-- State s has a successor in class c, where the list has the classes of the states.
abbrev pub hits : Kripke → List ℕ → ℕ → ℕ → Bool
hits k class c s = some (λ v. nat_eq (slice_index class v) c) (successors k s)
