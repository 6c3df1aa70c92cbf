-- Which rules a call on a comparison of a and b after k rounds breaks.
use Rattle.std.specs.Prelude.{ℕ, ◌+◌, ◌*◌, ◌<◌, ◌≤◌}
use Rattle.kripke.specs.Structure.{Kripke}
use Rattle.kripke.specs.Rounds.{total, ClosedDifferent, ClosedAfter}
use Rattle.kripke.specs.declared.refusal.Cause.{Cause}
use Rattle.kripke.specs.declared.refusal.Cause.TheVariants.{ClosedComparison, StateNumber, OpenComparison, NotDifferent, FewPlaces}

-- A round of a closed comparison.
pub data RoundBreach (a b : Kripke) (k : ℕ) : Cause → ℕ → Type 0 where
  closed : ClosedAfter a b k → RoundBreach a b k ClosedComparison k

-- The class of a number that is no state's.
pub data ClassBreach (a b : Kripke) (i : ℕ) : Cause → ℕ → Type 0 where
  beyond : total a b ≤ i → ClassBreach a b i StateNumber i

-- The verdict of a comparison that is still open.
pub data VerdictBreach (a b : Kripke) (k : ℕ) : Cause → ℕ → Type 0 where
  unclosed : ¬ ClosedAfter a b k → VerdictBreach a b k OpenComparison k

-- The table of a comparison that is not closed as different.
pub data TableBreach (a b : Kripke) (k : ℕ) : Cause → ℕ → Type 0 where
  undivided : ¬ ClosedDifferent a b k → TableBreach a b k NotDifferent k

-- The formula of a comparison that is not closed as different; fewer than 4 N - 3 places for it.
pub data FormulaBreach (a b : Kripke) (k places : ℕ) : Cause → ℕ → Type 0 where
  no_difference : ¬ ClosedDifferent a b k → FormulaBreach a b k places NotDifferent k
  few : places + 3 < 4 * total a b → FormulaBreach a b k places FewPlaces places
