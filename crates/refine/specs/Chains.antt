-- Steps that name an earlier step each, and the states that a row of them leaves.
use Rattle.std.specs.Prelude.{ℕ, zero, suc, ◌≤◌, Bool, List, [], ◌∷◌, nat_eq, slice_index_or}
use Rattle.kripke.specs.Tests.{some}
use Rattle.refine.specs.declared.sources.Step.{Step}

-- Whether x stands in the list.
abbrev pub has : ℕ → List ℕ → Bool
has x l = some (λ y. nat_eq y x) l

-- Step j: the state that it leaves, and the place of the step before it to the same state.
abbrev pub no_step : Step
no_step = record { from = 0; earlier = 0 }

abbrev pub From : List Step → ℕ → ℕ
From es j = (slice_index_or es j no_step).from

abbrev pub Earlier : List Step → ℕ → ℕ
Earlier es j = (slice_index_or es j no_step).earlier

-- A step before is an earlier one.
abbrev pub Down : List Step → Type 0
Down es = (j : ℕ) → Earlier es j ≤ j

-- The states that the steps leave, from the one at place k back; n is no less than k.
abbrev pub chain : List Step → ℕ → ℕ → List ℕ
chain es zero k = []
chain es (suc n) zero = []
chain es (suc n) (suc k) = From es k ∷ chain es n (Earlier es k)
