-- What a refinement is opened with, and what a round makes of it.
use Rattle.std.specs.Prelude.{◌≡◌, ℕ, suc, true, false}
use Rattle.kripke.specs.Structure.{Kripke}
use Rattle.kripke.specs.Classes.{Classes}
use Rattle.refine.specs.Pairs.{first_of, second_of}
use Rattle.refine.specs.declared.refinement.Refinement.{Refinement}

-- The two structures, and the number of questions.
abbrev pub first : Refinement → Kripke
first r = first_of r.pair

abbrev pub second : Refinement → Kripke
second r = second_of r.pair

abbrev pub questions : Refinement → ℕ
questions r = r.pair.first.questions

-- No round yet, of structures a and b with q questions.
pub record Opened (q : ℕ) (a b : Kripke) (r : Refinement) : Type 0 where
  pub first_is : first r ≡ a
  pub second_is : second r ≡ b
  pub questions_is : questions r ≡ q
  pub rounds : r.rounds ≡ 0

-- One round more, unless the last one split nothing; c classes are left.
pub record Advanced (r s : Refinement) (c : ℕ) : Type 0 where
  pub stays : r.rests ≡ true → s ≡ r
  pub goes_on : r.rests ≡ false → (s.pair ≡ r.pair) × (s.rounds ≡ suc r.rounds)
  pub classes : Classes (first s) (second s) s.rounds c
