-- Labels that agree on each of their questions agree on every question.
use Rattle.std.proofs.Common.{◌≡◌, ℕ, ◌<◌, ◌≤◌, Bool, false, List, length, sym, ◌∙◌, ⊎_elim, arith, Option, Some, None, MatchOption}
use Rattle.std.proofs.lemmas.List.{get_or_past}
use Rattle.std.proofs.lemmas.Bool.{cases_lt}
use Rattle.kripke.specs.Telling.{Agree, Telling}

pub agree_all : (xs ys : List Bool) (n : ℕ) → length xs ≡ n → length ys ≡ n → ((i : ℕ) → i < n → Agree xs ys i) → (i : ℕ) → Agree xs ys i
agree_all xs ys n p q h i =
    ⊎_elim (h i) (λ past. get_or_past xs i false (omega arith) ∙ sym (get_or_past ys i false (omega arith))) (cases_lt i n)

-- the first of n questions on which two labels of n answers differ is their telling question
pub telling_found : (xs ys : List Bool) (n : ℕ) → length xs ≡ n → length ys ≡ n → (r : Option ℕ)
    → MatchOption r ((k : ℕ) → 0 ≤ k → k < n → Agree xs ys k) (λ i. (0 ≤ i) × (i < n) × (¬ Agree xs ys i) × ((k : ℕ) → 0 ≤ k → k < i → Agree xs ys k))
    → Telling xs ys r
telling_found xs ys n p q None h = agree_all xs ys n p q (λ i w. h i (omega arith) w)
telling_found xs ys n p q (Some i) h = (h.2, λ j w. h.3 j (omega arith) w)
