-- The line of a refusal, where its numbers have at most two digits.
use Rattle.std.proofs.Common.{◌≡◌, ℕ, ◌+◌, ◌/◌, ◌%◌, ◌<◌, ◌&&◌, T, ltb, [], ◌∷◌, ◌++◌, decimal, refl, ap, ◌∙◌, ⊎_elim, arith}
use Rattle.std.proofs.lemmas.Bool.{cases_lt, le-ltb, lt-ltb}
use Rattle.std.proofs.lemmas.Fmt.{decimal_digit, decimal_step}
use Rattle.std.proofs.Math.Facts.{ltb_yes}
use Rattle.kripke.specs.Refusals.{number_of, layer_of, told_as}
use Rattle.kripke.specs.declared.refusal.Refusal.{Refusal}
use Rattle.kripke.proofs.Reflect.{and_T}
use Rattle.examples.proofs.Tests.{numeral, line_of, two_digits}

numeral_right : (n : ℕ) → n < 100 → decimal n ≡ numeral n
numeral_right n h = ⊎_elim
    (λ l. rw (lt-ltb n 10 l) (decimal_digit n l))
    (λ l. rw (le-ltb n 10 l) (decimal_step n l (omega arith) ∙ ap (λ ds. ds ++ ((48 + n % 10) ∷ [])) (decimal_digit (n / 10) (omega arith))))
    (cases_lt n 10)

pub line_right : (e : Refusal) → T (two_digits e) → told_as e ≡ line_of e
line_right e t =
    let (x, u) = (and_T (ltb (number_of e.cause) 100) (ltb (layer_of e.layer) 100 && ltb e.place 100)).0 t in
    let (y, z) = (and_T (ltb (layer_of e.layer) 100) (ltb e.place 100)).0 u in
    rw (numeral_right (number_of e.cause) (ltb_yes x), numeral_right (layer_of e.layer) (ltb_yes y), numeral_right e.place (ltb_yes z)) refl
