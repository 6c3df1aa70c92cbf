-- A question's number: its decimals are read back.
use Rattle.std.proofs.Common.{◌≡◌, ℕ, suc, ◌+◌, ◌-◌, ◌*◌, ◌/◌, ◌%◌, ◌<◌, ◌≤◌, true, false, eqb, leb, List, [], ◌∷◌, ◌++◌, Some, decimal, sym, ap, ◌∙◌, subst, ⊎_elim, arith, le-leb}
use mathlib.Core.Bool.{and-false}
use Rattle.std.proofs.lemmas.Fmt.{decimal_digit, decimal_step}
use Rattle.std.proofs.lemmas.Bool.{cases_lt}
use Rattle.reader.specs.declared.token.Token.{Token}
use Rattle.reader.specs.declared.token.Token.TheVariants.{Question}
use Rattle.reader.specs.Tokens.{digit, numeral, asking, tokens, kinds}

-- A text with which no token that stands before it goes on: it begins with no digit, and none of X, F, G.
abbrev pub Clear : List ℕ → Type 0
Clear [] = Unit {0}
Clear (b ∷ bs) = (digit b ≡ false) × (eqb b 88 ≡ false) × (eqb b 70 ≡ false) × (eqb b 71 ≡ false)

a_digit : (d : ℕ) → 48 ≤ d → d ≤ 57 → digit d ≡ true
a_digit d l h = rw (le-leb 48 d l, le-leb d 57 h)

-- One digit, and two.
one_digit : (d : ℕ) (r : List ℕ) → digit d ≡ true → Clear r → numeral (d ∷ r) ≡ Some (d - 48, 1)
one_digit d [] h g = rw h
one_digit d (e ∷ r) h g = rw (h, g.0, and-false (leb 49 d))

two_digits : (d e : ℕ) (r : List ℕ) → digit d ≡ true → leb 49 d ≡ true → digit e ≡ true → numeral (d ∷ e ∷ r) ≡ Some ((d - 48) * 10 + (e - 48), 2)
two_digits d e r h k g = rw (h, k, g)

-- From offset o on, the text is the token t, and then r.
abbrev pub Begins : ℕ → List ℕ → Token → List ℕ → Type 0
Begins o bs t r = (o' : ℕ) × (kinds (tokens 0 o bs) ≡ t ∷ kinds (tokens 0 o' r))

one_begins : (d : ℕ) (r : List ℕ) (o : ℕ) → digit d ≡ true → Clear r → Begins o (113 ∷ d ∷ r) (Question (d - 48)) r
unfolding tokens
one_begins d r o h g = (suc (suc o), ap (λ z. (asking z).0 ∷ kinds (tokens ((asking z).1 - 1) (suc o) (d ∷ r))) (one_digit d r h g))

two_begins : (d e : ℕ) (r : List ℕ) (o : ℕ) → digit d ≡ true → leb 49 d ≡ true → digit e ≡ true → Begins o (113 ∷ d ∷ e ∷ r) (Question ((d - 48) * 10 + (e - 48))) r
unfolding tokens
two_begins d e r o h k g = (suc (suc (suc o)), ap (λ z. (asking z).0 ∷ kinds (tokens ((asking z).1 - 1) (suc o) (d ∷ e ∷ r))) (two_digits d e r h k g))

two_decimals : (j : ℕ) → 10 ≤ j → j < 100 → decimal j ≡ (48 + j / 10) ∷ (48 + j % 10) ∷ []
two_decimals j l h = decimal_step j l (omega arith) ∙ ap (λ ds. ds ++ ((48 + j % 10) ∷ [])) (decimal_digit (j / 10) (omega arith))

pub question_begins : (j : ℕ) → j < 100 → (o : ℕ) (r : List ℕ) → Clear r → Begins o (113 ∷ (decimal j ++ r)) (Question j) r
question_begins j h o r g = ⊎_elim
    (λ l.
    let e : 48 + j - 48 ≡ j = omega arith in
    subst (λ (ds : List ℕ). Begins o (113 ∷ (ds ++ r)) (Question j) r) (sym (decimal_digit j l))
    (subst (λ (n : ℕ). Begins o (113 ∷ (48 + j) ∷ r) (Question n) r) e (one_begins (48 + j) r o (a_digit (48 + j) (omega arith) (omega arith)) g)))
    (λ l.
    let e : (48 + j / 10 - 48) * 10 + (48 + j % 10 - 48) ≡ j = omega arith in
    subst (λ (ds : List ℕ). Begins o (113 ∷ (ds ++ r)) (Question j) r) (sym (two_decimals j l h))
    (subst (λ (n : ℕ). Begins o (113 ∷ (48 + j / 10) ∷ (48 + j % 10) ∷ r) (Question n) r) e
    (two_begins (48 + j / 10) (48 + j % 10) r o (a_digit (48 + j / 10) (omega arith) (omega arith)) (le-leb 49 (48 + j / 10) (omega arith))
    (a_digit (48 + j % 10) (omega arith) (omega arith)))))
    (cases_lt j 10)
