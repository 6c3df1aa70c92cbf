-- The signs of each operator.
use Rattle.std.proofs.Common.{◌≡◌, ℕ, [], ◌∷◌, get_or, sym, refl, subst}
use Rattle.kripke.specs.Ctl.{not, and, or, EX, AX, EF, AF, EG, AG, EU, AU}
use Rattle.kripke.specs.Nodes.{operators, constant}
use Rattle.reader.specs.declared.token.Token.TheVariants as token
use Rattle.reader.specs.declared.token.Unary.TheVariants as unary
use Rattle.reader.specs.declared.token.Sign.TheVariants.{And, Or, Open, Close, Left, Right, Until}
use Rattle.kripke.specs.declared.quantifier.Quantifier.TheVariants.{Exists, ForAll}
use Rattle.printer.specs.declared.signs.Signs.{Signs}
use Rattle.printer.specs.Writing.{One, Two, Written}

-- The signs of the operator with the code n.
pub at_code : (n code : ℕ) (s : Signs) → code ≡ n → Written (get_or operators n constant) s → Written (get_or operators code constant) s
at_code n code s e h = subst (λ (m : ℕ). Written (get_or operators m constant) s) (sym e) h

pub one_not : One not (33 ∷ [])
one_not = record { operator = unary.Not; spells = refl; is = λ l f. refl }

pub one_ex : One EX (69 ∷ 88 ∷ 32 ∷ [])
one_ex = record { operator = unary.EX; spells = refl; is = λ l f. refl }

pub one_ax : One AX (65 ∷ 88 ∷ 32 ∷ [])
one_ax = record { operator = unary.AX; spells = refl; is = λ l f. refl }

pub one_ef : One EF (69 ∷ 70 ∷ 32 ∷ [])
one_ef = record { operator = unary.EF; spells = refl; is = λ l f. refl }

pub one_af : One AF (65 ∷ 70 ∷ 32 ∷ [])
one_af = record { operator = unary.AF; spells = refl; is = λ l f. refl }

pub one_eg : One EG (69 ∷ 71 ∷ 32 ∷ [])
one_eg = record { operator = unary.EG; spells = refl; is = λ l f. refl }

pub one_ag : One AG (65 ∷ 71 ∷ 32 ∷ [])
one_ag = record { operator = unary.AG; spells = refl; is = λ l f. refl }

pub two_and : Two and (40 ∷ []) (38 ∷ []) (41 ∷ [])
two_and = record {
  opening = token.Sign Open;
  free = λ q. tt;
  left = [];
  middle = And;
  right = Close;
  begins = refl;
  links = refl;
  ends = refl;
  is = λ l f g. refl;
}

pub two_or : Two or (40 ∷ []) (124 ∷ []) (41 ∷ [])
two_or = record {
  opening = token.Sign Open;
  free = λ q. tt;
  left = [];
  middle = Or;
  right = Close;
  begins = refl;
  links = refl;
  ends = refl;
  is = λ l f g. refl;
}

pub two_eu : Two EU (69 ∷ 91 ∷ []) (32 ∷ 85 ∷ 32 ∷ []) (93 ∷ [])
two_eu = record {
  opening = token.Alone Exists;
  free = λ q. tt;
  left = Left ∷ [];
  middle = Until;
  right = Right;
  begins = refl;
  links = refl;
  ends = refl;
  is = λ l f g. refl;
}

pub two_au : Two AU (65 ∷ 91 ∷ []) (32 ∷ 85 ∷ 32 ∷ []) (93 ∷ [])
two_au = record {
  opening = token.Alone ForAll;
  free = λ q. tt;
  left = Left ∷ [];
  middle = Until;
  right = Right;
  begins = refl;
  links = refl;
  ends = refl;
  is = λ l f g. refl;
}

pub ruleset signs = (one_not, two_and, two_or, one_ex, one_ax, one_ef, one_af, one_eg, one_ag, two_eu, two_au)
