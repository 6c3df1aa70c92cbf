-- How a formula is spelt: its tokens one after the other.
use Rattle.std.specs.Prelude.{ℕ, List, [], ◌∷◌, ◌++◌, codes, decimal}
use Rattle.kripke.specs.Ctl.{Formula}
use Rattle.reader.specs.declared.token.Token.{Token}
use Rattle.reader.specs.declared.token.Token.TheVariants.{Truth, Question, Unary, Alone, Sign, Other, End}
use Rattle.reader.specs.declared.token.Unary.TheVariants.{Not, EX, AX, EF, AF, EG, AG}
use Rattle.reader.specs.declared.token.Sign.TheVariants.{And, Or, Open, Close, Left, Right, Until}
use Rattle.kripke.specs.declared.quantifier.Quantifier.TheVariants.{Exists, ForAll}
use Rattle.reader.specs.Grammar.{marks, toks}

-- An operator of two letters has a space behind it, and U one on either side.
abbrev pub spell : Token → List ℕ
spell Truth = codes "T"
spell (Question j) = codes "q" ++ decimal j
spell (Unary Not) = codes "!"
spell (Unary EX) = codes "EX "
spell (Unary AX) = codes "AX "
spell (Unary EF) = codes "EF "
spell (Unary AF) = codes "AF "
spell (Unary EG) = codes "EG "
spell (Unary AG) = codes "AG "
spell (Alone Exists) = codes "E"
spell (Alone ForAll) = codes "A"
spell (Sign And) = codes "&"
spell (Sign Or) = codes "|"
spell (Sign Open) = codes "("
spell (Sign Close) = codes ")"
spell (Sign Left) = codes "["
spell (Sign Right) = codes "]"
spell (Sign Until) = codes " U "
spell Other = []
spell End = []

abbrev pub spelt : List Token → List ℕ
spelt [] = []
spelt (t ∷ ts) = spell t ++ spelt ts

-- The text of a formula.
abbrev pub shown : Formula → List ℕ
shown f = spelt (toks (marks 1 f))
