-- The grammar: how a formula is written.
use Rattle.std.specs.Prelude.{◌≡◌, ℕ, suc, ◌<◌, ◌≤◌, List, [], ◌∷◌, ◌++◌}
use Rattle.kripke.specs.Ctl.{Formula, truth, question, not, and, or, EX, AX, EF, AF, EG, AG, EU, AU}
use Rattle.reader.specs.declared.token.Token.{Token}
use Rattle.reader.specs.declared.token.Token.TheVariants.{Truth, Question, Unary, Alone, Sign, Other, End}
use Rattle.reader.specs.declared.token.Sign as sign
use Rattle.reader.specs.declared.token.Sign.TheVariants.{And, Or, Open, Close, Left, Right, Until}
use Rattle.reader.specs.declared.token.Unary.TheVariants as unary
use Rattle.kripke.specs.declared.quantifier.Quantifier.{Quantifier}
use Rattle.kripke.specs.declared.quantifier.Quantifier.TheVariants.{Exists, ForAll}
use Rattle.reader.specs.Tokens.{tokens, kinds}

-- A token of a formula, and the level of the subformula that begins with it; 0 where none does.
pub data Mark : Type 0 where
  mark : Token → ℕ → Mark

-- (f&g) or (f|g), and E[f U g] or A[f U g], at level l.
abbrev pub pair : ℕ → List Mark → sign.Sign → List Mark → List Mark
pair l f t g = mark (Sign Open) l ∷ (f ++ (mark (Sign t) 0 ∷ (g ++ (mark (Sign Close) 0 ∷ []))))

abbrev pub until : ℕ → Quantifier → List Mark → List Mark → List Mark
until l q f g = mark (Alone q) l ∷ mark (Sign Left) 0 ∷ (f ++ (mark (Sign Until) 0 ∷ (g ++ (mark (Sign Right) 0 ∷ []))))

-- How a formula at level l is written; its arguments are one level deeper.
abbrev pub marks : ℕ → Formula → List Mark
marks l truth = mark Truth l ∷ []
marks l (question j) = mark (Question j) l ∷ []
marks l (not f) = mark (Unary unary.Not) l ∷ marks (suc l) f
marks l (and f g) = pair l (marks (suc l) f) And (marks (suc l) g)
marks l (or f g) = pair l (marks (suc l) f) Or (marks (suc l) g)
marks l (EX f) = mark (Unary unary.EX) l ∷ marks (suc l) f
marks l (AX f) = mark (Unary unary.AX) l ∷ marks (suc l) f
marks l (EF f) = mark (Unary unary.EF) l ∷ marks (suc l) f
marks l (AF f) = mark (Unary unary.AF) l ∷ marks (suc l) f
marks l (EG f) = mark (Unary unary.EG) l ∷ marks (suc l) f
marks l (AG f) = mark (Unary unary.AG) l ∷ marks (suc l) f
marks l (EU f g) = until l Exists (marks (suc l) f) (marks (suc l) g)
marks l (AU f g) = until l ForAll (marks (suc l) f) (marks (suc l) g)

abbrev pub toks : List Mark → List Token
toks [] = []
toks (mark t l ∷ ms) = t ∷ toks ms

-- A formula as a whole text: level 1, and then the end.
abbrev pub whole : Formula → List Mark
whole f = marks 1 f ++ (mark End 0 ∷ [])

-- The text is written as the formula f.
abbrev pub Sentence : List ℕ → Formula → Type 0
Sentence text f = kinds (tokens 0 0 text) ≡ toks (whole f)

-- Some formula's text begins with these tokens, however deep it is and whatever it asks.
abbrev pub Viable : List Token → Type 0
Viable ts = (f : Formula) × (w : List Token) × (ts ++ w ≡ toks (whole f))

-- The limits: questions are below c, and no level is beyond 64.
abbrev pub Asked : ℕ → Token → Type 0
Asked c Truth = Unit {0}
Asked c (Question j) = j < c
Asked c (Unary u) = Unit {0}
Asked c (Alone q) = Unit {0}
Asked c (Sign t) = Unit {0}
Asked c Other = Unit {0}
Asked c End = Unit {0}

abbrev pub All : ℕ → List Mark → Type 0
All c [] = Unit {0}
All c (mark t l ∷ ms) = ((l ≤ 64) × Asked c t) × All c ms

abbrev pub Within : ℕ → Formula → Type 0
Within c f = All c (marks 1 f)
