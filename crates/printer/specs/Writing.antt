-- The writer's steps: what has been appended, and by which signs an operator is written.
use Rattle.std.specs.Prelude.{◌≡◌, ℕ, suc, ◌+◌, ◌<◌, ◌≤◌, List, [], ◌∷◌, ◌++◌, length, Ok, Err, Result}
use Rattle.kripke.specs.Ctl.{Formula}
use Rattle.kripke.specs.Nodes.{Operator, constant, asking, unary, binary}
use Rattle.reader.specs.declared.token.Token.{Token}
use Rattle.reader.specs.declared.token.Token.TheVariants as token
use Rattle.reader.specs.declared.token.Sign.{Sign}
use Rattle.reader.specs.declared.token.Unary.{Unary}
use Rattle.reader.specs.Grammar.{Mark, mark, marks, toks, Asked, All}
use Rattle.printer.specs.declared.signs.Signs.{Signs}
use Rattle.printer.specs.declared.signs.Signs.TheVariants.{Truth, Question, Before, Around}
use Rattle.printer.specs.declared.writer.Stop.{Stop}
use Rattle.printer.specs.declared.writer.Stop.TheVariants.{Limit, Memory}
use Rattle.printer.specs.Spelling.{spell, spelt}

-- A text has been appended, and no more than 4,096 bytes are there; or there would be more.
abbrev pub Appends : List ℕ → List ℕ → List ℕ → Result (Unit {0}) Stop → Type 0
Appends before text after (Ok _) = (after ≡ before ++ text) × (length after ≤ 4096)
Appends before text after (Err Limit) = 4096 < length before + length text
Appends before text after (Err (Memory e)) = Unit {0}

-- The marks are within the limits for q questions, and the bytes within 4,096.
abbrev pub Fits : ℕ → List ℕ → List Mark → Type 0
Fits q before ms = All q ms × (length before + length (spelt (toks ms)) ≤ 4096)

-- The marks have been spelt, or do not fit.
pub record Spelt (q : ℕ) (before : List ℕ) (ms : List Mark) (after : List ℕ) : Type 0 where
  pub is : after ≡ before ++ spelt (toks ms)
  pub fits : Fits q before ms

abbrev pub Spells : ℕ → List ℕ → List Mark → List ℕ → Result (Unit {0}) Stop → Type 0
Spells q before ms after (Ok _) = Spelt q before ms after
Spells q before ms after (Err Limit) = ¬ Fits q before ms
Spells q before ms after (Err (Memory e)) = Unit {0}

abbrev pub sign : Sign → Mark
sign s = mark (token.Sign s) 0

abbrev pub signs : List Sign → List Mark
signs [] = []
signs (s ∷ ss) = sign s ∷ signs ss

-- The sign of an operator of one argument.
pub record One (op : Formula → Formula) (before : List ℕ) : Type 0 where
  pub operator : Unary
  pub spells : before ≡ spell (token.Unary operator)
  pub is : (l : ℕ) (f : Formula) → marks l (op f) ≡ mark (token.Unary operator) l ∷ marks (suc l) f

-- The signs of an operator of two arguments: before, between and after them.
pub record Two (op : Formula → Formula → Formula) (before between after : List ℕ) : Type 0 where
  pub opening : Token
  pub free : (q : ℕ) → Asked q opening
  pub left : List Sign
  pub middle : Sign
  pub right : Sign
  pub begins : before ≡ spell opening ++ spelt (toks (signs left))
  pub links : between ≡ spell (token.Sign middle)
  pub ends : after ≡ spell (token.Sign right)
  pub is : (l : ℕ) (f g : Formula)
      → marks l (op f g) ≡ mark opening l ∷ (signs left ++ (marks (suc l) f ++ (sign middle ∷ (marks (suc l) g ++ (sign right ∷ [])))))

-- The signs of an operator.
abbrev pub Written : Operator → Signs → Type 0
Written constant Truth = Unit {0}
Written constant Question = ⊥
Written constant (Before x) = ⊥
Written constant (Around x y z) = ⊥
Written asking Truth = ⊥
Written asking Question = Unit {0}
Written asking (Before x) = ⊥
Written asking (Around x y z) = ⊥
Written (unary op) Truth = ⊥
Written (unary op) Question = ⊥
Written (unary op) (Before x) = One op x.now
Written (unary op) (Around x y z) = ⊥
Written (binary op) Truth = ⊥
Written (binary op) Question = ⊥
Written (binary op) (Before x) = ⊥
Written (binary op) (Around x y z) = Two op x.now y.now z.now
