-- What is printed of a table, and when nothing is.
use Rattle.std.specs.Prelude.{◌≡◌, ℕ, ◌<◌, ◌≤◌, List, length, Some, None, Ok, Err, Option, Result}
use Rattle.std.specs.declared.alloc.AllocError.{AllocError}
use Rattle.kripke.specs.Nodes.{root, WellFormed}
use Rattle.kripke.specs.declared.node.Node.{Node}
use Rattle.reader.specs.Grammar.{Sentence, Within}
use Rattle.printer.specs.Spelling.{shown}

-- The table has a root, and is in order for q questions, 1 to 32.
pub record InOrder (q : ℕ) (ns : List Node) : Type 0 where
  pub some : 1 ≤ q
  pub few : q ≤ 32
  pub rooted : 0 < length ns
  pub ordered : WellFormed q ns

-- It stands for a formula whose text keeps the reader's limits: 64 levels and 4,096 bytes.
pub record Printable (q : ℕ) (ns : List Node) : Type 0 where
  pub table : InOrder q ns
  pub within : Within q (root ns)
  pub short : length (shown (root ns)) ≤ 4096

-- The text of a printable table: it is read as the root's formula.
pub record TextOf (q : ℕ) (ns : List Node) (text : List ℕ) : Type 0 where
  pub printable : Printable q ns
  pub is : text ≡ shown (root ns)
  pub sentence : Sentence text (root ns)

-- None is given exactly where the table is not printable, and want of memory is met only by a table in order.
abbrev pub Printed : {S : Type 0} → (S → List ℕ) → ℕ → List Node → Result (Option S) AllocError → Type 0
Printed bytes q ns (Ok (Some s)) = TextOf q ns (bytes s)
Printed bytes q ns (Ok None) = ¬ Printable q ns
Printed bytes q ns (Err e) = InOrder q ns
