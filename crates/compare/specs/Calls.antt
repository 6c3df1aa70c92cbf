-- The comparison as its calls see it: two structures, their questions, the accepted rounds; and what a call does.
use Rattle.std.specs.Prelude.{◌≡◌, ℕ, suc, ◌≤◌, List, length, take, drop}
use Rattle.kripke.specs.Structure.{Kripke}
use Rattle.kripke.specs.Rounds.{total}
use Rattle.kripke.specs.Classes.{Classes}
use Rattle.kripke.specs.declared.node.Node.{Node}
use Rattle.refine.specs.Refinements as stages
use Rattle.compare.specs.Answers.{Separating}
use Rattle.compare.specs.declared.comparison.Comparison.{Comparison}

abbrev pub first : Comparison → Kripke
first c = stages.first c.stages

abbrev pub second : Comparison → Kripke
second c = stages.second c.stages

abbrev pub questions : Comparison → ℕ
questions c = stages.questions c.stages

abbrev pub rounds : Comparison → ℕ
rounds c = c.stages.rounds

-- The table of the kept formula: a table reading lends it, and a formula reading copies it out.
abbrev pub table : Comparison → List Node
table c = c.formula.list.items

-- Two models with q questions, and no round yet.
pub record Opened (q : ℕ) (a b : Kripke) (c : Comparison) : Type 0 where
  pub first_is : first c ≡ a
  pub second_is : second c ≡ b
  pub questions_is : questions c ≡ q
  pub none : rounds c ≡ 0

-- The comparison is of the same structures.
pub record SameModels (c d : Comparison) : Type 0 where
  pub first_is : first d ≡ first c
  pub second_is : second d ≡ second c
  pub questions_is : questions d ≡ questions c

-- An accepted round: one more, never more than there are states; it leaves n classes.
pub record Rounded (c d : Comparison) (n : ℕ) : Type 0 where
  pub same : SameModels c d
  pub one_more : rounds d ≡ suc (rounds c)
  pub soon : suc (rounds c) ≤ total (first c) (second c)
  pub classes : Classes (first c) (second c) (suc (rounds c)) n

-- The nodes are the kept table, which separates the models; there are 2045 at most.
pub record Lent (c : Comparison) (nodes : List Node) : Type 0 where
  pub kept : nodes ≡ table c
  pub separating : Separating (first c) (second c) (questions c) (rounds c) nodes
  pub short : length nodes ≤ 2045

-- The first n places hold the table, which separates the models, and the rest is as it was.
pub record Written (c : Comparison) (before after : List Node) (n : ℕ) : Type 0 where
  pub separating : Separating (first c) (second c) (questions c) (rounds c) (table c)
  pub count : n ≡ length (table c)
  pub front : take n after ≡ table c
  pub rest : drop n after ≡ drop n before
