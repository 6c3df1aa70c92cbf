-- What the opening and a round do to a partition, where u is both structures as one.
use Rattle.std.specs.Prelude.{◌≡◌, ℕ, suc, ◌<◌, Bool, false, ◌↔◌, List, slice_index_or}
use Rattle.kripke.specs.Structure.{Kripke, answer}
use Rattle.kripke.specs.Ctl.{Formula}
use Rattle.kripke.specs.Classes.{Alike, Refined}
use Rattle.refine.specs.Growth.{Boolean}
use Rattle.refine.specs.Tests.{test, hits}
use Rattle.refine.specs.Steps.{class_of, Exact, Shallow, Keeps, Divided}
use Rattle.refine.specs.Pairs.{first_of, second_of, both_of}
use Rattle.refine.specs.declared.pair.Pair.{Pair}
use Rattle.kripke.specs.Rounds.{total}
use Rattle.refine.specs.declared.partition.Partition.{Partition}

-- All states in one class, whose formula is true.
pub record One (states questions : ℕ) (p : Partition) : Type 0 where
  pub states_is : p.states ≡ states
  pub questions_is : p.questions ≡ questions
  pub class : (s : ℕ) → class_of p s ≡ 0
  pub exact : (v : Formula → ℕ → Bool) → Boolean v → Exact v p
  pub shallow : Shallow 0 p

-- From p to q the classes were split by the answers to the questions below i.
pub record Asking (u : Kripke) (p q : Partition) (i : ℕ) : Type 0 where
  pub keeps : Keeps p q
  pub classes : (s t : ℕ) → s < p.states → t < p.states
      → Alike q.class s t ↔ (Alike p.class s t × ((j : ℕ) → j < i → answer u s j ≡ answer u t j))
  pub exact : Exact (test u) p → Exact (test u) q
  pub shallow : (d : ℕ) → Shallow d p → Shallow d q

-- From p to q the classes were split by class c of a table, whose node is `name`: which states have a successor there.
pub record Halved (pair : Pair) (table : List ℕ) (c name : ℕ) (p q : Partition) : Type 0 where
  pub row : List Bool
  pub hit : (s : ℕ) → s < total (first_of pair) (second_of pair) → slice_index_or row s false ≡ hits (both_of pair) table c s
  pub divided : Divided p q (record { code = 5; a = name; b = 0 }) row

-- States of one class agree on whether they have a successor in a class of the table before.
abbrev pub Tried : Kripke → ℕ → List ℕ → List ℕ → Type 0
Tried u n before class = (c s t : ℕ) → s < n → t < n → Alike class s t → hits u before c s ≡ hits u before c t

-- One round, of structures a and b.
pub record Rounded (a b u : Kripke) (p q : Partition) : Type 0 where
  pub keeps : Keeps p q
  pub refined : Refined a b p.class q.class
  pub exact : Exact (test u) p → Exact (test u) q
  pub shallow : (d : ℕ) → Shallow d p → Shallow (suc d) q
