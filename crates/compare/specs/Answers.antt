-- What the answers of a comparison of a and b after k rounds say.
use Rattle.std.specs.Prelude.{◌≡◌, ℕ, ◌+◌, ◌-◌, ◌*◌, ◌<◌, ◌≤◌, ◌↔◌, List, [], ◌∷◌, length, slice_index_or}
use Rattle.kripke.specs.Structure.{Kripke, Member}
use Rattle.kripke.specs.Ctl.{Formula, Holds, NextOnly, nesting}
use Rattle.kripke.specs.Nodes.{WellFormed, blank_node, root}
use Rattle.kripke.specs.Rounds.{Separates, Apart, Inseparable, total}
use Rattle.kripke.specs.declared.node.Node.{Node}
use Rattle.compare.specs.Reach.{Reach}
use Rattle.compare.specs.declared.verdict.Verdict.{Verdict}
use Rattle.compare.specs.declared.verdict.Outcome.TheVariants.{Alike, Different}

-- c is the least number of a state that no next-only formula of nesting k or less separates from state i.
pub record ClassNumber (a b : Kripke) (k i c : ℕ) : Type 0 where
  pub inside : c < total a b
  pub inseparable : Inseparable a b k i c
  pub least : (j : ℕ) → j < total a b → Inseparable a b k i j → c ≤ j

-- The verdict: alike exactly when no CTL formula of any size separates the initial states, and different exactly when one does;
-- with the rounds that it took, at most as many as there are states.
pub record Decides (a b : Kripke) (k : ℕ) (v : Verdict) : Type 0 where
  pub rounds : v.rounds ≡ k
  pub soon : k ≤ total a b
  pub alike : (v.outcome ≡ Alike) ↔ ¬ Apart a b a.initial b.initial
  pub different : (v.outcome ≡ Different) ↔ Apart a b a.initial b.initial

-- The codes of true, a question, not, and, EX.
abbrev pub next_codes : List ℕ
next_codes = 0 ∷ 1 ∷ 2 ∷ 3 ∷ 5 ∷ []

-- A table of a formula that separates the initial states: next-only and in order for q questions, of 1 to 4 N - 3 nodes, every one a part of the root;
-- the root nests k deep, holds at the first initial state and fails at the second, and no next-only formula that separates them nests less deep.
pub record Separating (a b : Kripke) (q k : ℕ) (ns : List Node) : Type 0 where
  pub some : 1 ≤ length ns
  pub few : length ns + 3 ≤ 4 * total a b
  pub well_formed : WellFormed q ns
  pub next_only : (i : ℕ) → i < length ns → Member (slice_index_or ns i blank_node).code next_codes
  pub useful : (i : ℕ) → i < length ns → ∥ Reach ns (length ns - 1) i ∥₁
  pub nests : nesting (root ns) ≡ k
  pub here : Holds a (root ns) a.initial
  pub there : ¬ Holds b (root ns) b.initial
  pub least : (f : Formula) → NextOnly f → Separates a b a.initial b.initial f → k ≤ nesting f
