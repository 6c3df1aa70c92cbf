-- Marking the nodes that a root reaches.
use Rattle.std.proofs.Common.{◌≡◌, ℕ, zero, suc, ◌+◌, ◌<◌, ◌≤◌, Bool, true, false, cond, ◌⊎◌, List, length, get_or, set, replicate, sym, refl, ◌∙◌, subst, inl, inr, Option, MatchOption, arith, get_or-set_other, get_or-set_same}
use lib.ListN.{length-replicate}
use native.Mathlib.Decide.{ℕ_discrete}
use Rattle.kripke.specs.Nodes.{blank_node}
use Rattle.refine.specs.Growth.{Orderly}
use Rattle.compare.specs.Pruned.{named}
use Rattle.compare.specs.Reach.{uses_a, uses_b, Reach, here, by_a, by_b, Refs, Marking}
use Rattle.kripke.specs.declared.node.Node.{Node}
use Rattle.compare.proofs.Renames.{never, names_a, names_b}

-- `ls` is `ks`, with `x` marked where `on`.
pub record Marks (on : Bool) (x : ℕ) (ks ls : List Bool) : Type 0 where
  pub more : (j : ℕ) → get_or ks j false ≡ true → get_or ls j false ≡ true
  pub at : on ≡ true → get_or ls x false ≡ true
  pub only : (j : ℕ) → get_or ls j false ≡ true → (get_or ks j false ≡ true) ⊎ ((on ≡ true) × (x ≡ j))

set_only : (ks : List Bool) (x j : ℕ) → get_or (set ks x true) j false ≡ true → (get_or ks j false ≡ true) ⊎ (x ≡ j)
set_only ks x j h =
    elim (ℕ_discrete j x) [ yes e ↦ inr (sym e) | no d ↦ inl (sym (get_or-set_other ks x j true false d) ∙ h) ]

marks_on : (on : Bool) (x : ℕ) (ks : List Bool) → (on ≡ true → x < length ks) → Marks on x ks (cond on (set ks x true) ks)
marks_on true x ks h = record {
  more = λ j e. elim (ℕ_discrete j x) [
    | yes d ↦ subst (λ z. get_or (set ks x true) z false ≡ true) (sym d) (get_or-set_same ks x true false (h refl))
    | no d ↦ get_or-set_other ks x j true false d ∙ e
  ];
  at = λ e. get_or-set_same ks x true false (h refl);
  only = λ j e. elim (set_only ks x j e) [ inl k ↦ inl k | inr k ↦ inr (refl, k) ];
}
marks_on false x ks h = record { more = λ j e. e; at = λ e. never e; only = λ j e. inl e }

-- Marking an operand.
pub marks : (on : Bool) (x : ℕ) (o : Option ℕ) (ks ls : List Bool) → o ≡ named on x → (on ≡ true → x < length ks)
    → MatchOption o (ls ≡ ks) (λ y. ls ≡ set ks y true) → Marks on x ks ls
marks true x o ks ls d h e =
    subst (λ (z : List Bool). Marks true x ks z) (sym (subst (λ (p : Option ℕ). MatchOption p (ls ≡ ks) (λ y. ls ≡ set ks y true)) d e)) (marks_on true x ks h)
marks false x o ks ls d h e =
    subst (λ (z : List Bool). Marks false x ks z) (sym (subst (λ (p : Option ℕ). MatchOption p (ls ≡ ks) (λ y. ls ≡ set ks y true)) d e)) (marks_on false x ks h)

pub named_low : (on : Bool) (x : ℕ) (o : Option ℕ) → o ≡ named on x → (on ≡ true → x < 2048) → MatchOption o (Unit {0}) (λ y. y < 2048)
named_low true x o d h = subst (λ (p : Option ℕ). MatchOption p (Unit {0}) (λ y. y < 2048)) (sym d) (h refl)
named_low false x o d h = subst (λ (p : Option ℕ). MatchOption p (Unit {0}) (λ y. y < 2048)) (sym d) tt

all_false : (n j : ℕ) → get_or (replicate n false) j false ≡ false
all_false zero j = refl
all_false (suc n) zero = refl
all_false (suc n) (suc j) = all_false n j

-- The root alone is marked.
pub marking_start : (ns : List Node) (root n : ℕ) → root < n → Marking ns root (root + 1) (set (replicate n false) root true)
marking_start ns root n h =
    let only : (j : ℕ) → get_or (set (replicate n false) root true) j false ≡ true → root ≡ j =
    λ j e. elim (set_only (replicate n false) root j e) [ inl k ↦ never (sym (blanks j) ∙ k) | inr k ↦ k ] in
    record {
      top = get_or-set_same (replicate n false) root true false (omega (arith, length_of));
      closed = λ j l e. absurd (omega (arith, only j e));
      sound = λ j e. subst (λ z. Reach ns root z) (only j e) here;
    } where
      blanks : (j : ℕ) → get_or (replicate n false) j false ≡ false
      blanks j = all_false n j

      length_of : length (replicate n false) ≡ n
      length_of = length-replicate n false

-- What the node `i` names is marked.
pub marking_more : (qs : ℕ) (ns : List Node) (root i i' : ℕ) (ks ls os : List Bool) → i' ≡ suc i → Orderly qs ns → i < length ns → get_or ks i false ≡ true
    → Marks (uses_a (get_or ns i blank_node)) (get_or ns i blank_node).a ks ls → Marks (uses_b (get_or ns i blank_node)) (get_or ns i blank_node).b ls os
    → Marking ns root i' ks → Marking ns root i os
marking_more qs ns root i i' ks ls os s he hi hk p q m = record {
  top = q.more root (p.more root m.top);
  closed = λ j l e. elim (ℕ_discrete i j) [
    | yes d ↦ subst (λ z. Refs ns os z) d (record { first = λ u. q.more _ (p.at u); second = λ u. q.at u })
    | no d ↦ elim (was j e) [
      | inl k ↦ (let r = m.closed j (omega arith) k in record { first = λ u. q.more _ (p.more _ (r.first u)); second = λ u. q.more _ (p.more _ (r.second u)) })
      | inr k ↦ absurd (omega (arith, lower j k))
    ]
  ];
  sound = λ j e. elim (was j e) [
    | inl k ↦ m.sound j k
    | inr k ↦ elim k [
      | inl w ↦ subst (λ z. Reach ns root z) w.1 (by_a (m.sound i hk) w.0)
      | inr w ↦ subst (λ z. Reach ns root z) w.1 (by_b (m.sound i hk) w.0)
    ]
  ];
} where
  was : (j : ℕ) → get_or os j false ≡ true → (get_or ks j false ≡ true) ⊎ (((uses_a (get_or ns i blank_node) ≡ true) × ((get_or ns i blank_node).a ≡ j)) ⊎ ((uses_b (get_or ns i blank_node) ≡ true) × ((get_or ns i blank_node).b ≡ j)))
  was j e = elim (q.only j e) [ inl k ↦ elim (p.only j k) [ inl z ↦ inl z | inr w ↦ inr (inl w) ] | inr w ↦ inr (inr w) ]

  lower : (j : ℕ) → (((uses_a (get_or ns i blank_node) ≡ true) × ((get_or ns i blank_node).a ≡ j)) ⊎ ((uses_b (get_or ns i blank_node) ≡ true) × ((get_or ns i blank_node).b ≡ j))) → j < i
  lower j k = elim k [ inl w ↦ omega (arith, names_a qs i (get_or ns i blank_node) (he i hi) w.0, w.1) | inr w ↦ omega (arith, names_b qs i (get_or ns i blank_node) (he i hi) w.0, w.1) ]

-- At the end the marked nodes are those that the root reaches.
pub kept_reach : (ns : List Node) (root : ℕ) (ks : List Bool) → Marking ns root 0 ks → {j : ℕ} → Reach ns root j → get_or ks j false ≡ true
kept_reach ns root ks m here = m.top
kept_reach ns root ks m (by_a {j} p e) = (m.closed j (omega arith) (kept_reach ns root ks m p)).first e
kept_reach ns root ks m (by_b {j} p e) = (m.closed j (omega arith) (kept_reach ns root ks m p)).second e

pub reach_low : (qs : ℕ) (ns : List Node) (root : ℕ) → Orderly qs ns → root < length ns → {j : ℕ} → Reach ns root j → j ≤ root
reach_low qs ns root he h here = omega arith
reach_low qs ns root he h (by_a {j} p e) = let l = reach_low qs ns root he h p in omega (arith, names_a qs j (get_or ns j blank_node) (he j (omega arith)) e)
reach_low qs ns root he h (by_b {j} p e) = let l = reach_low qs ns root he h p in omega (arith, names_b qs j (get_or ns j blank_node) (he j (omega arith)) e)
