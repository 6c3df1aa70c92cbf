-- A refinement's initial states, and the formula that separates them.
use Rattle.std.proofs.Common.{◌≡◌, ℕ, ◌+◌, ◌*◌, ◌<◌, ◌≤◌, Bool, true, false, not, T, eqb, List, [], length, get_or, sym, refl, ap, ◌∙◌, subst, arith}
use Rattle.std.proofs.lemmas.Bool.{eq-eqb, eqb-false, ne_eqb, lt-ltb, le-leb}
use Rattle.kripke.specs.Structure.{Kripke, Lawful, size}
use Rattle.kripke.specs.Ctl.{Formula, nesting}
use Rattle.kripke.specs.Nodes.{root}
use Rattle.kripke.specs.Rounds.{total}
use Rattle.kripke.specs.Tests.{together}
use Rattle.kripke.specs.Union.{both}
use Rattle.kripke.specs.declared.node.Node.{Node}
use Rattle.kripke.proofs.Reflect.{beq-T, same-T, together-T}
use Rattle.kripke.proofs.Classing.{cross_together}
use Rattle.refine.specs.Tests.{test}
use Rattle.refine.specs.Steps.{class_of, class_formula}
use Rattle.refine.specs.Refinements.{first, second, questions}
use Rattle.refine.specs.declared.refinement.Refinement.{Refinement}
use Rattle.refine.proofs.Somes.{bools}
use Rattle.refine.proofs.Orders.{T_and}
use Rattle.refine.proofs.Rowed.{row_size, table_lawful}
use Rattle.refine.proofs.Scan.{count_le}
use Rattle.refine.proofs.Staging.{test_exact}
use Rattle.compare.specs.Closing.{level}
use Rattle.compare.specs.Pruned.{Pruned}
use Rattle.compare.specs.Kept.{Kept}
use Rattle.compare.proofs.Rulings.{same_of, different_T}

module _ (r : Refinement) where
  pub first_lawful : Lawful (questions r) (first r)
  first_lawful = table_lawful r.pair.first

  pub second_lawful : Lawful (questions r) (second r)
  second_lawful = subst (λ (q : ℕ). Lawful q (second r)) r.pair.level (table_lawful r.pair.second)

  abbrev one : ℕ
  one = r.pair.first.initial

  abbrev other : ℕ
  other = length r.pair.first.rows.items + r.pair.second.initial

  first_size : size (first r) ≡ length r.pair.first.rows.items
  first_size = row_size r.pair.first.initial r.pair.first.rows.items

  pub one_in : one < r.parts.states
  one_in = omega (arith, r.long, first_size, first_lawful.begins)

  pub other_in : other < r.parts.states
  other_in = omega (arith, r.long, first_size, second_lawful.begins)

  pub level_is : eqb (class_of r.parts one) (class_of r.parts other) ≡ level (first r) (second r) r.rounds
  level_is =
      let a : Kripke = first r in
      let b : Kripke = second r in
      let e : other ≡ size (first r) + r.pair.second.initial = omega (arith, first_size) in
      let c = cross_together (first r) (second r) r.rounds one r.pair.second.initial first_lawful.begins in
      (beq-T _ _).0 (r.numbered one other (omega (arith, one_in, r.long)) (omega (arith, other_in, r.long)))
      ∙ ap (λ (j : ℕ). together (first r) (second r) r.rounds one j) e
      ∙ bools _ _
      (λ t. (same-T (first r) (second r) r.rounds one r.pair.second.initial).1
      (c.1 ((together-T (first r) (second r) r.rounds one (size (first r) + r.pair.second.initial)).0 t)))
      (λ t. (together-T (first r) (second r) r.rounds one (size (first r) + r.pair.second.initial)).1
      (c.0 ((same-T (first r) (second r) r.rounds one r.pair.second.initial).0 t)))

  pub level_at : (x y : ℕ) → x ≡ class_of r.parts (first r).initial → y ≡ class_of r.parts (size (first r) + (second r).initial)
      → level (first r) (second r) r.rounds ≡ eqb x y
  level_at x y d e =
      sym (ap (λ (z : ℕ). eqb z y) d ∙ ap (λ (z : ℕ). eqb (class_of r.parts one) z) (e ∙ ap (λ (s : ℕ). class_of r.parts (s + (second r).initial)) first_size) ∙ level_is)

  pub total_few : total (first r) (second r) ≤ 512
  total_few = omega (arith, r.long, r.parts.few)

  pub nodes_few : length r.parts.nodes.list.items + 3 ≤ 4 * total (first r) (second r)
  nodes_few = omega (arith, r.parts.spare, count_le r.parts, r.long)

  pub kept_none : level (first r) (second r) r.rounds ≡ true → (ns : List Node) → ns ≡ [] → Kept r ns
  kept_none e ns z = subst (λ (l : List Node). Kept r l) (sym z) (record {
    few = omega (arith, first_lawful.some);
    orderly = λ i l. absurd (omega arith);
    useful = λ i l. absurd (omega arith);
    none = λ d. refl;
    separating = λ d. absurd (d (same_of (first r) (second r) r.rounds e));
  })

  module _ (e : level (first r) (second r) r.rounds ≡ false) (ns : List Node)
      (h : Pruned (questions r) r.parts.nodes.list.items (get_or r.parts.node (class_of r.parts one) 0) ns) where
    same_root : root ns ≡ class_formula r.parts one
    same_root = h.same

    test_at : (s : ℕ) → s < r.parts.states → test (both (first r) (second r)) (root ns) s ≡ eqb (class_of r.parts s) (class_of r.parts one)
    test_at s l = ap (λ (f : Formula). test (both (first r) (second r)) f s) same_root ∙ test_exact (both (first r) (second r)) r.parts r.exact one s one_in l

    at_one : test (both (first r) (second r)) (root ns) one ≡ true
    at_one = test_at one one_in ∙ eq-eqb _ _ refl

    at_other : test (both (first r) (second r)) (root ns) (size (first r) + r.pair.second.initial) ≡ false
    at_other =
        ap (λ (j : ℕ). test (both (first r) (second r)) (root ns) j) (omega (arith, first_size))
        ∙ test_at other other_in ∙ ne_eqb _ _ (λ z. eqb-false _ _ (level_is ∙ e) (sym z))

    yes-T : (b : Bool) → b ≡ true → T b
    yes-T b z = subst T (sym z) tt

    pub kept_some : Kept r ns
    kept_some = record {
      few = omega (arith, h.few, nodes_few, r.parts.here one one_in);
      orderly = h.orderly;
      useful = λ i l. ∣ h.useful i l ∣₁;
      none = λ d. absurd (d (different_T (first r) (second r) r.rounds e));
      separating = λ d. T_and _ _
          (T_and _ _ (yes-T _ (lt-ltb 0 (length ns) h.some)) (yes-T _ (le-leb _ _ (subst (λ (f : Formula). nesting f ≤ r.rounds) (sym same_root) (r.shallow one one_in)))))
          (T_and _ _ (yes-T _ at_one) (yes-T _ (ap not at_other)));
    }
