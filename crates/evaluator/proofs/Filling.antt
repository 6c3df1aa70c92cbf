-- One more row in the word table.
use Rattle.std.proofs.Common.{◌≡◌, ℕ, ◌+◌, ◌*◌, ◌/◌, ◌%◌, ◌<◌, ◌≤◌, Bool, List, length, get_or, sym, refl, ap, ◌∙◌, subst, ⊎_elim, arith, rules}
use borrow.Rule.Slice.PartMut.{put_mid}
use Rattle.std.proofs.lemmas.List.{places}
use Rattle.std.proofs.lemmas.Bool.{cases_eq}
use Rattle.kripke.specs.Structure.{Kripke, Lawful}
use Rattle.kripke.specs.Ctl.{Formula, truth}
use Rattle.kripke.specs.Nodes.{Operator, constant, asking, unary, binary, operator, formula, formulas, Ordered, WellFormed, blank_node}
use Rattle.kripke.specs.declared.node.Node.{Node}
use Rattle.kripke.proofs.Tables.{formula_at}
use Rattle.evaluator.specs.Rows.{bit, at, TruthRow}
use Rattle.evaluator.specs.Marks.{Applies, Fed, Filled, marks}

-- The words after a write to the part of w words from a on.
mid_at : (a w : ℕ) (xs ys : List ℕ) (j : ℕ) → a ≤ length xs → j < length ys → get_or (put_mid a w xs ys) (a + j) 0 ≡ get_or ys j 0
mid_at a w xs ys j h l = search (rules, places)

mid_before : (a w : ℕ) (xs ys : List ℕ) (j : ℕ) → a ≤ length xs → j < a → get_or (put_mid a w xs ys) j 0 ≡ get_or xs j 0
mid_before a w xs ys j h l = search (rules, places)

mid_after : (a w : ℕ) (xs ys : List ℕ) (j : ℕ) → a ≤ length xs → length ys ≡ w → a + w ≤ j → get_or (put_mid a w xs ys) j 0 ≡ get_or xs j 0
mid_after a w xs ys j h l m = search (rules, places)

-- Marks that are the same tell the same.
pub tells_same : (n : ℕ) (k : Kripke) → Lawful n k → (f : Formula) (p q : ℕ → Bool) → ((s : ℕ) → s < 256 → q s ≡ p s) → TruthRow k f p → TruthRow k f q
tells_same n k law f p q same t = record {
  here = λ s h. let e = same s (omega (arith, law.few)) in (λ on. (t.here s h).0 (sym e ∙ on), λ x. e ∙ (t.here s h).1 x);
  beyond = λ s h l. same s l ∙ t.beyond s h l;
}

fed : (k : Kripke) (op : Operator) (fs : List Formula) (n i a b : ℕ) (p q : ℕ → Bool) → Ordered op n i a b
    → (a < i → TruthRow k (get_or fs a truth) p) → (b < i → TruthRow k (get_or fs b truth) q) → Fed k op fs a b p q
fed k constant fs n i a b p q h ta tb = tt
fed k asking fs n i a b p q h ta tb = tt
fed k (unary op) fs n i a b p q h ta tb = ta h.0
fed k (binary op) fs n i a b p q h ta tb = (ta h.0, tb h.1)

pub none_filled : (k : Kripke) (ns : List Node) (us : List ℕ) → Filled k ns 0 us us
none_filled k ns us = record { rows = λ j l. absurd (omega arith); past = λ j l. refl }

pub one_filled : (n : ℕ) (k : Kripke) (law : Lawful n k) (ns : List Node) (i w : ℕ) (us ws row : List ℕ) (p q : ℕ → Bool)
    → WellFormed n ns → i < length ns → 4 * length ns ≤ length ws → w ≡ 4 → length row ≡ 4
    → ((get_or ns i blank_node).a < i → (s : ℕ) → s < 256 → p s ≡ at ws (get_or ns i blank_node).a s)
    → ((get_or ns i blank_node).b < i → (s : ℕ) → s < 256 → q s ≡ at ws (get_or ns i blank_node).b s)
    → Applies k (operator (get_or ns i blank_node)) (get_or ns i blank_node).a (get_or ns i blank_node).b p q (marks row)
    → Filled k ns i us ws → Filled k ns (i + 1) us (put_mid (4 * i) w ws row)
one_filled n k law ns i w us ws row p q lawful l room four long isa isb app e = record {
  rows = λ j h. ⊎_elim
      (λ (same : j ≡ i). subst (λ (m : ℕ). TruthRow k (formula ns m) (at (put_mid (4 * i) w ws row) m)) (sym same) here)
      (λ (ne : ¬ j ≡ i). tells_same n k law (formula ns j) (at ws j) (at (put_mid (4 * i) w ws row) j)
      (λ s m. ap (λ (x : ℕ). bit x (s % 64)) (mid_before (4 * i) w ws row (4 * j + s / 64) (omega arith) (omega arith))) (e.rows j (omega arith)))
      (cases_eq j i);
  past = λ j h. mid_after (4 * i) w ws row j (omega arith) (long ∙ sym four) (omega arith) ∙ e.past j (omega arith);
}
  where
    here : TruthRow k (formula ns i) (at (put_mid (4 * i) w ws row) i)
    here =
        let a : ℕ = (get_or ns i blank_node).a in
        let b : ℕ = (get_or ns i blank_node).b in
        tells_same n k law (formula ns i) (marks row) (at (put_mid (4 * i) w ws row) i)
        (λ s m. ap (λ (x : ℕ). bit x (s % 64)) (mid_at (4 * i) w ws row (s / 64) (omega arith) (omega arith)))
        (subst (λ (f : Formula). TruthRow k f (marks row)) (sym (formula_at n ns lawful i l))
        (app (formulas ns) (fed k (operator (get_or ns i blank_node)) (formulas ns) n i a b p q (lawful i l).1
        (λ h. tells_same n k law (formula ns a) (at ws a) p (isa h) (e.rows a h))
        (λ h. tells_same n k law (formula ns b) (at ws b) q (isb h) (e.rows b h)))))
