-- One class of all states, and its split by the questions.
use Rattle.std.proofs.Common.{◌≡◌, ℕ, zero, suc, ◌+◌, ◌<◌, ◌≤◌, Bool, true, false, eqb, List, [], ◌∷◌, ◌++◌, length, get_or, replicate, sym, refl, ap, ◌∙◌, subst, arith}
use native.Mathlib.Decide.{ℕ_discrete}
use Rattle.std.proofs.lemmas.Bool.{eq-eqb, ne_eqb}
use Rattle.kripke.specs.Structure.{Kripke, answer}
use Rattle.kripke.specs.Ctl.{Formula, truth, nesting}
use Rattle.kripke.specs.Nodes.{formula, blank_node}
use Rattle.kripke.specs.Classes.{Low, Led}
use Rattle.kripke.specs.declared.node.Node.{Node}
use Rattle.kripke.proofs.Tables.{formula_new}
use Rattle.refine.specs.Classes.{Here, leaders, bit, sum}
use Rattle.refine.specs.Growth.{Orderly, Boolean}
use Rattle.refine.specs.Tests.{test}
use Rattle.refine.specs.Steps.{at, Divided}
use Rattle.refine.specs.Rounding.{Asking}
use Rattle.refine.specs.declared.partition.Partition.{Partition}
use Rattle.refine.proofs.Orders.{orderly_push}
use Rattle.refine.proofs.Scan.{keeps_refl, keeps_trans}

pub zeros : (n s : ℕ) → ◌≡◌ {A = ℕ} (get_or (replicate n 0) s 0) 0
zeros zero s = refl
zeros (suc n) zero = refl
zeros (suc n) (suc s) = zeros n s

module _ (z w : List ℕ) (ez : (s : ℕ) → get_or z s 0 ≡ 0) (ew : (s : ℕ) → get_or w s 0 ≡ 0) (ns : List Node) (e : ns ≡ [] ++ blank_node ∷ []) where
  pub one_long : length ns ≡ 1
  one_long = ap length e

  is_truth : (t : ℕ) → formula ns (get_or w (get_or z t 0) 0) ≡ truth
  is_truth t = ap (λ (j : ℕ). formula ns j) (ew (get_or z t 0)) ∙ ap (λ (l : List Node). formula l 0) e ∙ formula_new [] blank_node 0 refl

  pub one_low : (n : ℕ) → Low n z
  one_low n s h = omega (arith, ez s)

  pub one_led : (n : ℕ) → Led n z
  one_led n s h = ez (get_or z s 0) ∙ sym (ez s)

  pub one_here : (n : ℕ) → Here n z w ns
  one_here n t h = omega (arith, ew (get_or z t 0), one_long)

  pub one_exact : (v : Formula → ℕ → Bool) → Boolean v → (t s : ℕ) → v (formula ns (get_or w (get_or z t 0) 0)) s ≡ eqb (get_or z s 0) (get_or z t 0)
  one_exact v b t s = ap (λ (f : Formula). v f s) (is_truth t) ∙ b.always s ∙ sym (eq-eqb (get_or z s 0) (get_or z t 0) (ez s ∙ sym (ez t)))

  pub one_shallow : (t : ℕ) → nesting (formula ns (get_or w (get_or z t 0) 0)) ≤ 0
  one_shallow t = subst (λ (f : Formula). nesting f ≤ 0) (sym (is_truth t)) (omega arith)

  pub one_orderly : (q : ℕ) → Orderly q ns
  one_orderly q = orderly_push q [] ns blank_node e (λ i l. absurd (omega arith)) tt

  count_one : (n : ℕ) → sum (λ i. bit (eqb (get_or z i 0) i)) (suc n) ≡ 1
  count_one zero = let q : eqb (get_or z 0 0) 0 ≡ true = eq-eqb _ _ (ez 0) in let r : bit (eqb (get_or z 0 0) 0) ≡ 1 = rw q refl in omega (arith, r)
  count_one (suc n) =
      let q : eqb (get_or z (suc n) 0) (suc n) ≡ false = ne_eqb _ _ (λ z. omega (arith, z, ez (suc n))) in
      let r : bit (eqb (get_or z (suc n) 0) (suc n)) ≡ 0 = rw q refl in omega (arith, r, count_one n)

  pub one_count : (n : ℕ) → 1 ≤ n → 1 ≡ leaders z n
  unfolding leaders
  one_count zero h = absurd (omega arith)
  one_count (suc n) h = sym (count_one n)

pub test_boolean : (u : Kripke) → Boolean (test u)
test_boolean u = record { always = λ s. refl; negates = λ f s. refl; joins = λ f g s. refl }

pub asking_none : (u : Kripke) (p : Partition) → Asking u p p 0
asking_none u p = record { keeps = keeps_refl p; classes = λ s t hs ht. (λ e. (e, λ j l. absurd (omega arith)), λ e. e.0); exact = λ h. h; shallow = λ d h. h }

pub asking_more : (u : Kripke) (p q r : Partition) (i : ℕ) (row : List Bool) → Asking u p q i
    → ((s : ℕ) → s < p.states → at row s ≡ answer u s i) → Divided q r (record { code = 1; a = i; b = 0 }) row → Asking u p r (i + 1)
asking_more u p q r i row h rows d =
    record {
      keeps = keeps_trans p q r h.keeps d.keeps;
      classes = λ s t hs ht. (
        λ e. let a = (d.classes s t (to s hs) (to t ht)).0 e in let b = (h.classes s t hs ht).0 a.0 in (
          b.0,
          λ j l. elim (ℕ_discrete j i) [
            | yes z ↦ subst (λ (v : ℕ). answer u s v ≡ answer u t v) (sym z) (sym (rows s hs) ∙ a.1 ∙ rows t ht)
            | no z ↦ b.1 j (omega arith)
          ],
        ),
        λ e. (d.classes s t (to s hs) (to t ht)).1
            ((h.classes s t hs ht).1 (e.0, λ j l. e.1 j (omega arith)), rows s hs ∙ e.1 i (omega arith) ∙ sym (rows t ht)),
      );
      exact = λ old. d.exact (test u) (test_boolean u) (λ t l. sym (rows t (omega (arith, l, h.keeps.states)))) (h.exact old);
      shallow = λ e old. d.shallow e (omega arith) (h.shallow e old);
    }
  where
    to : (s : ℕ) → s < p.states → s < q.states
    to s k = omega (arith, k, h.keeps.states)
