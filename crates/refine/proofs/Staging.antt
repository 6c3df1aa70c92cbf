-- Partitions after k rounds: their opening, the next round, whether it split anything, and the number of classes.
use Rattle.std.proofs.Common.{◌≡◌, ℕ, zero, suc, ◌+◌, ◌<◌, ◌≤◌, true, false, cond, T, eqb, ◌⊎◌, List, get_or, sym, ap, ◌∙◌, subst, inl, inr, ⊎_elim, zero-add, one-add, arith}
use Rattle.std.proofs.lemmas.List.{get_or_past}
use Rattle.std.proofs.lemmas.Bool.{cases_lt, eqb-true, eq-eqb}
use Rattle.kripke.specs.Structure.{Kripke, Closed, Lawful, answer, state}
use Rattle.kripke.specs.Rounds.{Settled, total}
use Rattle.kripke.specs.Tests.{settled}
use Rattle.kripke.specs.Union.{both}
use Rattle.kripke.specs.Classes.{Alike, Low, Led, Numbered, Count, none, more, pass, Classes}
use Rattle.kripke.proofs.Reflect.{beq-T, settled-T}
use Rattle.kripke.proofs.Classing.{opened_numbered, round_numbered, numbered_to, still_settled, class_of, table_classes}
use Rattle.refine.specs.Classes.{leaders, bit, sum}
use Rattle.refine.specs.Tests.{test}
use Rattle.refine.specs.Steps.{Exact}
use Rattle.refine.specs.Rounding.{One, Asking, Rounded}
use Rattle.refine.specs.Stages.{ExactByTest}
use Rattle.refine.specs.declared.partition.Partition.{Partition}
use Rattle.refine.proofs.Rowed.{long_answers}
use Rattle.refine.proofs.Somes.{bools, T-yes}
use Rattle.refine.proofs.Sums.{sum_same}
use Rattle.refine.proofs.Step.{eqb_or}

pub test_exact : (u : Kripke) (p : Partition) → ExactByTest u p → Exact (test u) p
test_exact u p h t s ht hs = (beq-T _ _).0 (h t s ht hs)

pub exact_test : (u : Kripke) (p : Partition) → Exact (test u) p → ExactByTest u p
exact_test u p h t s ht hs = (beq-T _ _).1 (h t s ht hs)

-- The states with their own number are as many as the count says.
count_leaders : (class : List ℕ) (n : ℕ) → Count (λ i. get_or class i 0 ≡ i) n (sum (λ i. bit (eqb (get_or class i 0) i)) n)
count_leaders class zero = none
count_leaders class (suc n) = go (count_leaders class n) (eqb_or (get_or class n 0) n)
  where
    go : Count (λ i. get_or class i 0 ≡ i) n (sum (λ i. bit (eqb (get_or class i 0) i)) n) → ((eqb (get_or class n 0) n ≡ true) × (get_or class n 0 ≡ n)) ⊎ ((eqb (get_or class n 0) n ≡ false) × (¬ get_or class n 0 ≡ n))
        → Count (λ i. get_or class i 0 ≡ i) (suc n) (bit (eqb (get_or class n 0) n) + sum (λ i. bit (eqb (get_or class i 0) i)) n)
    go k (inl e) = rw (e.0, one-add) (more n _ k e.1)
    go k (inr e) = rw (e.0, zero-add) (pass n _ k e.1)

pub classes_counted : (a b : Kripke) (k : ℕ) (p : Partition) → p.states ≡ total a b → Numbered a b k p.class → Classes a b k p.count
unfolding leaders
classes_counted a b k p long h =
    let low : Low (total a b) p.class = subst (λ (n : ℕ). Low n p.class) long p.low in
    let led : Led (total a b) p.class = subst (λ (n : ℕ). Led n p.class) long p.led in
    (table_classes a b k p.class (λ i l. class_of a b k p.class h low led i l) p.count).0
    (subst (λ (n : ℕ). Count (λ i. get_or p.class i 0 ≡ i) n p.count) long
    (subst (λ (c : ℕ). Count (λ i. get_or p.class i 0 ≡ i) p.states c) (sym p.counted) (count_leaders p.class p.states)))

-- The opening.
module _ (q : ℕ) (a b : Kripke) (la : Lawful q a) (lb : Lawful q b) where
  past : (i j : ℕ) → i < total a b → q ≤ j → answer (both a b) i j ≡ false
  past i j h l = get_or_past (state (both a b) i).answers j false (omega (arith, l, long_answers q a b la lb i h))

  pub opening_numbered : (s : ℕ) (o p : Partition) → s ≡ total a b → One s q o → Asking (both a b) o p q → Numbered a b 0 p.class
  opening_numbered s o p e one ask = opened_numbered a b la.closed lb.closed p.class (λ i j hi hj.
      let ki : i < o.states = omega (arith, hi, e, one.states_is) in
      let kj : j < o.states = omega (arith, hj, e, one.states_is) in (
        λ al n. ⊎_elim (λ (l : n < q). ((ask.classes i j ki kj).0 al).1 n l) (λ (l : q ≤ n). past i n hi l ∙ sym (past j n hj l)) (cases_lt n q),
        λ ag. (ask.classes i j ki kj).1 (one.class i ∙ sym (one.class j), λ n l. ag n),
      ))

-- One round more.
module _ (a b : Kripke) (la : Closed a) (lb : Closed b) (k : ℕ) (p r : Partition) (long : p.states ≡ total a b) (h : Numbered a b k p.class) (d : Rounded a b (both a b) p r) where
  pub next_numbered : Numbered a b (suc k) r.class
  next_numbered = round_numbered a b la lb k p.class r.class h d.refined

  still_low : ((i j : ℕ) → i < total a b → j < total a b → Alike p.class i j → Alike r.class i j) → (i : ℕ) → i < total a b → get_or r.class i 0 ≡ get_or p.class i 0
  still_low on i l =
      let lp : get_or p.class i 0 ≤ i = p.low i (omega (arith, long, l)) in
      let lr : get_or r.class i 0 ≤ i = r.low i (omega (arith, long, l, d.keeps.states)) in
      let x : get_or r.class i 0 ≤ get_or p.class i 0 =
      omega (arith, on i (get_or p.class i 0) l (omega arith) (sym (p.led i (omega (arith, long, l)))), r.low (get_or p.class i 0) (omega (arith, long, l, lp, d.keeps.states))) in
      let y : get_or p.class i 0 ≤ get_or r.class i 0 =
      omega (
        arith,
        ((d.refined i (get_or r.class i 0) l (omega arith)).0 (sym (r.led i (omega (arith, long, l, d.keeps.states))))).0,
        p.low (get_or r.class i 0) (omega (arith, long, l, lr)),
      ) in
      omega arith

  still_count : Settled a b k → r.count ≡ p.count
  unfolding leaders
  still_count st =
      let on : (i : ℕ) → i < total a b → get_or r.class i 0 ≡ get_or p.class i 0 = still_low (λ i j hi hj e.
      (numbered_to a b (suc k) r.class next_numbered i j hi hj).1 (st i j hi hj ((numbered_to a b k p.class h i j hi hj).0 e))) in
      r.counted ∙ ap (λ (n : ℕ). sum (λ i. bit (eqb (get_or r.class i 0) i)) n) d.keeps.states
      ∙ sum_same (λ i. bit (eqb (get_or p.class i 0) i)) (λ i. bit (eqb (get_or r.class i 0) i)) p.states
      (λ i l. ap (λ (c : ℕ). bit (eqb c i)) (on i (omega (arith, long, l))))
      ∙ sym p.counted

  -- The round split nothing exactly when there are as many classes as before.
  pub next_rests : eqb r.count p.count ≡ settled a b k
  next_rests = bools _ _
      (λ e. (settled-T a b k).1 (still_settled a b k p.class r.class h next_numbered
      (λ i j hi hj al. let c : r.class ≡ p.class = d.keeps.still (omega (arith, eqb-true _ _ (T-yes _ e))) in
      subst (λ (l : List ℕ). Alike l i j) (sym c) al)))
      (λ st. subst T (sym (eq-eqb _ _ (still_count ((settled-T a b k).0 st)))) tt)

  pub next_pace : suc k ≤ p.count → cond (eqb r.count p.count) (suc k) (suc (suc k)) ≤ r.count
  next_pace h = go (eqb_or r.count p.count)
    where
      go : ((eqb r.count p.count ≡ true) × (r.count ≡ p.count)) ⊎ ((eqb r.count p.count ≡ false) × (¬ r.count ≡ p.count))
          → cond (eqb r.count p.count) (suc k) (suc (suc k)) ≤ r.count
      go (inl e) = rw e.0 (omega (arith, e.1, h))
      go (inr e) = rw e.0 (omega (arith, e.1, h, d.keeps.more))
