-- Each test is right: where it passes, the statement holds.
use Rattle.std.proofs.Common.{◌≡◌, ℕ, zero, suc, ◌<◌, ◌≤◌, Bool, true, false, not, ◌&&◌, T, eqb, ltb, leb, ◌↔◌, List, length, get_or, inl, inr, ⊎_elim, T_not}
use mathlib.Core.Bool.{beq}
use lib.Dec.{not_T}
use Rattle.std.proofs.lemmas.Bool.{leb-true, ltb-true, eqb-true}
use Rattle.kripke.specs.Structure.{Kripke, Lawful, size, state, successors}
use Rattle.kripke.specs.Ctl.{Formula, Holds}
use Rattle.kripke.specs.Nodes.{Operator, constant, asking, unary, binary, operator, operators, blank_node, Ordered, LawfulNode, WellFormed}
use Rattle.kripke.specs.Rounds.{ClosedDifferent, ClosedAlike, ClosedAfter, FirstClosed}
use Rattle.kripke.specs.Tests.{every, below, settled}
use Rattle.kripke.specs.declared.node.Node.{Node}
use Rattle.std.proofs.Math.Facts.{yes_leb}
use Rattle.kripke.proofs.Reflect.{T_true, and_T, or_T, eqb-T, every-T, below-T, same-T, settled-T}
use Rattle.kripke.proofs.Closing.{alike_agree, different_separated}
use Rattle.examples.specs.Rows.{Verdict, alike, different, Says, Closes, Is}
use Rattle.examples.proofs.Tests.{state_in_order, is_lawful, met, closed_alike, closed_after, first_closed, verdict, ordered, lawful_node, is_well_formed, marks, enough}
use Rattle.examples.proofs.Marks.{marks_tell}

at_most : (m n : ℕ) → T (leb m n) → m ≤ n
at_most m n t = leb-true m n ((T_true (leb m n)).0 t)

less : (m n : ℕ) → T (ltb m n) → m < n
less m n t = ltb-true m n ((T_true (ltb m n)).0 t)

equal : (m n : ℕ) → T (eqb m n) → m ≡ n
equal m n t = eqb-true m n ((T_true (eqb m n)).0 t)

pub lawful_right : (q : ℕ) (k : Kripke) → T (is_lawful q k) → Lawful q k
lawful_right q k t = record {
  some = at_most 1 (size k) x.0;
  few = at_most (size k) 256 y.0;
  begins = less k.initial (size k) z.0;
  answered = λ s h. equal (length (state k s).answers) q (here s h).0;
  closed = record {
    onward = λ s h. at_most 1 (length (successors k s)) (linked s h).0;
    inside = λ s t h m. less t (size k) ((every-T (λ t. ltb t (size k)) (successors k s)).0 (bounded s h).1 t m);
  };
  narrow = λ s h. at_most (length (successors k s)) 16 (bounded s h).0;
}
  where
    x : T (leb 1 (size k)) × T (leb (size k) 256 && (ltb k.initial (size k) && below (state_in_order q k) (size k)))
    x = (and_T _ _).0 t

    y : T (leb (size k) 256) × T (ltb k.initial (size k) && below (state_in_order q k) (size k))
    y = (and_T _ _).0 x.1

    z : T (ltb k.initial (size k)) × T (below (state_in_order q k) (size k))
    z = (and_T _ _).0 y.1

    here : (s : ℕ) → s < size k → T (eqb (length (state k s).answers) q)
        × T (leb 1 (length (successors k s)) && (leb (length (successors k s)) 16 && every (λ t. ltb t (size k)) (successors k s)))
    here s h = (and_T _ _).0 ((below-T (state_in_order q k) (size k)).0 z.1 s h)

    linked : (s : ℕ) → s < size k → T (leb 1 (length (successors k s))) × T (leb (length (successors k s)) 16 && every (λ t. ltb t (size k)) (successors k s))
    linked s h = (and_T _ _).0 (here s h).1

    bounded : (s : ℕ) → s < size k → T (leb (length (successors k s)) 16) × T (every (λ t. ltb t (size k)) (successors k s))
    bounded s h = (and_T _ _).0 (linked s h).1

lawful_passes : (q : ℕ) (k : Kripke) → Lawful q k → T (is_lawful q k)
lawful_passes q k l =
    (and_T _ _).1 (yes_leb l.some, (and_T _ _).1 (yes_leb l.few, (and_T _ _).1 (yes_leb l.begins, (below-T (state_in_order q k) (size k)).1 in_order)))
  where
    in_order : (s : ℕ) → s < size k → T (state_in_order q k s)
    in_order s h =
        (and_T _ _).1 (
          (eqb-T (length (state k s).answers) q).1 (l.answered s h),
          (and_T _ _).1 (
            yes_leb (l.closed.onward s h),
            (and_T _ _).1 (
              yes_leb (l.narrow s h),
              (every-T (λ t. ltb t (size k)) (successors k s)).1 (λ t m. yes_leb (l.closed.inside s t h m)),
            ),
          ),
        )

-- What is said, where the test answers so.
by_test : (said x : Bool) (P : Type 0) → T x ↔ P → T (beq said x) → Is said P
by_test true true P e t = e.0 tt
by_test true false P e t = absurd t
by_test false true P e t = absurd t
by_test false false P e t = λ p. e.1 p

pub law_right : (k : Kripke) (said : Bool) → T (beq said (is_lawful 32 k)) → Is said (Lawful 32 k)
law_right k said t = by_test said (is_lawful 32 k) (Lawful 32 k) (lawful_right 32 k, lawful_passes 32 k) t

-- A test that fails, and the statement that it tests.
no_right : (x : Bool) (P : Type 0) → T x ↔ P → T (not x) ↔ (¬ P)
no_right x P e = (λ n p. T_not x n (e.1 p), λ n. not_T x (λ t. n (e.0 t)))

module _ (a b : Kripke) where
  pub different_right : (k : ℕ) → T (not (met a b k)) ↔ ClosedDifferent a b k
  different_right k = no_right (met a b k) _ (same-T a b k a.initial b.initial)

  alike_right : (k : ℕ) → T (closed_alike a b k) ↔ ClosedAlike a b k
  alike_right zero = (λ t. t, λ h. h)
  alike_right (suc k) =
      let w = and_T (settled a b k) (met a b (suc k)) in
      let s = same-T a b (suc k) a.initial b.initial in (
        λ t. ((settled-T a b k).0 (w.0 t).0, s.0 (w.0 t).1),
        λ h. w.1 ((settled-T a b k).1 h.0, s.1 h.1),
      )

  closed_right : (k : ℕ) → T (closed_after a b k) ↔ ClosedAfter a b k
  closed_right k =
      let w = or_T (not (met a b k)) (closed_alike a b k) in (
        λ t. ⊎_elim (λ x. inl ((different_right k).0 x)) (λ x. inr ((alike_right k).0 x)) (w.0 t),
        λ h. w.1 (⊎_elim (λ x. inl ((different_right k).1 x)) (λ x. inr ((alike_right k).1 x)) h),
      )

  first_right : (k : ℕ) → T (first_closed a b k) → FirstClosed a b k
  first_right k t =
      let (x, y) = (and_T (closed_after a b k) (below (λ j. not (closed_after a b j)) k)).0 t in
      ((closed_right k).0 x, λ j l. (no_right (closed_after a b j) _ (closed_right j)).0 ((below-T (λ j. not (closed_after a b j)) k).0 y j l))

  pub closes_right : (v : Verdict) (k : ℕ) → T (is_lawful 32 a) → T (is_lawful 32 b) → T (first_closed a b k) → T (verdict a b v k) → Closes a b v k
  closes_right v k ta tb tf tv = record { first = la; second = lb; closed = closed; verdict = said v tv }
    where
      la : Lawful 32 a
      la = lawful_right 32 a ta

      lb : Lawful 32 b
      lb = lawful_right 32 b tb

      closed : FirstClosed a b k
      closed = first_right k tf

      said : (v : Verdict) → T (verdict a b v k) → Says a b v k
      said alike t = let c = (alike_right k).0 t in (c, alike_agree 32 a b la lb k c)
      said different t = let c = (different_right k).0 t in (c, (different_separated 32 a b la lb k closed c).0)

pub says_right : (k : Kripke) (f : Formula) (said : Bool) → T (is_lawful 32 k) → T (enough k f) → T (beq said (marks k f k.initial)) → Lawful 32 k × Is said (Holds k f k.initial)
says_right k f said t u v = (law, by_test said (marks k f k.initial) (Holds k f k.initial) (λ x. e.0 ((T_true _).0 x), λ h. (T_true _).1 (e.1 h)) v)
  where
    law : Lawful 32 k
    law = lawful_right 32 k t

    e : (marks k f k.initial ≡ true) ↔ Holds k f k.initial
    e = (marks_tell 32 k law f u).here k.initial law.begins

ordered_right : (op : Operator) (q i a b : ℕ) → T (ordered op q i a b) → Ordered op q i a b
ordered_right constant q i a b t = let (x, y) = (and_T (eqb a 0) (eqb b 0)).0 t in (equal a 0 x, equal b 0 y)
ordered_right asking q i a b t = let (x, y) = (and_T (ltb a q) (eqb b 0)).0 t in (less a q x, equal b 0 y)
ordered_right (unary op) q i a b t = let (x, y) = (and_T (ltb a i) (eqb b 0)).0 t in (less a i x, equal b 0 y)
ordered_right (binary op) q i a b t = let (x, y) = (and_T (ltb a i) (ltb b i)).0 t in (less a i x, less b i y)

node_right : (q i : ℕ) (n : Node) → T (lawful_node q i n) → LawfulNode q i n
node_right q i n t =
    let (x, y) = (and_T (ltb n.code (length operators)) (ordered (operator n) q i n.a n.b)).0 t in
    (less n.code (length operators) x, ordered_right (operator n) q i n.a n.b y)

pub table_right : (q : ℕ) (ns : List Node) → T (is_well_formed q ns) → (1 ≤ length ns) × (length ns ≤ 2045) × WellFormed q ns
table_right q ns t =
    let (x, u) = (and_T (leb 1 (length ns)) (leb (length ns) 2045 && below (λ i. lawful_node q i (get_or ns i blank_node)) (length ns))).0 t in
    let (y, z) = (and_T (leb (length ns) 2045) (below (λ i. lawful_node q i (get_or ns i blank_node)) (length ns))).0 u in
    (at_most 1 (length ns) x, at_most (length ns) 2045 y, λ i h. node_right q i (get_or ns i blank_node) ((below-T (λ i. lawful_node q i (get_or ns i blank_node)) (length ns)).0 z i h))
