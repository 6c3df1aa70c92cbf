-- The scan of a split: classes parted one after another.
use Rattle.std.proofs.Common.{◌≡◌, ℕ, ◌+◌, ◌<◌, ◌≤◌, Bool, true, false, eqb, List, length, get_or, sym, refl, ap, ◌∙◌, subst, ⊎_elim, Option, Some, None, arith}
use mathlib.Core.Bool.{beq}
use native.Mathlib.Decide.{ℕ_discrete}
use Rattle.std.proofs.lemmas.Bool.{ne_eqb}
use Rattle.kripke.specs.Ctl.{Formula, nesting}
use Rattle.kripke.specs.Classes.{Alike}
use Rattle.kripke.specs.declared.node.Node.{Node}
use Rattle.refine.specs.Classes.{leaders, bit}
use Rattle.refine.specs.Steps.{at, class_of, Exact, Shallow, Values, Odd, Keeps, Parted, Divided, own}
use Rattle.refine.specs.declared.partition.Partition.{Partition}
use Rattle.refine.proofs.Sums.{sum_less, sum_mono, sum_ones, bit_le}
use Rattle.refine.proofs.Part.{beq_refl}
use Rattle.refine.specs.Growth.{Boolean, Names, Ready, test_formula}
use Rattle.refine.proofs.Grown.{extends_refl, extends_trans, ready}
use Rattle.refine.proofs.Step.{ways, one_before, one_after, new_s0}

-- From p to q classes were parted by the row only, and the states below i agree with the least of their class.
pub record Scanned (p q : Partition) (f : Formula) (row : List Bool) (i : ℕ) : Type 0 where
  pub keeps : Keeps p q
  pub finer : (s t : ℕ) → s < p.states → t < p.states → Alike q.class s t → Alike p.class s t
  pub kept : (s t : ℕ) → s < p.states → t < p.states → Alike p.class s t → at row s ≡ at row t → Alike q.class s t
  pub sorted : (t : ℕ) → t < i → at row (class_of q t) ≡ at row t
  pub exact : (v : Formula → ℕ → Bool) → Boolean v → Values v p f row → Exact v p → Exact v q
  pub shallow : (d : ℕ) → nesting f ≤ d → Shallow d p → Shallow d q

beq_eq : (a b : Bool) → beq a b ≡ true → a ≡ b
beq_eq true true h = refl
beq_eq true false h = sym h
beq_eq false true h = h
beq_eq false false h = refl

-- A state that is not the least of its class: there are fewer classes than states.
pub odd_fewer : (p : Partition) (s : ℕ) (row : List Bool) → Odd p s row → leaders p.class p.states < p.states
unfolding leaders
odd_fewer p s row o =
    let e : eqb (get_or p.class s 0) s ≡ false = ne_eqb _ _ (λ z.
    (let a : beq (at row s) (at row s) ≡ false = subst (λ (v : ℕ). beq (at row v) (at row s) ≡ false) z o.odd in
    let b = beq_refl (at row s) in let w : ◌≡◌ {A = ℕ} 0 1 = cc in omega arith)) in
    let l : bit (eqb (get_or p.class s 0) s) < 1 = rw e (omega arith) in
    omega (
      arith,
      sum_ones p.states,
      sum_less (λ i. bit (eqb (get_or p.class i 0) i)) (λ i. 1) p.states (λ i h. bit_le (eqb (get_or p.class i 0) i)) s o.state l,
    )

pub room_left : (p : Partition) (s : ℕ) (row : List Bool) → Odd p s row → length p.nodes.list.items + 4 ≤ 2048
room_left p s row o = omega (arith, odd_fewer p s row o, p.spare, p.few, p.counted)

pub keeps_refl : (p : Partition) → Keeps p p
keeps_refl p = record { states = refl; questions = refl; extends = extends_refl p.nodes.list.items; more = omega arith; still = λ h. refl }

pub keeps_trans : (p q r : Partition) → Keeps p q → Keeps q r → Keeps p r
keeps_trans p q r h k =
    record {
      states = k.states ∙ h.states;
      questions = k.questions ∙ h.questions;
      extends = extends_trans p.nodes.list.items q.nodes.list.items r.nodes.list.items h.extends k.extends;
      more = omega (arith, h.more, k.more);
      still = λ l. k.still (omega (arith, l, h.more)) ∙ h.still (omega (arith, l, k.more));
    }

-- A row that tells of the states before tells of them after.
tells_on : (v : Formula → ℕ → Bool) (p q : Partition) (f : Formula) (row : List Bool) → Keeps p q → Values v p f row → Values v q f row
tells_on v p q f row k w t h = w t (omega (arith, h, k.states))

pub scanned_none : (p : Partition) (f : Formula) (row : List Bool) → Scanned p p f row 0
scanned_none p f row =
    record { keeps = keeps_refl p; finer = λ s t hs ht e. e; kept = λ s t hs ht e r. e; sorted = λ t l. absurd (omega arith); exact = λ v w g old. old; shallow = λ d n old. old }

pub scanned_skip : (p q : Partition) (f : Formula) (row : List Bool) (i : ℕ) → Scanned p q f row i → beq (at row (class_of q i)) (at row i) ≡ true → Scanned p q f row (i + 1)
scanned_skip p q f row i h e =
    record {
      keeps = h.keeps;
      finer = h.finer;
      kept = h.kept;
      exact = h.exact;
      shallow = h.shallow;
      sorted = λ t l. elim (ℕ_discrete t i) [
        | yes z ↦ subst (λ (v : ℕ). at row (class_of q v) ≡ at row v) (sym z) (beq_eq _ _ e)
        | no d ↦ h.sorted t (omega arith)
      ];
    }

module _ (p q r : Partition) (f : Formula) (row : List Bool) (i : ℕ) (h : Scanned p q f row i) (o : Odd q i row) (d : Parted q r f i row) where
  abbrev n : ℕ
  n = q.states

  abbrev cl : ℕ → ℕ
  cl t = get_or q.class t 0

  abbrev new : ℕ → ℕ
  new t = get_or r.class t 0

  abbrev y : ℕ → Bool
  y t = beq (at row t) (at row i)

  abbrev c : ℕ
  c = get_or q.class i 0

  y0 : y i ≡ true
  y0 = beq_refl (at row i)

  to : (s : ℕ) → s < p.states → s < q.states
  to s l = omega (arith, l, h.keeps.states)

  first : (t : ℕ) → t < i → cl t ≡ c → y t ≡ false
  first t l e = ap (λ b. beq b (at row i)) (sym (o.first t l) ∙ ap (λ v. at row v) e) ∙ o.odd

  early : (t : ℕ) → t < i → at row (new t) ≡ at row t
  early t l = ⊎_elim
      (λ m. absurd (let a = first t l m.0 in let b = m.1 in let w : ◌≡◌ {A = ℕ} 0 1 = cc in omega arith))
      (λ m. ap (λ v. at row v) m.1 ∙ h.sorted t l)
      (ways n cl new y c i q.low q.led o.state refl y0 o.odd first d.class t (omega (arith, l, o.state)))

  pub scanned_step : Scanned p r f row (i + 1)
  scanned_step =
      record {
        keeps = keeps_trans p q r h.keeps d.keeps;
        finer = λ s t hs ht e. h.finer s t hs ht (one_before n cl new y c i q.low q.led o.state refl y0 o.odd first d.class s t (to s hs) (to t ht) e);
        kept = λ s t hs ht e rr. one_after n cl new y c i q.low q.led o.state refl y0 o.odd first d.class s t (to s hs) (to t ht) (h.kept s t hs ht e rr)
            (λ z. ap (λ b. beq b (at row i)) rr);
        sorted = λ t l. elim (ℕ_discrete t i) [
          | yes z ↦ subst (λ (v : ℕ). at row (new v) ≡ at row v) (sym z) (ap (λ v. at row v) (new_s0 n cl new y c i q.low q.led o.state refl y0 o.odd first d.class))
          | no e ↦ early t (omega arith)
        ];
        exact = λ v w g old. d.exact v w (tells_on v p q f row h.keeps g) (h.exact v w g old);
        shallow = λ e n old. d.shallow e n (h.shallow e n old);
      }

-- the test at `i` failed
pub odd_here : (p q : Partition) (f : Formula) (row : List Bool) (i : ℕ) (r : Bool) → Scanned p q f row i → i < p.states
    → r ≡ beq (at row (class_of q i)) (at row i) → r ≡ false → Odd q i row
odd_here p q f row i r h l e d = record { state = omega (arith, l, h.keeps.states); odd = sym e ∙ d; first = h.sorted }

-- From p to r the states below i were scanned, and the test stands where `name` says.
pub record Splitting (p r : Partition) (test : Node) (row : List Bool) (name : Option ℕ) (i : ℕ) : Type 0 where
  pub scanned : Scanned p r (own p test) row i
  pub ready : Ready r.questions r.nodes.list.items test name
  pub same : test_formula r.nodes.list.items test name ≡ own p test

pub splitting_none : (p : Partition) (test : Node) (row : List Bool) → Ready p.questions p.nodes.list.items test None → Splitting p p test row None 0
splitting_none p test row h = record { scanned = scanned_none p (own p test) row; ready = h; same = refl }

pub splitting_skip : (p q : Partition) (test : Node) (row : List Bool) (name : Option ℕ) (i : ℕ) → Splitting p q test row name i
    → beq (at row (class_of q i)) (at row i) ≡ true → Splitting p q test row name (i + 1)
splitting_skip p q test row name i h e = record { scanned = scanned_skip p q (own p test) row i h.scanned e; ready = h.ready; same = h.same }

pub splitting_step : (p q r : Partition) (test : Node) (row : List Bool) (name : Option ℕ) (x i : ℕ) → Splitting p q test row name i → Odd q i row
    → Parted q r (test_formula q.nodes.list.items test name) i row → Names r.nodes.list.items x (test_formula q.nodes.list.items test name)
    → Splitting p r test row (Some x) (i + 1)
splitting_step p q r test row name x i h o d n = record {
  scanned = scanned_step p q r (own p test) row i h.scanned o (subst (λ (f : Formula). Parted q r f i row) h.same d);
  ready = ready r.questions r.nodes.list.items test x _ n;
  same = n.yes ∙ h.same;
}

-- All states scanned: every class was split.
pub divided : (p q : Partition) (test : Node) (row : List Bool) (i : ℕ) → p.states ≤ i → Scanned p q (own p test) row i → Divided p q test row
divided p q test row i all h = record {
  keeps = h.keeps;
  classes = λ s t hs ht. (
    λ e. (h.finer s t hs ht e, sym (h.sorted s (omega (arith, all, hs))) ∙ ap (λ (c : ℕ). at row c) e ∙ h.sorted t (omega (arith, all, ht))),
    λ e. h.kept s t hs ht e.0 e.1,
  );
  exact = h.exact;
  shallow = h.shallow;
}

-- There are no more classes than states.
pub count_le : (p : Partition) → p.count ≤ p.states
unfolding leaders
count_le p = omega (arith, p.counted, sum_ones p.states, sum_mono (λ i. bit (eqb (get_or p.class i 0) i)) (λ i. 1) p.states (λ i h. bit_le (eqb (get_or p.class i 0) i)))
