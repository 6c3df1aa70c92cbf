-- One round: the classes split by each class before, and what that makes of states and their successors.
use Rattle.std.proofs.Common.{◌≡◌, ℕ, suc, ◌+◌, ◌<◌, ◌≤◌, Bool, T, ◌↔◌, eqb, List, [], ◌∷◌, length, get_or, sym, refl, ap, ◌∙◌, subst, arith}
use native.Mathlib.Decide.{ℕ_discrete}
use Rattle.std.proofs.Math.Bool.{or-false, or_self}
use Rattle.std.proofs.lemmas.Bool.{eq-eqb, eqb-true}
use Rattle.kripke.specs.Structure.{Kripke, Member, Closed, successors}
use Rattle.kripke.specs.Tests.{some}
use Rattle.kripke.specs.Ctl.{Formula, EX, nesting}
use Rattle.kripke.specs.Rounds.{Matched, total}
use Rattle.kripke.specs.Union.{both}
use Rattle.kripke.specs.Classes.{Alike, Refined}
use Rattle.kripke.proofs.Reflect.{some-T}
use Rattle.kripke.proofs.Unions.{both_size, both_closed}
use Rattle.refine.specs.Tests.{test, hits}
use Rattle.refine.specs.Steps.{at, node_formula, class_of, class_formula, Exact, Shallow, Keeps, Divided}
use Rattle.refine.specs.Rounding.{Rounded, Tried}
use Rattle.refine.specs.declared.partition.Partition.{Partition}
use Rattle.refine.proofs.Somes.{some_ext, T-yes, bools}
use Rattle.refine.proofs.Scan.{keeps_refl, keeps_trans}
use Rattle.refine.proofs.Begins.{test_boolean}

-- From p to q the classes were split by each class of p below i: which states have a successor there.
pub record Refining (u : Kripke) (p q : Partition) (i : ℕ) : Type 0 where
  pub keeps : Keeps p q
  pub finer : (s t : ℕ) → s < p.states → t < p.states → Alike q.class s t → Alike p.class s t
  pub kept : (s t : ℕ) → s < p.states → t < p.states → Alike p.class s t
      → ((c : ℕ) → c < p.states → class_of p c ≡ c → hits u p.class c s ≡ hits u p.class c t) → Alike q.class s t
  pub parted : (c s t : ℕ) → c < i → class_of p c ≡ c → s < p.states → t < p.states → Alike q.class s t
      → hits u p.class c s ≡ hits u p.class c t
  pub exact : Exact (test u) p → Exact (test u) q
  pub shallow : (d : ℕ) → Shallow d p → Shallow (suc d) q

module _ (u : Kripke) (p q : Partition) (i : ℕ) (h : Refining u p q i) (c name : ℕ) (cn : c < p.states) (lead : class_of p c ≡ c) (nm : name ≡ get_or p.node c 0) where
  here : name < length p.nodes.list.items
  here = rw nm (subst (λ (v : ℕ). get_or p.node v 0 < length p.nodes.list.items) lead (p.here c cn))

  same : node_formula q name ≡ class_formula p c
  same = h.keeps.extends.same name here ∙ ap (λ (j : ℕ). node_formula p j) (nm ∙ ap (λ (v : ℕ). get_or p.node v 0) (sym lead))

  ex_shallow : (d : ℕ) → Shallow d p → nesting (EX (node_formula q name)) ≤ suc d
  ex_shallow d old = subst (λ (f : Formula). suc (nesting f) ≤ suc d) (sym same) (omega (arith, old c cn))

  -- EX of the node of class c is true where a successor is in class c.
  ex_tests : ((s t : ℕ) → s < p.states → Member t (successors u s) → t < p.states) → Exact (test u) p
      → (t : ℕ) → t < p.states → test u (EX (node_formula q name)) t ≡ hits u p.class c t
  ex_tests inside old t l = some_ext _ _ (successors u t) (λ v m.
      ap (λ (f : Formula). test u f v) same ∙ old c v cn (inside t v l m) ∙ ap (λ (w : ℕ). eqb (class_of p v) w) lead)

  pub refining_step : ((s t : ℕ) → s < p.states → Member t (successors u s) → t < p.states) → c ≡ i → (r : Partition) (row : List Bool)
      → ((s : ℕ) → s < p.states → at row s ≡ hits u p.class c s) → Divided q r (record { code = 5; a = name; b = 0 }) row → Refining u p r (i + 1)
  refining_step inside ci r row rows d =
      record {
        keeps = keeps_trans p q r h.keeps d.keeps;
        finer = λ s t hs ht e. h.finer s t hs ht ((d.classes s t (to s hs) (to t ht)).0 e).0;
        kept = λ s t hs ht e k. (d.classes s t (to s hs) (to t ht)).1 (h.kept s t hs ht e k, rows s hs ∙ k c cn lead ∙ sym (rows t ht));
        parted = λ b s t lb leadb hs ht e. elim (ℕ_discrete b c) [
          | yes z ↦ subst (λ (v : ℕ). hits u p.class v s ≡ hits u p.class v t) (sym z) (sym (rows s hs) ∙ ((d.classes s t (to s hs) (to t ht)).0 e).1 ∙ rows t ht)
          | no z ↦ h.parted b s t (omega (arith, ci)) leadb hs ht ((d.classes s t (to s hs) (to t ht)).0 e).0
        ];
        exact = λ old. d.exact (test u) (test_boolean u) (λ t l. let l' : t < p.states = omega (arith, l, h.keeps.states) in ex_tests inside old t l' ∙ sym (rows t l')) (h.exact old);
        shallow = λ e old. d.shallow (suc e) (ex_shallow e old) (h.shallow e old);
      }
    where
      to : (s : ℕ) → s < p.states → s < q.states
      to s k = omega (arith, k, h.keeps.states)

pub refining_none : (u : Kripke) (p : Partition) → Refining u p p 0
refining_none u p = record {
  keeps = keeps_refl p;
  finer = λ s t hs ht e. e;
  kept = λ s t hs ht e k. e;
  parted = λ c s t l. absurd (omega arith);
  exact = λ old. old;
  shallow = λ d old t l. omega (arith, old t l);
}

-- A class by which the classes of p need not be split.
pub refining_skip : (u : Kripke) (p q : Partition) (i : ℕ) → Refining u p q i
    → (class_of p i ≡ i → (s t : ℕ) → s < p.states → t < p.states → Alike p.class s t → hits u p.class i s ≡ hits u p.class i t) → Refining u p q (i + 1)
refining_skip u p q i h same =
    record {
      keeps = h.keeps;
      finer = h.finer;
      kept = h.kept;
      exact = h.exact;
      shallow = h.shallow;
      parted = λ c s t l lead hs ht e. elim (ℕ_discrete c i) [
        | yes z ↦ subst (λ (v : ℕ). hits u p.class v s ≡ hits u p.class v t) (sym z) (same (subst (λ (v : ℕ). class_of p v ≡ v) z lead) s t hs ht (h.finer s t hs ht e))
        | no z ↦ h.parted c s t (omega arith) lead hs ht e
      ];
    }

-- A class that has not changed has the same states before it.
hits_same : (u : Kripke) (n : ℕ) (before class : List ℕ) (c : ℕ) → ((s t : ℕ) → s < n → Member t (successors u s) → t < n)
    → ((s : ℕ) → s < n → (get_or class s 0 ≡ c) ↔ (get_or before s 0 ≡ c)) → (s : ℕ) → s < n → hits u class c s ≡ hits u before c s
hits_same u n before class c inside same s l = some_ext _ _ (successors u s) (λ v m.
    bools _ _
    (λ e. subst T (sym (eq-eqb _ _ ((same v (inside s v l m)).0 (eqb-true _ _ (T-yes _ e))))) tt)
    (λ e. subst T (sym (eq-eqb _ _ ((same v (inside s v l m)).1 (eqb-true _ _ (T-yes _ e))))) tt))

-- A class that has not changed since the classes were split by it splits none.
pub stale : (u : Kripke) (n : ℕ) (before class : List ℕ) (c : ℕ) → ((s t : ℕ) → s < n → Member t (successors u s) → t < n)
    → Tried u n before class → ((s : ℕ) → s < n → (get_or class s 0 ≡ c) ↔ (get_or before s 0 ≡ c))
    → (s t : ℕ) → s < n → t < n → Alike class s t → hits u class c s ≡ hits u class c t
stale u n before class c inside tried same s t hs ht e =
    hits_same u n before class c inside same s hs ∙ tried c s t hs ht e ∙ sym (hits_same u n before class c inside same t ht)

-- Split by every class, two states are in one class where each successor of either has a successor of the other in its class.
pub inside_both : (a b : Kripke) → Closed a → Closed b → (p : Partition) → p.states ≡ total a b
    → (s t : ℕ) → s < p.states → Member t (successors (both a b) s) → t < p.states
inside_both a b la lb p long s t l m = omega (arith, long, both_size a b, (both_closed a b la lb).inside s t (omega (arith, long, both_size a b)) m)

-- Where each successor of one state has one of the other in its class, the other has a successor in each class in which the one has one.
over : (u : Kripke) (class : List ℕ) (c x y : ℕ) → Matched (Alike class) u u x y → T (hits u class c x) → T (hits u class c y)
over u class c x y f z =
    let r = (some-T (λ w. eqb (get_or class w 0) c) (successors u x)).0 z in
    let g = f r.0 r.1 in
    (some-T (λ w. eqb (get_or class w 0) c) (successors u y)).1 (g.0, g.1, subst (λ (v : ℕ). T (eqb v c)) g.2 r.2)

agreed : (u : Kripke) (class : List ℕ) (c x y : ℕ) → Matched (Alike class) u u x y → ((w : ℕ) → Member w (successors u y) → (v : ℕ) × Member v (successors u x) × Alike class v w)
    → hits u class c x ≡ hits u class c y
agreed u class c x y f g = bools _ _ (over u class c x y f) (over u class c y x (λ w m. let r = g w m in (r.0, r.1, sym r.2)))

-- After a round the classes before it have split what they can.
pub now_tried : (a b : Kripke) (n : ℕ) (class new : List ℕ) → n ≡ total a b → Refined a b class new → Tried (both a b) n class new
now_tried a b n class new long h c s t hs ht e =
    let m = (h s t (omega (arith, long, hs)) (omega (arith, long, ht))).0 e in
    agreed (both a b) class c s t m.1 m.2

-- Where all states are in one class, each has a successor there.
all_hit : (class : List ℕ) → ((s : ℕ) → get_or class s 0 ≡ 0) → (c : ℕ) (ts : List ℕ) → 1 ≤ length ts → some (λ v. eqb (get_or class v 0) c) ts ≡ eqb 0 c
all_hit class zero c [] l = absurd (omega (arith, l))
all_hit class zero c (t ∷ []) l = rw (zero t) (or-false (eqb 0 c))
all_hit class zero c (t ∷ r ∷ ts) l = rw (zero t, all_hit class zero c (r ∷ ts) (omega arith)) (or_self (eqb 0 c))

pub open_tried : (u : Kripke) (n : ℕ) (one class : List ℕ) → ((s : ℕ) → get_or one s 0 ≡ 0) → ((s : ℕ) → s < n → 1 ≤ length (successors u s)) → Tried u n one class
open_tried u n one class zero onward c s t hs ht e = all_hit one zero c (successors u s) (onward s hs) ∙ sym (all_hit one zero c (successors u t) (onward t ht))

module _ (a b : Kripke) (la : Closed a) (lb : Closed b) (p q : Partition) (long : p.states ≡ total a b) (h : Refining (both a b) p q p.states) where
  mate : (x y : ℕ) → x < p.states → y < p.states → Alike q.class x y → (v : ℕ) → Member v (successors (both a b) x)
      → (w : ℕ) × Member w (successors (both a b) y) × (class_of p w ≡ class_of p v)
  mate x y hx hy e v m =
      let hv : v < p.states = inside_both a b la lb p long x v hx m in
      let c : ℕ = class_of p v in
      let k = h.parted c x y (omega (arith, hv, p.low v hv)) (p.led v hv) hx hy e in
      let z = (some-T (λ w. eqb (class_of p w) c) (successors (both a b) x)).1 (v, m, subst T (sym (eq-eqb c c refl)) tt) in
      let r = (some-T (λ w. eqb (class_of p w) c) (successors (both a b) y)).0 (subst T k z) in
      (r.0, r.1, eqb-true _ _ (T-yes _ r.2))

  pub refined : Refined a b p.class q.class
  refined x y hx hy =
      let kx : x < p.states = omega (arith, long, hx) in
      let ky : y < p.states = omega (arith, long, hy) in (
        λ e. (
          h.finer x y kx ky e,
          (λ v m. let r = mate x y kx ky e v m in (r.0, r.1, sym r.2)),
          (λ w m. mate y x ky kx (sym e) w m),
        ),
        λ e. h.kept x y kx ky e.0 (λ c cn lead. agreed (both a b) p.class c x y e.1 e.2),
      )

  pub rounded : Rounded a b (both a b) p q
  rounded = record { keeps = h.keeps; refined = refined; exact = h.exact; shallow = h.shallow }
