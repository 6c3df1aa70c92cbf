-- One class of a partition is parted by a row: its table, its nodes and their formulas.
use Rattle.std.proofs.Common.{◌≡◌, ℕ, suc, ◌+◌, ◌<◌, ◌≤◌, Bool, true, false, cond, not, ◌&&◌, eqb, ◌≢◌, List, length, get_or, set, sym, refl, ap, ◌∙◌, subst, Option, arith}
use mathlib.Core.Bool.{beq}
use Rattle.std.proofs.lemmas.List.{get_or-set_same, get_or-set_other, length-set}
use Rattle.kripke.specs.Ctl.{Formula, nesting}
use Rattle.kripke.specs.Nodes.{formula}
use Rattle.kripke.specs.declared.node.Node.{Node}
use Rattle.kripke.specs.Classes.{Low, Led}
use Rattle.refine.specs.Classes.{Here, leaders}
use Rattle.std.specs.Int.{from_bool}
use Rattle.refine.specs.Growth.{Orderly, Extends, Boolean, Ready, Named, Conjoined}
use Rattle.refine.specs.Steps.{at, renumbered, Odd}
use Rattle.refine.specs.declared.partition.Partition.{Partition}
use Rattle.refine.proofs.Grown.{extends_trans}
use Rattle.refine.proofs.Step.{low_after, led_after, exact_after, each_after, leaders_after, cn, apart}

beq_true : (b : Bool) → beq b true ≡ b
beq_true true = refl
beq_true false = refl

beq_false : (b : Bool) → beq b false ≡ not b
beq_false true = refl
beq_false false = refl

not_not : (b : Bool) → not (not b) ≡ b
not_not true = refl
not_not false = refl

pub beq_refl : (b : Bool) → beq b b ≡ true
beq_refl true = refl
beq_refl false = refl

-- The tables before and after, and what made them so.
pub record Cut : Type 0 where
  pub q : ℕ
  pub n : ℕ
  pub cl : List ℕ
  pub nd : List ℕ
  pub ns : List Node
  pub low : Low n cl
  pub led : Led n cl
  pub here : Here n cl nd ns
  pub ordered : Orderly q ns
  pub row : List Bool
  pub x : ℕ
  pub s : ℕ
  pub state : s < n
  pub fit : n ≤ length nd
  pub odd : beq (at row (get_or cl s 0)) (at row s) ≡ false
  pub first : (t : ℕ) → t < s → at row (get_or cl t 0) ≡ at row t
  pub inside : suc x < length ns
  pub stays : ℕ
  pub leaves : ℕ
  pub stays_is : stays ≡ cond (at row s) (suc x) x
  pub leaves_is : leaves ≡ cond (at row s) x (suc x)
  pub m1 : List Node
  pub ms : List Node
  pub stay : ℕ
  pub leave : ℕ
  pub stay_made : Conjoined ns m1 (get_or nd (get_or cl s 0) 0) stays stay
  pub leave_made : Conjoined m1 ms (get_or nd (get_or cl s 0) 0) leaves leave
  pub new : List ℕ
  pub is : (t : ℕ) → t < n → get_or new t 0 ≡ renumbered cl row (get_or cl s 0) s t

pub from_bool_le : (b : Bool) → from_bool b ≤ 1
from_bool_le true = omega arith
from_bool_le false = omega arith

-- The number of the test where the side is yes, and of its negation where it is no; or the other way round.
pub side_number : (b : Bool) (x k : ℕ) → k ≡ from_bool b → x + k ≡ cond b (suc x) x
side_number true x k e = omega (arith, e)
side_number false x k e = omega (arith, e)

pub other_number : (b : Bool) (x k : ℕ) → k ≡ from_bool (not b) → x + k ≡ cond b x (suc x)
other_number true x k e = omega (arith, e)
other_number false x k e = omega (arith, e)

abbrev pub cut : (p : Partition) (s : ℕ) (row : List Bool) → Odd p s row → p.states ≤ length p.node
    → (test : Node) (name : Option ℕ) → Ready p.questions p.nodes.list.items test name
    → (ns : List Node) (x : ℕ) → Named p.nodes.list.items ns test name x
    → (i j : ℕ) → i ≡ from_bool (at row s) → j ≡ from_bool (not (at row s))
    → (m1 ms : List Node) (stay leave : ℕ) → Conjoined ns m1 (get_or p.node (get_or p.class s 0) 0) (x + i) stay
    → Conjoined m1 ms (get_or p.node (get_or p.class s 0) 0) (x + j) leave
    → (new : List ℕ) → ((t : ℕ) → t < p.states → get_or new t 0 ≡ renumbered p.class row (get_or p.class s 0) s t) → Cut
cut p s row o fit test name ready ns x named i j i_is j_is m1 ms stay leave j1 j2 new is =
    record {
      q = p.questions;
      n = p.states;
      cl = p.class;
      nd = p.node;
      ns = ns;
      low = p.low;
      led = p.led;
      here = λ t h. omega (arith, p.here t h, named.extends.longer);
      ordered = named.orderly p.questions ready p.orderly;
      row = row;
      x = x;
      s = s;
      state = o.state;
      fit = fit;
      odd = o.odd;
      first = o.first;
      inside = named.names.inside;
      stays = x + i;
      leaves = x + j;
      stays_is = side_number (at row s) x i i_is;
      leaves_is = other_number (at row s) x j j_is;
      m1 = m1;
      ms = ms;
      stay = stay;
      leave = leave;
      stay_made = j1;
      leave_made = j2;
      new = new;
      is = is;
    }

module _ (k : Cut) where
  abbrev c : ℕ
  c = get_or k.cl k.s 0

  abbrev y : ℕ → Bool
  y t = beq (at k.row t) (at k.row k.s)

  abbrev of : List ℕ → ℕ → ℕ
  of l t = get_or l t 0

  abbrev nd' : List ℕ
  nd' = set (set k.nd (get_or k.cl k.s 0) k.stay) k.s k.leave

  first' : (t : ℕ) → t < k.s → of k.cl t ≡ c → y t ≡ false
  first' t l e = ap (λ b. beq b (at k.row k.s)) (sym (k.first t l) ∙ ap (λ v. at k.row v) e) ∙ k.odd

  y0 : y k.s ≡ true
  y0 = beq_refl (at k.row k.s)

  c<n : c < k.n
  c<n = cn k.n (of k.cl) (of k.new) y c k.s k.low k.led k.state refl y0 k.odd first' k.is

  c≢s : c ≢ k.s
  c≢s e = apart k.n (of k.cl) (of k.new) y c k.s k.low k.led k.state refl y0 k.odd first' k.is (sym e)

  pub part_extends : Extends k.ns k.ms
  part_extends = extends_trans k.ns k.m1 k.ms k.stay_made.extends k.leave_made.extends

  pub part_nodes : length k.ms ≤ length k.ns + 2
  part_nodes = omega (arith, k.stay_made.count, k.leave_made.count)

  pub part_orderly : Orderly k.q k.ms
  part_orderly = k.leave_made.orderly k.q (k.stay_made.orderly k.q k.ordered)

  whole_in : get_or k.nd c 0 < length k.ns
  whole_in = k.here k.s k.state

  leaves_in : k.leaves < length k.ns
  leaves_in = go (at k.row k.s) k.leaves_is
    where
      go : (b : Bool) → k.leaves ≡ cond b k.x (suc k.x) → k.leaves < length k.ns
      go true e = omega (arith, e, k.inside)
      go false e = omega (arith, e, k.inside)

  node_c : get_or nd' c 0 ≡ k.stay
  node_c = get_or-set_other (set k.nd c k.stay) k.s c k.leave 0 c≢s ∙ get_or-set_same k.nd c k.stay 0 (omega (arith, c<n, k.fit))

  node_s : get_or nd' k.s 0 ≡ k.leave
  node_s = get_or-set_same (set k.nd c k.stay) k.s k.leave 0 (omega (arith, length-set k.nd c k.stay, k.state, k.fit))

  node_other : (e : ℕ) → (¬ e ≡ c) → (¬ e ≡ k.s) → get_or nd' e 0 ≡ get_or k.nd e 0
  node_other e p q = get_or-set_other (set k.nd c k.stay) k.s e k.leave 0 q ∙ get_or-set_other k.nd c e k.stay 0 p

  stay_same : formula k.ms k.stay ≡ formula k.m1 k.stay
  stay_same = k.leave_made.extends.same k.stay k.stay_made.inside

  same_formula : (t : ℕ) → t < k.n → (¬ of k.cl t ≡ c) → (¬ of k.cl t ≡ k.s)
      → formula k.ms (get_or nd' (of k.cl t) 0) ≡ formula k.ns (get_or k.nd (of k.cl t) 0)
  same_formula t h p q = ap (λ i. formula k.ms i) (node_other (of k.cl t) p q) ∙ part_extends.same (get_or k.nd (of k.cl t) 0) (k.here t h)

  pub part_low : Low k.n k.new
  part_low = low_after k.n (of k.cl) (of k.new) y c k.s k.low k.led k.state refl y0 k.odd first' k.is

  pub part_led : Led k.n k.new
  part_led = led_after k.n (of k.cl) (of k.new) y c k.s k.low k.led k.state refl y0 k.odd first' k.is

  pub part_here : Here k.n k.new nd' k.ms
  part_here = each_after k.n (of k.cl) (of k.new) y c k.s k.low k.led k.state refl y0 k.odd first' k.is
      (λ e. get_or nd' e 0 < length k.ms) (omega (arith, node_c, k.stay_made.inside, k.leave_made.extends.longer)) (omega (arith, node_s, k.leave_made.inside))
      (λ t h p q. omega (arith, node_other (of k.cl t) p q, k.here t h, part_extends.longer))

  pub part_leaders : leaders k.new k.n ≡ suc (leaders k.cl k.n)
  unfolding leaders
  part_leaders = leaders_after k.n (of k.cl) (of k.new) y c k.s k.low k.led k.state refl y0 k.odd first' k.is

  pub part_shallow : (d : ℕ) → nesting (formula k.ns k.x) ≤ d → nesting (formula k.ns (suc k.x)) ≤ d
      → ((t : ℕ) → t < k.n → nesting (formula k.ns (get_or k.nd (of k.cl t) 0)) ≤ d)
      → (t : ℕ) → t < k.n → nesting (formula k.ms (get_or nd' (of k.new t) 0)) ≤ d
  part_shallow d py pn old = each_after k.n (of k.cl) (of k.new) y c k.s k.low k.led k.state refl y0 k.odd first' k.is
      (λ e. nesting (formula k.ms (get_or nd' e 0)) ≤ d)
      (subst (λ (i : ℕ). nesting (formula k.ms i) ≤ d) (sym node_c) (subst (λ (f : Formula). nesting f ≤ d) (sym stay_same)
      (k.stay_made.nests d (old k.s k.state) (go_stay (at k.row k.s) k.stays_is))))
      (subst (λ (i : ℕ). nesting (formula k.ms i) ≤ d) (sym node_s)
      (k.leave_made.nests d
      (subst (λ (f : Formula). nesting f ≤ d) (sym (k.stay_made.extends.same (get_or k.nd c 0) whole_in)) (old k.s k.state))
      (subst (λ (f : Formula). nesting f ≤ d) (sym (k.stay_made.extends.same k.leaves leaves_in)) (go_leave (at k.row k.s) k.leaves_is))))
      (λ t h p q. subst (λ (f : Formula). nesting f ≤ d) (sym (same_formula t h p q)) (old t h))
    where
      go_stay : (b : Bool) → k.stays ≡ cond b (suc k.x) k.x → nesting (formula k.ns k.stays) ≤ d
      go_stay true e = subst (λ (i : ℕ). nesting (formula k.ns i) ≤ d) (sym e) pn
      go_stay false e = subst (λ (i : ℕ). nesting (formula k.ns i) ≤ d) (sym e) py

      go_leave : (b : Bool) → k.leaves ≡ cond b k.x (suc k.x) → nesting (formula k.ns k.leaves) ≤ d
      go_leave true e = subst (λ (i : ℕ). nesting (formula k.ns i) ≤ d) (sym e) py
      go_leave false e = subst (λ (i : ℕ). nesting (formula k.ns i) ≤ d) (sym e) pn

  module _ (v : Formula → ℕ → Bool) (w : Boolean v)
      (ys : (t : ℕ) → t < k.n → v (formula k.ns k.x) t ≡ at k.row t)
      (ns' : (t : ℕ) → t < k.n → v (formula k.ns (suc k.x)) t ≡ not (at k.row t)) where
    leaves_y : (t : ℕ) → t < k.n → v (formula k.ns k.leaves) t ≡ y t
    leaves_y t h = go (at k.row k.s) k.leaves_is
      where
        go : (b : Bool) → k.leaves ≡ cond b k.x (suc k.x) → v (formula k.ns k.leaves) t ≡ beq (at k.row t) b
        go true e = ap (λ i. v (formula k.ns i) t) e ∙ ys t h ∙ sym (beq_true (at k.row t))
        go false e = ap (λ i. v (formula k.ns i) t) e ∙ ns' t h ∙ sym (beq_false (at k.row t))

    stays_y : (t : ℕ) → t < k.n → v (formula k.ns k.stays) t ≡ not (y t)
    stays_y t h = go (at k.row k.s) k.stays_is
      where
        go : (b : Bool) → k.stays ≡ cond b (suc k.x) k.x → v (formula k.ns k.stays) t ≡ not (beq (at k.row t) b)
        go true e = ap (λ i. v (formula k.ns i) t) e ∙ ns' t h ∙ ap not (sym (beq_true (at k.row t)))
        go false e = ap (λ i. v (formula k.ns i) t) e ∙ ys t h ∙ sym (not_not (at k.row t)) ∙ ap not (sym (beq_false (at k.row t)))

    gc : (t : ℕ) → t < k.n → v (formula k.ms (get_or nd' c 0)) t ≡ (v (formula k.ns (get_or k.nd c 0)) t && not (y t))
    gc t h = ap (λ i. v (formula k.ms i) t) node_c ∙ ap (λ (f : Formula). v f t) stay_same
        ∙ k.stay_made.means k.q k.ordered v w t ∙ ap (λ b. v (formula k.ns (get_or k.nd c 0)) t && b) (stays_y t h)

    g0 : (t : ℕ) → t < k.n → v (formula k.ms (get_or nd' k.s 0)) t ≡ (v (formula k.ns (get_or k.nd c 0)) t && y t)
    g0 t h = ap (λ i. v (formula k.ms i) t) node_s ∙ k.leave_made.means k.q (k.stay_made.orderly k.q k.ordered) v w t
        ∙ ap (λ (f : Formula). v f t && v (formula k.m1 k.leaves) t) (k.stay_made.extends.same (get_or k.nd c 0) whole_in)
        ∙ ap (λ (f : Formula). v (formula k.ns (get_or k.nd c 0)) t && v f t) (k.stay_made.extends.same k.leaves leaves_in)
        ∙ ap (λ b. v (formula k.ns (get_or k.nd c 0)) t && b) (leaves_y t h)

    pub part_exact : ((t r : ℕ) → t < k.n → r < k.n → v (formula k.ns (get_or k.nd (of k.cl t) 0)) r ≡ eqb (of k.cl r) (of k.cl t))
        → (t r : ℕ) → t < k.n → r < k.n → v (formula k.ms (get_or nd' (of k.new t) 0)) r ≡ eqb (of k.new r) (of k.new t)
    part_exact old t r ht hr = exact_after k.n (of k.cl) (of k.new) y c k.s k.low k.led k.state refl y0 k.odd first' k.is
        (λ e t. v (formula k.ns (get_or k.nd e 0)) t) (λ e t. v (formula k.ms (get_or nd' e 0)) t)
        old gc g0 (λ t r ht hr p q. ap (λ (f : Formula). v f r) (same_formula t ht p q)) t r ht hr
