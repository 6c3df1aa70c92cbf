-- Tables that grow: a test with its negation, and conjunctions.
use Rattle.std.proofs.Common.{◌≡◌, ℕ, suc, ◌<◌, ◌≤◌, ◌&&◌, List, [], ◌∷◌, ◌++◌, length, get_or, sym, refl, ap, ◌∙◌, subst, Some, None, arith}
use Rattle.std.proofs.lemmas.List.{length_push}
use Rattle.kripke.specs.Ctl.{Formula, truth, and, nesting}
use Rattle.kripke.specs.Nodes.{made, formulas, formula, blank_node}
use Rattle.kripke.specs.declared.node.Node.{Node}
use Rattle.kripke.proofs.Tables.{formula_keeps, formula_new}
use Rattle.refine.specs.Growth.{Extends, Names, Ready, Named, Conjoined}
use Rattle.refine.proofs.Orders.{T_and, lt_T, node_is, made_at, orderly_push}

pub extends_refl : (ns : List Node) → Extends ns ns
extends_refl ns = record { longer = omega arith; same = λ i h. refl }

pub extends_trans : (ns ms ls : List Node) → Extends ns ms → Extends ms ls → Extends ns ls
extends_trans ns ms ls p q = record { longer = omega (arith, p.longer, q.longer); same = λ i h. q.same i (omega (arith, p.longer)) ∙ p.same i h }

pub extends_push : (ns ms : List Node) (n : Node) → ms ≡ ns ++ n ∷ [] → Extends ns ms
extends_push ns ms n e = subst (λ (z : List Node). Extends ns z) (sym e) (record { longer = omega (arith, length_push ns n); same = λ i h. formula_keeps ns (n ∷ []) i h })

pub push_new : (ns ms : List Node) (n : Node) (i : ℕ) → ms ≡ ns ++ n ∷ [] → length ns ≡ i → formula ms i ≡ made (formulas ns) n
push_new ns ms n i e l = ap (λ (z : List Node). formula z i) e ∙ formula_new ns n i l

pub push_longer : (ns ms : List Node) (n : Node) → ms ≡ ns ++ n ∷ [] → length ms ≡ suc (length ns)
push_longer ns ms n e = omega (arith, ap length e, length_push ns n)

pub begun : (ns m1 ms : List Node) (test : Node) (x : ℕ) → length ns ≡ x → m1 ≡ ns ++ test ∷ [] → ms ≡ m1 ++ record { code = 2; a = x; b = 0 } ∷ [] → Named ns ms test None x
begun ns m1 ms test x l e1 e2 =
    let n2 : Node = record { code = 2; a = x; b = 0 } in
    let l1 = push_longer ns m1 test e1 in
    let l2 = push_longer m1 ms n2 e2 in
    let x2 = extends_push m1 ms n2 e2 in
    record {
      extends = extends_trans ns m1 ms (extends_push ns m1 test e1) x2;
      count = omega (arith, l1, l2);
      names = record {
        inside = omega (arith, l, l1, l2);
        yes = x2.same x (omega (arith, l, l1)) ∙ push_new ns m1 test x e1 l;
        no = push_new m1 ms n2 (suc x) e2 (omega (arith, l, l1)) ∙ ap Formula.not (push_new ns m1 test x e1 l);
      };
      orderly = λ q f h. orderly_push q m1 ms n2 e2 (orderly_push q ns m1 test e1 h f) (T_and _ _ (lt_T x (length m1) (omega (arith, l, l1))) tt);
    }

-- A formula and its negation still stand in a table that has grown.
pub names_on : (ns ms : List Node) (x : ℕ) (f : Formula) → Extends ns ms → Names ns x f → Names ms x f
names_on ns ms x f e n = record {
  inside = omega (arith, n.inside, e.longer);
  yes = e.same x (omega (arith, n.inside)) ∙ n.yes;
  no = e.same (suc x) n.inside ∙ n.no;
}

-- The number is known: nothing is added.
pub known : (ns : List Node) (test : Node) (x : ℕ) → Names ns x (formula ns x) → Named ns ns test (Some x) x
known ns test x n = record { extends = extends_refl ns; count = omega arith; names = n; orderly = λ q r h. h }

-- The test stands at its number, also for the next class that it parts.
pub ready : (q : ℕ) (ns : List Node) (test : Node) (x : ℕ) (f : Formula) → Names ns x f → Ready q ns test (Some x)
ready q ns test x f n = record { inside = n.inside; yes = refl; no = n.no ∙ ap Formula.not (sym n.yes) }

-- Where a is `true`, the conjunction is b.
pub conjoined_true : (ns : List Node) (a b : ℕ) → a < length ns → b < length ns → (get_or ns a blank_node).code ≡ 0 → Conjoined ns ns a b b
conjoined_true ns a b la lb e =
    record {
      extends = extends_refl ns;
      count = omega arith;
      inside = lb;
      orderly = λ q h. h;
      means = λ q h v w s.
          (let t : formula ns a ≡ truth = node_is q ns h a la ∙ made_at (formulas ns) (get_or ns a blank_node) 0 e in
          sym (ap (λ (f : Formula). v f s && v (formula ns b) s) t ∙ ap (λ z. z && v (formula ns b) s) (w.always s)));
      nests = λ d p r. r;
    }

pub conjoined_new : (ns ms : List Node) (a b r : ℕ) → a < length ns → b < length ns → length ns ≡ r → ms ≡ ns ++ record { code = 3; a = a; b = b } ∷ [] → Conjoined ns ms a b r
conjoined_new ns ms a b r la lb l e =
    let n : Node = record { code = 3; a = a; b = b } in
    let is : formula ms r ≡ and (formula ns a) (formula ns b) = push_new ns ms n r e l in
    let long = push_longer ns ms n e in
    record {
      extends = extends_push ns ms n e;
      count = omega (arith, long);
      inside = omega (arith, l, long);
      orderly = λ q h. orderly_push q ns ms n e h (T_and _ _ (lt_T a (length ns) la) (lt_T b (length ns) lb));
      means = λ q h v w s. ap (λ (f : Formula). v f s) is ∙ w.joins (formula ns a) (formula ns b) s;
      nests = λ d p k. subst (λ (f : Formula). nesting f ≤ d) (sym is) (omega (arith, p, k));
    }
