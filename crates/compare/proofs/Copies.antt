-- Copying the marked nodes in their order, renumbered.
use Rattle.std.proofs.Common.{◌≡◌, ℕ, suc, ◌+◌, ◌-◌, ◌<◌, ◌≤◌, Bool, true, false, cond, T, ◌≢◌, List, [], ◌∷◌, ◌++◌, length, get_or, set, sym, refl, ap, ◌∙◌, subst, arith, get_or-set_other, get_or-set_same, below_more}
use Rattle.std.proofs.lemmas.List.{get_or_append_left, get_or_push, length_push}
use Rattle.kripke.specs.Nodes.{blank_node, made, formulas, formula}
use Rattle.refine.specs.Growth.{next_node, Orderly}
use Rattle.compare.specs.Reach.{uses_a, uses_b, Reach, here, by_a, by_b, Refs, Marking}
use Rattle.compare.specs.Pruned.{rename, Pruned}
use Rattle.kripke.specs.declared.node.Node.{Node}
use Rattle.kripke.proofs.Tables.{formula_keeps, formula_new}
use Rattle.refine.proofs.Orders.{node_is, orderly_push}
use Rattle.compare.proofs.Renames.{never, rename_made, names_a, names_b, rename_fits, rename_same}
use Rattle.compare.proofs.Marks.{kept_reach, reach_low}

-- The marked nodes below i are ms, in their order; `to` has the new number of each.
pub record Copied (q : ℕ) (ns : List Node) (ks : List Bool) (i : ℕ) (to : List ℕ) (ms : List Node) : Type 0 where
  pub few : length ms ≤ i
  pub orderly : Orderly q ms
  pub each : (j : ℕ) → j < i → get_or ks j false ≡ true → get_or to j 0 < length ms
  pub same : (j : ℕ) → j < i → get_or ks j false ≡ true → formula ms (get_or to j 0) ≡ formula ns j
  pub image : (j : ℕ) → j < i → get_or ks j false ≡ true → get_or ms (get_or to j 0) blank_node ≡ rename to (get_or ns j blank_node)
  pub onto : (k : ℕ) → k < length ms → (j : ℕ) × (j < i) × (get_or ks j false ≡ true) × (get_or to j 0 ≡ k)
  pub last : (j : ℕ) → suc j ≡ i → get_or ks j false ≡ true → suc (get_or to j 0) ≡ length ms

pub copied_skip : (qs : ℕ) (ns : List Node) (ks : List Bool) (i : ℕ) (to : List ℕ) (ms : List Node) → get_or ks i false ≡ false → Copied qs ns ks i to ms → Copied qs ns ks (i + 1) to ms
copied_skip qs ns ks i to ms f c = record {
  few = omega (arith, c.few);
  orderly = c.orderly;
  each = below_more (λ j. get_or ks j false ≡ true → get_or to j 0 < length ms) i c.each (λ e. never (sym f ∙ e));
  same = below_more (λ j. get_or ks j false ≡ true → formula ms (get_or to j 0) ≡ formula ns j) i c.same (λ e. never (sym f ∙ e));
  image = below_more (λ j. get_or ks j false ≡ true → get_or ms (get_or to j 0) blank_node ≡ rename to (get_or ns j blank_node)) i c.image (λ e. never (sym f ∙ e));
  onto = λ k h. let r = c.onto k h in (r.0, omega (arith, r.1), r.2, r.3);
  last = λ j h e. let s : j ≡ i = omega arith in never (sym f ∙ sym (ap (λ (z : ℕ). get_or ks z false) s) ∙ e);
}

module _ (qs : ℕ) (ns : List Node) (ks : List Bool) (i : ℕ) (to : List ℕ) (ms : List Node)
    (he : Orderly qs ns) (hi : i < length ns) (ht : i < length to) (hr : Refs ns ks i) (c : Copied qs ns ks i to ms) where
  abbrev node : Node
  node = get_or ns i blank_node

  abbrev new : Node
  new = rename to (get_or ns i blank_node)

  abbrev ms' : List Node
  ms' = ms ++ rename to (get_or ns i blank_node) ∷ []

  abbrev to' : List ℕ
  to' = set to i (length ms)

  to_old : (j : ℕ) → j < i → get_or to' j 0 ≡ get_or to j 0
  to_old j h = let d : j ≢ i = omega arith in get_or-set_other to i j (length ms) 0 d

  to_new : get_or to' i 0 ≡ length ms
  to_new = get_or-set_same to i (length ms) 0 ht

  long : length ms' ≡ length ms + 1
  long = length_push ms new

  a_low : uses_a node ≡ true → node.a < i
  a_low e = names_a qs i node (he i hi) e

  b_low : uses_b node ≡ true → node.b < i
  b_low e = names_b qs i node (he i hi) e

  ordered_new : T (next_node qs (length ms) new)
  ordered_new = rename_fits to node qs i (length ms) (he i hi) (λ e. c.each node.a (a_low e) (hr.first e)) (λ e. c.each node.b (b_low e) (hr.second e))

  same_new : made (formulas ms) new ≡ formula ns i
  same_new =
      rename_made to node (formulas ms) (formulas ns)
      (λ e. c.same node.a (a_low e) (hr.first e))
      (λ e. c.same node.b (b_low e) (hr.second e)) qs i (he i hi)
      ∙ sym (node_is qs ns he i hi)

  same_more : (j : ℕ) → j < i + 1 → get_or ks j false ≡ true → formula ms' (get_or to' j 0) ≡ formula ns j
  same_more = below_more (λ j. get_or ks j false ≡ true → formula ms' (get_or to' j 0) ≡ formula ns j) i
      (λ j l e. ap (λ (z : ℕ). formula ms' z) (to_old j l) ∙ formula_keeps ms (new ∷ []) (get_or to j 0) (c.each j l e) ∙ c.same j l e)
      (λ e. ap (λ (z : ℕ). formula ms' z) to_new ∙ formula_new ms new (length ms) refl ∙ same_new)

  renamed_at : (j : ℕ) → j < i + 1 → rename to (get_or ns j blank_node) ≡ rename to' (get_or ns j blank_node)
  renamed_at j l = sym (rename_same to to' (get_or ns j blank_node)
      (λ e. to_old (get_or ns j blank_node).a (omega (arith, names_a qs j (get_or ns j blank_node) (he j (omega arith)) e)))
      (λ e. to_old (get_or ns j blank_node).b (omega (arith, names_b qs j (get_or ns j blank_node) (he j (omega arith)) e))))

  image_more : (j : ℕ) → j < i + 1 → get_or ks j false ≡ true → get_or ms' (get_or to' j 0) blank_node ≡ rename to' (get_or ns j blank_node)
  image_more = below_more (λ j. get_or ks j false ≡ true → get_or ms' (get_or to' j 0) blank_node ≡ rename to' (get_or ns j blank_node)) i
      (λ j l e. ap (λ (z : ℕ). get_or ms' z blank_node) (to_old j l) ∙ get_or_append_left ms (new ∷ []) blank_node (get_or to j 0) (c.each j l e) ∙ c.image j l e ∙ renamed_at j (omega arith))
      (λ e. ap (λ (z : ℕ). get_or ms' z blank_node) to_new ∙ get_or_push ms new blank_node (length ms) refl ∙ renamed_at i (omega arith))

  -- One marked node more.
  pub copied_more : get_or ks i false ≡ true → Copied qs ns ks (i + 1) to' ms'
  copied_more hk = record {
    few = omega (arith, c.few, long);
    orderly = orderly_push qs ms ms' new refl c.orderly ordered_new;
    each = below_more (λ j. get_or ks j false ≡ true → get_or to' j 0 < length ms') i
        (λ j l e. omega (arith, to_old j l, c.each j l e, long)) (λ e. omega (arith, to_new, long));
    same = same_more;
    image = image_more;
    onto = λ k h. below_more (λ k. (j : ℕ) × (j < i + 1) × (get_or ks j false ≡ true) × (get_or to' j 0 ≡ k)) (length ms)
        (λ k l. let r = c.onto k l in (r.0, omega (arith, r.1), r.2, to_old r.0 r.1 ∙ r.3))
        (i, omega arith, hk, to_new) k (omega (arith, long));
    last = λ j h e. let s : j ≡ i = omega arith in omega (arith, ap (λ (z : ℕ). get_or to' z 0) s, to_new, long);
  }

-- The whole.
module _ (qs : ℕ) (ns : List Node) (root : ℕ) (ks : List Bool) (to : List ℕ) (ms : List Node)
    (he : Orderly qs ns) (hi : root < length ns) (m : Marking ns root 0 ks) (c : Copied qs ns ks (root + 1) to ms) where
  low : {j : ℕ} → Reach ns root j → j < root + 1
  low p = let l = reach_low qs ns root he hi p in omega arith

  kept : {j : ℕ} → Reach ns root j → get_or ks j false ≡ true
  kept p = kept_reach ns root ks m p

  top : suc (get_or to root 0) ≡ length ms
  top = c.last root (omega arith) m.top

  top_is : length ms - 1 ≡ get_or to root 0
  top_is = omega (arith, top)

  a_is : (n p : Node) → p ≡ rename to n → uses_a n ≡ true → (uses_a p ≡ true) × (p.a ≡ get_or to n.a 0)
  a_is n p d e = (ap uses_a d ∙ e, ap (λ (z : Node). z.a) d ∙ ap (λ u. cond u (get_or to n.a 0) n.a) e)

  b_is : (n p : Node) → p ≡ rename to n → uses_b n ≡ true → (uses_b p ≡ true) × (p.b ≡ get_or to n.b 0)
  b_is n p d e = (ap uses_b d ∙ e, ap (λ (z : Node). z.b) d ∙ ap (λ u. cond u (get_or to n.b 0) n.b) e)

  carried : {j : ℕ} → Reach ns root j → Reach ms (get_or to root 0) (get_or to j 0)
  carried here = here
  carried (by_a {j} p e) =
      let r = a_is (get_or ns j blank_node) (get_or ms (get_or to j 0) blank_node) (c.image j (low p) (kept p)) e in
      subst (λ z. Reach ms (get_or to root 0) z) r.1 (by_a (carried p) r.0)
  carried (by_b {j} p e) =
      let r = b_is (get_or ns j blank_node) (get_or ms (get_or to j 0) blank_node) (c.image j (low p) (kept p)) e in
      subst (λ z. Reach ms (get_or to root 0) z) r.1 (by_b (carried p) r.0)

  pub pruned : Pruned qs ns root ms
  pruned = record {
    some = omega (arith, top);
    few = c.few;
    orderly = c.orderly;
    same = ap (λ (z : ℕ). formula ms z) top_is ∙ c.same root (omega arith) m.top;
    useful = λ k h. let r = c.onto k h in
        subst (λ z. Reach ms z k) (sym top_is) (subst (λ z. Reach ms (get_or to root 0) z) r.3 (carried (m.sound r.0 r.2)));
  }

-- The same for the items of a vector.
pub copied_push : (qs : ℕ) (ns : List Node) (ks : List Bool) (i : ℕ) (to : List ℕ) (m : ℕ) (ms after : List Node) (x : Node)
    → Orderly qs ns → i < length ns → i < length to → Refs ns ks i → get_or ks i false ≡ true → x ≡ rename to (get_or ns i blank_node)
    → m ≡ length ms → after ≡ ms ++ x ∷ [] → Copied qs ns ks i to ms → Copied qs ns ks (i + 1) (set to i m) after
copied_push qs ns ks i to m ms after x he hi ht hr hk e d p c =
    subst (λ (z : List Node). Copied qs ns ks (i + 1) (set to i m) z) (sym (p ∙ ap (λ (z : Node). ms ++ z ∷ []) e))
    (subst (λ (z : ℕ). Copied qs ns ks (i + 1) (set to i z) (ms ++ rename to (get_or ns i blank_node) ∷ [])) (sym d)
    (copied_more qs ns ks i to ms he hi ht hr c hk))
