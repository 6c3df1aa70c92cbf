-- Lists of the states that lead to each state, as they are written and read.
use Rattle.std.proofs.Common.{◌≡◌, ℕ, zero, suc, ◌+◌, ◌<◌, ◌≤◌, Bool, true, false, ◌&&◌, ◌||◌, T, eqb, ltb, ◌⊎◌, List, [], ◌∷◌, ◌++◌, map, take, length, get_or, set, sym, refl, ap, ◌∙◌, subst, inl, inr, ⊎_elim, arith}
use native.Mathlib.Decide.{ℕ_discrete}
use Rattle.std.proofs.Math.Bool.{or-false, or_assoc}
use Rattle.std.proofs.lemmas.List.{map_push, take_more, length_push, get_or-set_same, get_or-set_other, get_or_append_left, get_or_push, get_or_past}
use Rattle.std.proofs.lemmas.Bool.{eq-eqb, ne_eqb, eqb-true, lt-ltb, le-ltb, cases_lt}
use Rattle.kripke.specs.Structure.{Kripke, Member, successors}
use Rattle.refine.specs.Tests.{hits}
use Rattle.refine.specs.Steps.{at}
use Rattle.refine.specs.Chains.{has, From, Earlier, Down, chain, no_step}
use Rattle.refine.specs.Sources.{leading, Leads, Entered}
use Rattle.refine.specs.declared.sources.Sources.{Sources}
use Rattle.refine.specs.declared.sources.Step.{Step}
use Rattle.kripke.proofs.Reflect.{some-T, or_T}
use Rattle.refine.proofs.Somes.{T-yes, bools}
use Rattle.refine.proofs.Orders.{and_T, T_and, lt_T}

pub has_push : (x : ℕ) (l : List ℕ) (y : ℕ) → has x (l ++ y ∷ []) ≡ (has x l || eqb y x)
has_push x [] y = or-false (eqb y x)
has_push x (z ∷ l) y = ap (λ (b : Bool). eqb z x || b) (has_push x l y) ∙ sym (or_assoc (eqb z x) (has x l) (eqb y x))

-- The list from a place does not depend on how much longer than the place it is made, nor on the steps that are written after it.
pub chain_long : (es : List Step) → Down es → (m n k : ℕ) → k ≤ m → k ≤ n → chain es m k ≡ chain es n k
chain_long es d zero zero k p q = refl
chain_long es d zero (suc n) zero p q = refl
chain_long es d zero (suc n) (suc k) p q = absurd (omega arith)
chain_long es d (suc m) zero zero p q = refl
chain_long es d (suc m) zero (suc k) p q = absurd (omega arith)
chain_long es d (suc m) (suc n) zero p q = refl
chain_long es d (suc m) (suc n) (suc k) p q =
    ap (λ (l : List ℕ). From es k ∷ l) (chain_long es d m n (Earlier es k) (omega (arith, d k, p)) (omega (arith, d k, q)))

step_kept : (es : List Step) (e : Step) (k : ℕ) → k < length es → get_or (es ++ e ∷ []) k no_step ≡ get_or es k no_step
step_kept es e k l = get_or_append_left es (e ∷ []) no_step k l

chain_kept : (es : List Step) (e : Step) → Down es → (n k : ℕ) → k ≤ length es → chain (es ++ e ∷ []) n k ≡ chain es n k
chain_kept es e d zero k l = refl
chain_kept es e d (suc n) zero l = refl
chain_kept es e d (suc n) (suc k) l =
    let same : get_or (es ++ e ∷ []) k no_step ≡ get_or es k no_step = step_kept es e k (omega arith) in
    ap (λ (s : Step). s.from ∷ chain (es ++ e ∷ []) n s.earlier) same
    ∙ ap (λ (l : List ℕ). From es k ∷ l) (chain_kept es e d n (Earlier es k) (omega (arith, d k, l)))

module _ (v : Sources) (steps : List Step) (t s m : ℕ) (b : t < 512) (long : length v.last ≡ 512)
    (pushed : steps ≡ v.steps.items ++ record { from = s; earlier = get_or v.last t 0 } ∷ []) (is : m ≡ suc (length v.steps.items)) where
  abbrev e : Step
  e = record { from = s; earlier = get_or v.last t 0 }

  abbrev es : List Step
  es = v.steps.items

  abbrev last : List ℕ
  last = set v.last t m

  at_t : get_or last t 0 ≡ suc (length es)
  at_t = get_or-set_same v.last t m 0 (omega (arith, b, long)) ∙ is

  kept : (u : ℕ) → (¬ u ≡ t) → get_or last u 0 ≡ get_or v.last u 0
  kept u d = get_or-set_other v.last t u m 0 d

  new_step : get_or (es ++ e ∷ []) (length es) no_step ≡ e
  new_step = get_or_push es e no_step (length es) refl

  past : (j : ℕ) → length es ≤ j → (¬ j ≡ length es) → get_or (es ++ e ∷ []) j no_step ≡ no_step
  past j l z = get_or_past (es ++ e ∷ []) j no_step (omega (arith, length_push es e, l, z))

  -- The list of state t has s before it, and the others are as they were.
  here : chain steps (get_or last t 0) (get_or last t 0) ≡ s ∷ leading v t
  here =
      ap (λ (n : ℕ). chain steps n n) at_t
      ∙ ap (λ (l : List Step). chain l (suc (length es)) (suc (length es))) pushed
      ∙ ap (λ (x : Step). x.from ∷ chain (es ++ e ∷ []) (length es) x.earlier) new_step
      ∙ ap (λ (l : List ℕ). s ∷ l) (chain_kept es e v.down (length es) (get_or v.last t 0) (v.begun t)
      ∙ chain_long es v.down (length es) (get_or v.last t 0) (get_or v.last t 0) (v.begun t) (omega arith))

  other : (u : ℕ) → (¬ u ≡ t) → chain steps (get_or last u 0) (get_or last u 0) ≡ leading v u
  other u d =
      ap (λ (n : ℕ). chain steps n n) (kept u d)
      ∙ ap (λ (l : List Step). chain l (get_or v.last u 0) (get_or v.last u 0)) pushed
      ∙ chain_kept es e v.down (get_or v.last u 0) (get_or v.last u 0) (v.begun u)

  pub entered_one : (u x : ℕ) → u < 512 → has x (chain steps (get_or last u 0) (get_or last u 0)) ≡ ((eqb s x && has u (t ∷ [])) || has x (leading v u))
  entered_one u x l = elim (ℕ_discrete u t) [
    | yes z ↦ ap (λ (n : ℕ). has x (chain steps (get_or last n 0) (get_or last n 0))) z ∙ ap (λ (m : List ℕ). has x m) here
        ∙ ap (λ (n : ℕ). eqb s x || has x (leading v n)) (sym z) ∙ rw (eq-eqb t u (sym z)) (yes_here (eqb s x) (has x (leading v u)))
    | no z ↦ ap (λ (m : List ℕ). has x m) (other u z) ∙ rw (ne_eqb t u (λ q. z (sym q))) (not_here (eqb s x) (has x (leading v u)))
  ]
    where
      yes_here : (a b : Bool) → (a || b) ≡ ((a && (true || false)) || b)
      yes_here true b = refl
      yes_here false b = refl

      not_here : (a b : Bool) → b ≡ ((a && (false || false)) || b)
      not_here true b = refl
      not_here false b = refl

  -- What holds of each step, of the new one, and where there is none.
  each : (P : ℕ → Step → Type 0) → ((j : ℕ) → P j (get_or es j no_step)) → P (length es) e → ((j : ℕ) → P j no_step) → (j : ℕ) → P j (get_or steps j no_step)
  each P old new none j = subst (λ (l : List Step). P j (get_or l j no_step)) (sym pushed) (⊎_elim
      (λ (l : j < length es). subst (λ (x : Step). P j x) (sym (step_kept es e j l)) (old j))
      (λ (l : length es ≤ j). elim (ℕ_discrete j (length es)) [
        | yes z ↦ subst (λ (n : ℕ). P n (get_or (es ++ e ∷ []) n no_step)) (sym z) (subst (λ (x : Step). P (length es) x) (sym new_step) new)
        | no z ↦ subst (λ (x : Step). P j x) (sym (past j l z)) (none j)
      ])
      (cases_lt j (length es)))

  pub down_more : Down steps
  down_more = each (λ j x. x.earlier ≤ j) v.down (v.begun t) (λ j. omega arith)

  pub few_more : s < 512 → (j : ℕ) → From steps j < 512
  few_more f = each (λ j x. x.from < 512) v.few f (λ j. omega arith)

  pub begun_more : (u : ℕ) → get_or last u 0 ≤ length steps
  begun_more u =
      let n : length steps ≡ suc (length es) = omega (arith, ap length pushed, length_push es e) in
      elim (ℕ_discrete u t) [
        | yes z ↦ omega (arith, ap (λ (k : ℕ). get_or last k 0) z, at_t, n)
        | no z ↦ omega (arith, kept u z, v.begun u, n)
      ]

module _ (u v w : Sources) (s low : ℕ) (next : List ℕ) (i : ℕ) (l : i < length next) where
  abbrev f : ℕ → ℕ
  f x = low + x

  abbrev j : ℕ
  j = low + get_or next i 0

  more : (t : ℕ) → has t (map f (take (i + 1) next)) ≡ (has t (map f (take i next)) || eqb j t)
  more t =
      ap (λ (m : List ℕ). has t (map f m)) (take_more next i 0 l) ∙ ap (λ (m : List ℕ). has t m) (map_push f (take i next) (get_or next i 0))
      ∙ has_push t (map f (take i next)) j

  pub entered_more : Entered u v s (map f (take i next)) → Entered v w s (j ∷ []) → Entered u w s (map f (take (i + 1) next))
  entered_more h g t x b =
      g t x b ∙ ap (λ (z : Bool). (eqb s x && (eqb j t || false)) || z) (h t x b)
      ∙ mix (eqb s x) (eqb j t) (has t (map f (take i next))) (has x (leading u t)) ∙ ap (λ (z : Bool). (eqb s x && z) || has x (leading u t)) (sym (more t))
    where
      mix : (a b c e : Bool) → ((a && (b || false)) || ((a && c) || e)) ≡ ((a && (c || b)) || e)
      mix true true true e = refl
      mix true true false e = refl
      mix true false true e = refl
      mix true false false e = refl
      mix false b c e = refl

pub entered_none : (v : Sources) (s : ℕ) → Entered v v s []
entered_none v s t x l = none (eqb s x) (has x (leading v t))
  where
    none : (a b : Bool) → b ≡ ((a && false) || b)
    none true b = refl
    none false b = refl

-- No list has a state yet.
pub leads_none : (u : Kripke) (w : Sources) → ((t : ℕ) → leading w t ≡ []) → Leads u w 0
leads_none u w h t x l = ap (λ (m : List ℕ). has x m) (h t) ∙ ap (λ (b : Bool). b && has t (successors u x)) (sym (le-ltb x 0 (omega arith)))

-- One state more is written down at its successors.
pub leads_more : (u : Kripke) (v w : Sources) (s : ℕ) (ts : List ℕ) → Leads u v s → Entered v w s ts → ts ≡ successors u s → Leads u w (s + 1)
leads_more u v w s ts h e z t x l = e t x l ∙ ap (λ (b : Bool). (eqb s x && has t ts) || b) (h t x l) ∙ go (ℕ_discrete s x)
  where
    go : Dec (s ≡ x) → ((eqb s x && has t ts) || (ltb x s && has t (successors u x))) ≡ (ltb x (s + 1) && has t (successors u x))
    go (yes q) = rw (eq-eqb s x q, le-ltb x s (omega (arith, q)), lt-ltb x (s + 1) (omega (arith, q)))
        (or-false (has t ts) ∙ ap (λ (m : List ℕ). has t m) z ∙ ap (λ (n : ℕ). has t (successors u n)) q)
    go (no d) = rw (ne_eqb s x d) (ap (λ (b : Bool). b && has t (successors u x)) (step (cases_lt x s)))
      where
        step : (x < s) ⊎ (s ≤ x) → ltb x s ≡ ltb x (s + 1)
        step (inl k) = lt-ltb x s k ∙ sym (lt-ltb x (s + 1) (omega (arith, k)))
        step (inr k) = le-ltb x s k ∙ sym (le-ltb x (s + 1) (omega (arith, k, d)))

-- One place back: the state that its step leaves is marked, and the list goes on from the place before.
pub marked_back : (w : Sources) (k place : ℕ) (row new : List Bool) → place ≡ suc k → length row ≡ 512 → new ≡ set row (From w.steps.items k) true → (x : ℕ)
    → (has x (chain w.steps.items (Earlier w.steps.items k) (Earlier w.steps.items k)) || at new x) ≡ (has x (chain w.steps.items place place) || at row x)
marked_back w k place row new p long n x =
    let es = w.steps.items in
    let c : chain es place place ≡ From es k ∷ chain es (Earlier es k) (Earlier es k) =
    ap (λ (m : ℕ). chain es m m) p ∙ ap (λ (l : List ℕ). From es k ∷ l) (chain_long es w.down k (Earlier es k) (Earlier es k) (w.down k) (omega arith)) in
    ap (λ (l : List Bool). has x (chain es (Earlier es k) (Earlier es k)) || at l x) n
    ∙ elim (ℕ_discrete (From es k) x) [
      | yes z ↦ ap (λ (b : Bool). has x (chain es (Earlier es k) (Earlier es k)) || b)
          (ap (λ (m : ℕ). at (set row m true) x) z ∙ get_or-set_same row x true false (omega (arith, long, w.few k, z)))
          ∙ rw (ap (λ (l : List ℕ). has x l) c, eq-eqb (From es k) x z) (all (has x (chain es (Earlier es k) (Earlier es k))) (at row x))
      | no z ↦ ap (λ (b : Bool). has x (chain es (Earlier es k) (Earlier es k)) || b) (get_or-set_other row (From es k) x true false (λ q. z (sym q)))
          ∙ rw (ap (λ (l : List ℕ). has x l) c, ne_eqb (From es k) x z) refl
    ]
  where
    all : (a b : Bool) → (a || true) ≡ ((true || a) || b)
    all true b = refl
    all false b = refl

-- What stands in a list.
has_member : (x : ℕ) (l : List ℕ) → T (has x l) → Member x l
has_member x l h = let r = (some-T (λ y. eqb y x) l).0 h in subst (λ (y : ℕ). Member y l) (eqb-true r.0 x (T-yes _ r.2)) r.1

member_has : (x : ℕ) (l : List ℕ) → Member x l → T (has x l)
member_has x l m = (some-T (λ y. eqb y x) l).1 (x, m, subst T (sym (eq-eqb x x refl)) tt)

-- The row says yes only at states with a successor in class c, and at each that leads to one of the first t states there.
abbrev pub Marking : Kripke → Sources → ℕ → List ℕ → ℕ → ℕ → List Bool → Type 0
Marking u w n class c t row = (x : ℕ) → x < n → (T (at row x) → T (hits u class c x))
    × ((j : ℕ) → j < t → get_or class j 0 ≡ c → T (has x (leading w j)) → T (at row x))

module _ (u : Kripke) (w : Sources) (n : ℕ) (fit : n ≤ 512) (class : List ℕ) (c : ℕ) (leads : Leads u w n) where
  pub marking_none : (row : List Bool) → ((x : ℕ) → x < n → at row x ≡ false) → Marking u w n class c 0 row
  marking_none row f x l = ((λ h. absurd (subst T (f x l) h)), (λ j k. absurd (omega arith)))

  module _ (t : ℕ) (l : t < n) (row : List Bool) (h : Marking u w n class c t row) where
    -- State t is in class c, and the row says yes at all that lead to it too.
    pub marking_more : get_or class t 0 ≡ c → (new : List Bool) → ((x : ℕ) → x < n → at new x ≡ (has x (leading w t) || at row x))
        → Marking u w n class c (t + 1) new
    marking_more of new is x k = (
      (λ y. ⊎_elim
          (λ (m : T (has x (leading w t))). (some-T (λ v. eqb (get_or class v 0) c) (successors u x)).1
          (t, has_member t (successors u x) (and_T _ _ (subst T (leads t x (omega (arith, l, fit))) m)).1, subst T (sym (eq-eqb (get_or class t 0) c of)) tt))
          (λ (m : T (at row x)). (h x k).0 m)
          ((or_T _ _).0 (subst T (is x k) y))),
      (λ j b q m. subst T (sym (is x k)) ((or_T _ _).1 (elim (ℕ_discrete j t) [
        | yes z ↦ inl (subst (λ (i : ℕ). T (has x (leading w i))) z m)
        | no z ↦ inr ((h x k).1 j (omega (arith, z)) q m)
      ]))),
    )

    -- State t is not in class c.
    pub marking_skip : (¬ get_or class t 0 ≡ c) → Marking u w n class c (t + 1) row
    marking_skip d x k = (
      (h x k).0,
      (λ j b q m. elim (ℕ_discrete j t) [
        | yes z ↦ absurd (d (subst (λ (i : ℕ). get_or class i 0 ≡ c) z q))
        | no z ↦ (h x k).1 j (omega (arith, z)) q m
      ]),
    )

  pub marked : ((s v : ℕ) → s < n → Member v (successors u s) → v < n) → (row : List Bool) → Marking u w n class c (n) row
      → (x : ℕ) → x < n → at row x ≡ hits u class c x
  marked inside row h x l = bools _ _ (h x l).0 (λ z.
      let r = (some-T (λ v. eqb (get_or class v 0) c) (successors u x)).0 z in
      let k : r.0 < n = inside x r.0 l r.1 in
      (h x l).1 r.0 k (eqb-true _ _ (T-yes _ r.2))
      (subst T (sym (leads r.0 x (omega (arith, k, fit)))) (T_and _ _ (lt_T x (n) l) (member_has r.0 (successors u x) r.1))))
