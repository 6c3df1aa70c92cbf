-- The test of the rounds answers yes exactly for states that are the same.
use Rattle.std.proofs.Common.{◌≡◌, ℕ, zero, suc, ◌<◌, ◌≤◌, max, Bool, true, false, not, ◌&&◌, ◌||◌, T, eqb, ◌⊎◌, ◌↔◌, List, [], ◌∷◌, length, get_or, sym, refl, ◌∙◌, subst, inl, inr, ⊎_elim, arith}
use mathlib.Core.Bool.{beq}
use mathlib.Core.Logic.{⊎_map}
use native.Mathlib.Decide.{ℕ_discrete}
use Rattle.std.proofs.lemmas.Bool.{eqb-true, eq-eqb, cases_lt}
use Rattle.std.proofs.lemmas.List.{get_or_past}
use Rattle.kripke.specs.Structure.{Kripke, Member, state, successors}
use Rattle.kripke.specs.Rounds.{Same, Together, Settled, home, place, total}
use Rattle.kripke.specs.Tests.{every, some, below, agree, same, together, settled}
use Rattle.kripke.specs.Theorems.{TestReflects}
use Rattle.kripke.proofs.Either.{Either, either_T}

pub T_true : (x : Bool) → T x ↔ (x ≡ true)
T_true true = (λ h. refl, λ e. tt)
T_true false = (λ h. absurd h, λ e. subst T (sym e) tt)

pub and_T : (x y : Bool) → T (x && y) ↔ (T x × T y)
and_T true y = (λ h. (tt, h), λ h. h.1)
and_T false y = (λ h. absurd h, λ h. h.0)

pub or_T : (x y : Bool) → T (x || y) ↔ (T x ⊎ T y)
or_T true y = (λ h. inl tt, λ h. tt)
or_T false y = (λ h. inr h, ⊎_elim (λ h. absurd h) (λ h. h))

pub beq-T : (x y : Bool) → T (beq x y) ↔ (x ≡ y)
beq-T true true = (λ h. refl, λ e. tt)
beq-T false false = (λ h. refl, λ e. tt)
beq-T true false = (λ h. absurd h, λ e. subst T e tt)
beq-T false true = (λ h. absurd h, λ e. subst T (sym e) tt)

-- Two tests are equal exactly when they answer yes alike.
pub beq_iff : (x y : Bool) → T (beq x y) ↔ (T x ↔ T y)
beq_iff true true = (λ h. (λ z. z, λ z. z), λ h. tt)
beq_iff false false = (λ h. (λ z. z, λ z. z), λ h. tt)
beq_iff true false = (λ h. absurd h, λ h. h.0 tt)
beq_iff false true = (λ h. absurd h, λ h. h.1 tt)

pub eqb-T : (m n : ℕ) → T (eqb m n) ↔ (m ≡ n)
eqb-T m n = (λ h. eqb-true m n ((T_true (eqb m n)).0 h), λ e. (T_true (eqb m n)).1 (eq-eqb m n e))

pub every-T : (q : ℕ → Bool) (l : List ℕ) → T (every q l) ↔ ((x : ℕ) → Member x l → T (q x))
every-T q [] = (λ h x m. absurd m, λ h. tt)
every-T q (y ∷ l) = (
  λ h x m. elim m [ inl e ↦ subst (λ z. T (q z)) (sym e) ((and_T (q y) (every q l)).0 h).0 | inr m' ↦ (every-T q l).0 ((and_T (q y) (every q l)).0 h).1 x m' ],
  λ h. (and_T (q y) (every q l)).1 (h y (inl refl), (every-T q l).1 (λ x m. h x (inr m))),
)

pub some-T : (q : ℕ → Bool) (l : List ℕ) → T (some q l) ↔ ((x : ℕ) × Member x l × T (q x))
some-T q [] = (λ h. absurd h, λ h. h.1)
some-T q (y ∷ l) = (
  λ h. ⊎_elim (λ k. (y, inl refl, k)) (λ k. let r = (some-T q l).0 k in (r.0, inr r.1, r.2)) ((or_T (q y) (some q l)).0 h),
  λ h. (or_T (q y) (some q l)).1 (elim h.1 [ inl e ↦ inl (subst (λ z. T (q z)) e h.2) | inr m ↦ inr ((some-T q l).1 (h.0, m, h.2)) ]),
)

pub below-T : (q : ℕ → Bool) (n : ℕ) → T (below q n) ↔ ((i : ℕ) → i < n → T (q i))
below-T q zero = (λ h i l. absurd (omega arith), λ h. tt)
below-T q (suc n) = (
  λ h i l. elim (ℕ_discrete i n) [ yes e ↦ subst (λ z. T (q z)) (sym e) ((and_T (q n) (below q n)).0 h).0 | no d ↦ (below-T q n).0 ((and_T (q n) (below q n)).0 h).1 i (omega arith) ],
  λ h. (and_T (q n) (below q n)).1 (h n (omega arith), (below-T q n).1 (λ i l. h i (omega arith))),
)

pub agree-T : (xs ys : List Bool) → T (agree xs ys) ↔ ((i : ℕ) → get_or xs i false ≡ get_or ys i false)
agree-T xs ys =
    let w = below-T (λ i. beq (get_or xs i false) (get_or ys i false)) (max (length xs) (length ys)) in (
      λ h i. ⊎_elim (λ l. (beq-T (get_or xs i false) (get_or ys i false)).0 (w.0 h i l)) (past i) (cases_lt i (max (length xs) (length ys))),
      λ h. w.1 (λ i l. (beq-T (get_or xs i false) (get_or ys i false)).1 (h i)),
    )
  where
    past : (i : ℕ) → max (length xs) (length ys) ≤ i → get_or xs i false ≡ get_or ys i false
    past i l = get_or_past xs i false (omega arith) ∙ sym (get_or_past ys i false (omega arith))

-- Each member has a mate, as a test.
mates_T : (q : ℕ → ℕ → Bool) (R : ℕ → ℕ → Type 0) (l l' : List ℕ) → ((u v : ℕ) → T (q u v) ↔ R u v)
    → T (every (λ u. some (q u) l') l) ↔ ((u : ℕ) → Member u l → (v : ℕ) × Member v l' × R u v)
mates_T q R l l' e = (
  λ h u m. let r = (some-T (q u) l').0 ((every-T (λ u. some (q u) l') l).0 h u m) in (r.0, r.1, (e u r.0).0 r.2),
  λ h. (every-T (λ u. some (q u) l') l).1 (λ u m. let r = h u m in (some-T (q u) l').1 (r.0, r.1, (e u r.0).1 r.2)),
)

pub same-T : TestReflects
unfolding same
same-T a b zero s t = agree-T (state a s).answers (state b t).answers
same-T a b (suc k) s t =
    let x = same-T a b k s t in
    let y = mates_T (λ u v. same a b k u v) (λ u v. Same a b k u v) (successors a s) (successors b t) (λ u v. same-T a b k u v) in
    let z = mates_T (λ v u. same a b k u v) (λ v u. Same a b k u v) (successors b t) (successors a s) (λ v u. same-T a b k u v) in (
      λ h. let p = (and_T _ _).0 h in let q = (and_T _ _).0 p.1 in (x.0 p.0, y.0 q.0, z.0 q.1),
      λ h. (and_T _ _).1 (x.1 h.0, (and_T _ _).1 (y.1 h.1, z.1 h.2)),
    )

pub together-T : (a b : Kripke) (k i j : ℕ) → T (together a b k i j) ↔ Together a b k i j
together-T a b k i j = same-T (home a b i) (home a b j) k (place a b i) (place a b j)

-- So the rounds decide: two states are the same after k of them, or they are not.
pub same_either : (a b : Kripke) (k s t : ℕ) → Either (Same a b k s t)
same_either a b k s t = ⊎_map (same-T a b k s t).0 (λ n h. n ((same-T a b k s t).1 h)) (either_T (same a b k s t))

implied_T : (x y : Bool) → T (not x || y) ↔ (T x → T y)
implied_T true y = (λ h t. h, λ f. f tt)
implied_T false y = (λ h t. absurd t, λ f. tt)

pub settled-T : (a b : Kripke) (k : ℕ) → T (settled a b k) ↔ Settled a b k
unfolding settled
settled-T a b k =
    let row = λ (i : ℕ). below-T (λ j. not (together a b k i j) || together a b (suc k) i j) (total a b) in
    let all = below-T (λ i. below (λ j. not (together a b k i j) || together a b (suc k) i j) (total a b)) (total a b) in (
      λ h i j hi hj t. (together-T a b (suc k) i j).0 ((implied_T (together a b k i j) (together a b (suc k) i j)).0 ((row i).0 (all.0 h i hi) j hj) ((together-T a b k i j).1 t)),
      λ h. all.1 (λ i hi. (row i).1 (λ j hj. (implied_T (together a b k i j) (together a b (suc k) i j)).1
          (λ t. (together-T a b (suc k) i j).1 (h i j hi hj ((together-T a b k i j).0 t))))),
    )
