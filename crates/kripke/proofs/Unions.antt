-- Two structures side by side: each numbered state is in the whole what it is in its own structure.
use Rattle.std.proofs.Common.{◌≡◌, ℕ, ◌+◌, ◌-◌, ◌<◌, ◌≤◌, false, ◌↔◌, List, [], ◌∷◌, map, length, get_or, sym, refl, ap, ◌∙◌, subst, inl, inr, ⊎_elim, arith, length-append}
use lib.ListN.{length-map}
use Rattle.std.proofs.lemmas.List.{get_or_append_left, get_or-append_right, get_or_default, get_or-map}
use Rattle.std.proofs.lemmas.Bool.{cases_lt}
use Rattle.kripke.specs.Structure.{Kripke, State, Closed, Member, blank_state, answer, size, state, successors}
use Rattle.kripke.specs.Ctl.{Formula, Holds}
use Rattle.kripke.specs.Rounds.{Same, Together, home, place, total}
use Rattle.kripke.specs.Union.{moved, both}
use Rattle.kripke.proofs.Bisim.{Bisim, agree, bisim_same}
use Rattle.kripke.proofs.Numbers.{first_to, second_to}
use Rattle.kripke.proofs.Equal.{same_sym, same_trans}

member_map : (g : ℕ → ℕ) (x : ℕ) (l : List ℕ) → Member x l → Member (g x) (map g l)
member_map g x [] m = m
member_map g x (y ∷ l) (inl e) = inl (ap g e)
member_map g x (y ∷ l) (inr m) = inr (member_map g x l m)

map_member : (g : ℕ → ℕ) (y : ℕ) (l : List ℕ) → Member y (map g l) → (x : ℕ) × Member x l × (y ≡ g x)
map_member g y [] m = absurd m
map_member g y (z ∷ l) (inl e) = (z, inl refl, e)
map_member g y (z ∷ l) (inr m) = let r = map_member g y l m in (r.0, inr r.1, r.2)

module _ (a b : Kripke) where
  pub both_size : size (both a b) ≡ total a b
  both_size = omega (arith, length-append a.states (map (moved (size a)) b.states), length-map b.states (moved (size a)))

  -- State i of the whole, below the first's size and from there on.
  pub both_first : (i : ℕ) → i < size a → state (both a b) i ≡ state a i
  both_first i l =
      get_or_append_left a.states (map (moved (size a)) b.states) _ i l ∙ get_or_default a.states i _ (get_or a.states 0 blank_state) l

  pub both_second : (t : ℕ) → t < size b → state (both a b) (size a + t) ≡ moved (size a) (state b t)
  both_second t l =
      let e : size a + t - size a ≡ t = omega arith in
      get_or-append_right a.states (map (moved (size a)) b.states) (size a) (size a + t) _ refl (omega arith)
      ∙ (ap (λ (j : ℕ). get_or (map (moved (size a)) b.states) j (get_or (both a b).states 0 blank_state)) e ∙ get_or-map (moved (size a)) b.states t (get_or b.states 0 blank_state) _ l)

  module _ (la : Closed a) (lb : Closed b) where
    first_bisim : Bisim a (both a b) (λ s i. (s < size a) × (s ≡ i))
    first_bisim = record {
      alike = λ s i q r. ap (λ (x : State). get_or x.answers q false) (sym (both_first s r.0)) ∙ ap (λ (y : ℕ). answer (both a b) y q) r.1;
      forth = λ s i r v m. (v, subst (λ (l : List ℕ). Member v l) (on s i r) m, (la.inside s v r.0 m, refl));
      back = λ s i r v m. (let m' = subst (λ (l : List ℕ). Member v l) (sym (on s i r)) m in (v, m', (la.inside s v r.0 m', refl)));
    }
      where
        on : (s i : ℕ) → (s < size a) × (s ≡ i) → successors a s ≡ successors (both a b) i
        on s i r = ap (λ (x : State). x.next) (sym (both_first s r.0)) ∙ ap (λ (y : ℕ). successors (both a b) y) r.1

    second_bisim : Bisim b (both a b) (λ t i. (t < size b) × (size a + t ≡ i))
    second_bisim = record {
      alike = λ t i q r. ap (λ (x : State). get_or x.answers q false) (sym (both_second t r.0)) ∙ ap (λ (y : ℕ). answer (both a b) y q) r.1;
      forth = λ t i r v m.
          (size a + v, subst (λ (l : List ℕ). Member (size a + v) l) (on t i r) (member_map (λ v. size a + v) v (successors b t) m), (lb.inside t v r.0 m, refl));
      back = λ t i r y m.
          let (v, m', e) = map_member (λ v. size a + v) y (successors b t) (subst (λ (l : List ℕ). Member y l) (sym (on t i r)) m) in
          (v, m', (lb.inside t v r.0 m', sym e));
    }
      where
        on : (t i : ℕ) → (t < size b) × (size a + t ≡ i) → map (λ v. size a + v) (successors b t) ≡ successors (both a b) i
        on t i r = ap (λ (x : State). x.next) (sym (both_second t r.0)) ∙ ap (λ (y : ℕ). successors (both a b) y) r.1

    -- What is alike in bisimilar states is alike in a numbered state and its place in the whole.
    carried : (P : Kripke → ℕ → ℕ → Type 0) → ((s : ℕ) → s < size a → P a s s) → ((t : ℕ) → t < size b → P b t (size a + t))
        → (i : ℕ) → i < total a b → P (home a b i) (place a b i) i
    carried P on-first on-second i h =
        ⊎_elim
        (λ l. first_to a b (λ x s. P x s i) i l (on-first i l))
        (λ (l : size a ≤ i).
        let e : size a + (i - size a) ≡ i = omega arith in
        second_to a b (λ x s. P x s i) i l (subst (λ (j : ℕ). P b (i - size a) j) e (on-second (i - size a) (omega arith))))
        (cases_lt i (size a))

    both_same : (k i : ℕ) → i < total a b → Same (home a b i) (both a b) k (place a b i) i
    both_same k = carried (λ x s i. Same x (both a b) k s i) (λ s h. bisim_same a (both a b) _ first_bisim k s s (h, refl)) (λ t h. bisim_same b (both a b) _ second_bisim k t (size a + t) (h, refl))

    -- Formulas hold in the whole where they hold in the state's own structure, and rounds tell the same numbers apart.
    pub both_holds : (f : Formula) (i : ℕ) → i < total a b → Holds (home a b i) f (place a b i) ↔ Holds (both a b) f i
    both_holds f = carried (λ x s i. Holds x f s ↔ Holds (both a b) f i) (λ s h. agree a (both a b) _ first_bisim f s s (h, refl)) (λ t h. agree b (both a b) _ second_bisim f t (size a + t) (h, refl))

    pub both_together : (k i j : ℕ) → i < total a b → j < total a b → Together a b k i j ↔ Same (both a b) (both a b) k i j
    both_together k i j hi hj =
        let u = both a b in
        let x = home a b i in
        let y = home a b j in
        let s = place a b i in
        let t = place a b j in
        let p = both_same k i hi in
        let q = both_same k j hj in (
          λ h. same_trans u x u k i s j (same_sym x u k s i p) (same_trans x y u k s t j h q),
          λ h. same_trans x u y k s i t p (same_trans u u y k i j t h (same_sym y u k t j q)),
        )

    -- The whole is closed.
    pub both_closed : Closed (both a b)
    both_closed = record { onward = onward; inside = inside }
      where
        onward : (i : ℕ) → i < size (both a b) → 1 ≤ length (successors (both a b) i)
        onward i h =
            ⊎_elim
            (λ l. subst (λ (x : State). 1 ≤ length x.next) (sym (both_first i l)) (la.onward i l))
            (λ (l : size a ≤ i).
            let t = i - size a in
            let e : size a + t ≡ i = omega arith in
            let ht : t < size b = omega (arith, both_size) in
            subst (λ (j : ℕ). 1 ≤ length (successors (both a b) j)) e
            (subst (λ (x : State). 1 ≤ length x.next) (sym (both_second t ht)) (omega (arith, lb.onward t ht, length-map (successors b t) (λ (v : ℕ). size a + v)))))
            (cases_lt i (size a))

        inside : (i j : ℕ) → i < size (both a b) → Member j (successors (both a b) i) → j < size (both a b)
        inside i j h m =
            ⊎_elim
            (λ l. omega (arith, both_size, la.inside i j l (subst (λ (x : State). Member j x.next) (both_first i l) m)))
            (λ (l : size a ≤ i).
            let t = i - size a in
            let e : i ≡ size a + t = omega arith in
            let ht : t < size b = omega (arith, both_size) in
            let (v, m', e') = map_member (λ v. size a + v) j (successors b t)
            (subst (λ (x : State). Member j x.next) (both_second t ht) (subst (λ (y : ℕ). Member j (successors (both a b) y)) e m)) in
            omega (arith, both_size, lb.inside t v ht m'))
            (cases_lt i (size a))
