-- One class is parted: its states where y is true get the number s0. Over functions, without lists and formulas.
use Rattle.std.proofs.Common.{◌≡◌, ℕ, suc, ◌<◌, ◌≤◌, Bool, true, false, cond, not, ◌&&◌, eqb, ◌⊎◌, sym, refl, ap, ◌∙◌, subst, inl, inr, ⊎_elim, arith}
use native.Mathlib.Decide.{ℕ_discrete}
use Rattle.std.proofs.lemmas.Bool.{eq-eqb, ne_eqb, cases_Bool}
use Rattle.refine.specs.Classes.{bit, sum}
use Rattle.refine.proofs.Sums.{sum_more}

pub eqb_or : (a b : ℕ) → ((eqb a b ≡ true) × (a ≡ b)) ⊎ ((eqb a b ≡ false) × (¬ a ≡ b))
eqb_or a b = elim (ℕ_discrete a b) [ yes e ↦ inl (eq-eqb a b e, e) | no d ↦ inr (ne_eqb a b d, d) ]

-- One class, that of `c`, is parted: its states where `y` is true get the number `s0`.
module _ (n : ℕ) (cl new : ℕ → ℕ) (y : ℕ → Bool) (c s0 : ℕ)
    (low : (s : ℕ) → s < n → cl s ≤ s)
    (led : (s : ℕ) → s < n → cl (cl s) ≡ cl s)
    (in0 : s0 < n) (of0 : cl s0 ≡ c) (y0 : y s0 ≡ true) (yc : y c ≡ false)
    (first : (t : ℕ) → t < s0 → cl t ≡ c → y t ≡ false)
    (is : (t : ℕ) → t < n → new t ≡ cond (eqb (cl t) c && y t) s0 (cl t)) where
  abbrev Moved : ℕ → Type 0
  Moved t = (cl t ≡ c) × (y t ≡ true) × (new t ≡ s0)

  abbrev Stays : ℕ → Type 0
  Stays t = (cl t ≡ c → y t ≡ false) × (new t ≡ cl t)

  pub ways : (t : ℕ) → t < n → Moved t ⊎ Stays t
  ways t h = go (eqb_or (cl t) c) (cases_Bool (y t))
    where
      go : ((eqb (cl t) c ≡ true) × (cl t ≡ c)) ⊎ ((eqb (cl t) c ≡ false) × (¬ cl t ≡ c)) → (y t ≡ true) ⊎ (y t ≡ false) → Moved t ⊎ Stays t
      go (inl e) (inl q) = inl (e.1, q, is t h ∙ rw (e.0, q) refl)
      go (inl e) (inr q) = inr (λ z. q, is t h ∙ rw (e.0, q) refl)
      go (inr e) q = inr (λ z. absurd (e.1 z), is t h ∙ rw e.0 refl)

  pub cn : c < n
  cn = let z = low s0 in0 in omega (arith, of0)

  pub c_led : cl c ≡ c
  c_led = let z = led s0 in0 in subst (λ (v : ℕ). cl v ≡ v) of0 z

  pub apart : ¬ s0 ≡ c
  apart e = let z : y s0 ≡ y c = ap y e in let w : ◌≡◌ {A = ℕ} 0 1 = cc in omega arith

  -- no class was called s0
  pub unused : (t : ℕ) → t < n → ¬ cl t ≡ s0
  unused t h e = let z = led t h in apart (let p : cl s0 ≡ s0 = cc in sym p ∙ of0)

  pub low_after : (t : ℕ) → t < n → new t ≤ t
  low_after t h = ⊎_elim
      (λ m. elim_lt m.0 m.1 m.2)
      (λ m. omega (arith, m.1, low t h)) (ways t h)
    where
      elim_lt : cl t ≡ c → y t ≡ true → new t ≡ s0 → new t ≤ t
      elim_lt e q w = let f : ¬ t < s0 = λ l. (let a : y t ≡ false = first t l e in let z : ◌≡◌ {A = ℕ} 0 1 = cc in omega arith) in omega (arith, f)

  pub new_c : new c ≡ c
  new_c = is c cn ∙ rw yc (go (eqb (cl c) c))
    where
      go : (b : Bool) → cond (b && false) s0 (cl c) ≡ c
      go true = c_led
      go false = c_led

  pub new_s0 : new s0 ≡ s0
  new_s0 = is s0 in0 ∙ rw (eq-eqb (cl s0) c of0, y0) refl

  pub led_after : (t : ℕ) → t < n → new (new t) ≡ new t
  led_after t h = ⊎_elim
      (λ m. let e = m.2 in subst (λ (v : ℕ). new v ≡ v) (sym e) new_s0)
      (λ m. let e = m.1 in subst (λ (v : ℕ). new v ≡ v) (sym e) (⊎_elim
      (λ k. let q : cl t ≡ c = sym (led t h) ∙ k.0 in subst (λ (v : ℕ). new v ≡ v) (sym q) new_c)
      (λ k. k.1 ∙ led t h)
      (ways (cl t) (omega (arith, low t h)))))
      (ways t h)

  -- what is one class now was one class before, on one side of y
  pub one_before : (s t : ℕ) → s < n → t < n → new s ≡ new t → cl s ≡ cl t
  one_before s t hs ht e = go (ways s hs) (ways t ht)
    where
      go : Moved s ⊎ Stays s → Moved t ⊎ Stays t → cl s ≡ cl t
      go (inl p) (inl q) = p.0 ∙ sym q.0
      go (inl p) (inr q) = absurd (unused t ht (sym q.1 ∙ sym e ∙ p.2))
      go (inr p) (inl q) = absurd (unused s hs (sym p.1 ∙ e ∙ q.2))
      go (inr p) (inr q) = sym p.1 ∙ e ∙ q.1

  pub one_after : (s t : ℕ) → s < n → t < n → cl s ≡ cl t → (cl s ≡ c → y s ≡ y t) → new s ≡ new t
  one_after s t hs ht e z = go (ways s hs) (ways t ht)
    where
      no : y s ≡ true → y t ≡ false → ¬ cl s ≡ c
      no a b d = let w = z d in let v : ◌≡◌ {A = ℕ} 0 1 = cc in omega arith

      no' : y s ≡ false → y t ≡ true → ¬ cl s ≡ c
      no' a b d = let w = z d in let v : ◌≡◌ {A = ℕ} 0 1 = cc in omega arith

      go : Moved s ⊎ Stays s → Moved t ⊎ Stays t → new s ≡ new t
      go (inl p) (inl q) = p.2 ∙ sym q.2
      go (inl p) (inr q) = absurd (no p.1 (q.0 (sym e ∙ p.0)) p.0)
      go (inr p) (inl q) = absurd (no' (p.0 (e ∙ q.0)) q.1 (e ∙ q.0))
      go (inr p) (inr q) = p.1 ∙ e ∙ sym q.1

  -- the one new leader
  pub leaders_after : sum (λ i. bit (eqb (new i) i)) n ≡ suc (sum (λ i. bit (eqb (cl i) i)) n)
  leaders_after = sum_more (λ i. bit (eqb (cl i) i)) (λ i. bit (eqb (new i) i)) n s0 in0
      (λ i h d. ⊎_elim
      (λ m. let a : eqb (new i) i ≡ false = ne_eqb _ _ (λ z. d (sym z ∙ m.2)) in
      let b : eqb (cl i) i ≡ false = ne_eqb _ _ (λ z. (let q : i ≡ c = sym z ∙ m.0 in let w : y i ≡ y c = ap y q in let x : ◌≡◌ {A = ℕ} 0 1 = cc m.1 in omega arith)) in
      rw (a, b) refl)
      (λ m. rw m.1 refl) (ways i h))
      (let a : eqb (new s0) s0 ≡ true = eq-eqb _ _ new_s0 in
      let b : eqb (cl s0) s0 ≡ false = ne_eqb _ _ (λ z. unused s0 in0 z) in rw (a, b) refl)

  -- formulas: f is true of (leader, state) before, g after
  module _ (f g : ℕ → ℕ → Bool) (ex : (t s : ℕ) → t < n → s < n → f (cl t) s ≡ eqb (cl s) (cl t))
      (gc : (s : ℕ) → s < n → g c s ≡ (f c s && not (y s)))
      (g0 : (s : ℕ) → s < n → g s0 s ≡ (f c s && y s))
      (other : (t s : ℕ) → t < n → s < n → (¬ cl t ≡ c) → (¬ cl t ≡ s0) → g (cl t) s ≡ f (cl t) s) where
    fc : (s : ℕ) → s < n → f c s ≡ eqb (cl s) c
    fc s h = let e : cl s0 ≡ c = of0 in subst (λ (v : ℕ). f v s ≡ eqb (cl s) v) of0 (ex s0 s in0 h)

    -- the part that went
    at_s0 : (s : ℕ) → s < n → g s0 s ≡ eqb (new s) s0
    at_s0 s h = g0 s h ∙ (rw (fc s h) (⊎_elim
        (λ m. rw (eq-eqb _ _ m.0, m.1, eq-eqb _ _ m.2) refl)
        (λ m. rw (ne_eqb (new s) s0 (λ z. unused s h (sym m.1 ∙ z))) (go (eqb_or (cl s) c) m.0))
        (ways s h)))
      where
        go : ((eqb (cl s) c ≡ true) × (cl s ≡ c)) ⊎ ((eqb (cl s) c ≡ false) × (¬ cl s ≡ c)) → (cl s ≡ c → y s ≡ false) → (eqb (cl s) c && y s) ≡ false
        go (inl e) q = rw (e.0, q e.1) refl
        go (inr e) q = rw e.0 refl

    -- the part that stayed
    at_c : (s : ℕ) → s < n → g c s ≡ eqb (new s) c
    at_c s h = gc s h ∙ (rw (fc s h) (⊎_elim
        (λ m. rw (eq-eqb _ _ m.0, m.1, ne_eqb (new s) c (λ z. apart (sym m.2 ∙ z))) refl)
        (λ m. rw m.1 (go (eqb_or (cl s) c) m.0))
        (ways s h)))
      where
        go : ((eqb (cl s) c ≡ true) × (cl s ≡ c)) ⊎ ((eqb (cl s) c ≡ false) × (¬ cl s ≡ c)) → (cl s ≡ c → y s ≡ false) → (eqb (cl s) c && not (y s)) ≡ eqb (cl s) c
        go (inl e) q = rw (e.0, q e.1) refl
        go (inr e) q = rw e.0 refl

    -- any other class
    at_other : (t s : ℕ) → t < n → s < n → (¬ cl t ≡ c) → g (cl t) s ≡ eqb (new s) (cl t)
    at_other t s ht hs d = other t s ht hs d (unused t ht) ∙ ex t s ht hs ∙ ⊎_elim
        (λ m. ne_eqb (cl s) (cl t) (λ z. d (sym z ∙ m.0)) ∙ sym (ne_eqb (new s) (cl t) (λ z. unused t ht (sym z ∙ m.2))))
        (λ m. rw m.1 refl)
        (ways s hs)

    pub exact_after : (t s : ℕ) → t < n → s < n → g (new t) s ≡ eqb (new s) (new t)
    exact_after t s ht hs = ⊎_elim
        (λ m. subst (λ (v : ℕ). g v s ≡ eqb (new s) v) (sym m.2) (at_s0 s hs))
        (λ m. subst (λ (v : ℕ). g v s ≡ eqb (new s) v) (sym m.1) (elim (ℕ_discrete (cl t) c) [
          | yes e ↦ subst (λ (v : ℕ). g v s ≡ eqb (new s) v) (sym e) (at_c s hs)
          | no d ↦ at_other t s ht hs d
        ]))
        (ways t ht)

  -- what holds of the nodes of c and s0 now, and of the other classes' nodes before, holds of each class's node
  pub each_after : (P : ℕ → Type 0) → P c → P s0 → ((t : ℕ) → t < n → (¬ cl t ≡ c) → (¬ cl t ≡ s0) → P (cl t)) → (t : ℕ) → t < n → P (new t)
  each_after P pc p0 po t h = ⊎_elim
      (λ m. subst P (sym m.2) p0)
      (λ m. subst P (sym m.1) (elim (ℕ_discrete (cl t) c) [ yes e ↦ subst P (sym e) pc | no d ↦ po t h d (unused t h) ]))
      (ways t h)
