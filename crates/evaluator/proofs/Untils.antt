-- Until, on each path or on some path: a step that marks a state is right, and where no step is left the unmarked states have it not.
use Rattle.std.proofs.Common.{◌≡◌, ℕ, zero, suc, ◌<◌, Bool, true, false, ◌⊎◌, sym, ap, ◌∙◌, inl, inr, ⊎_elim, arith}
use Rattle.std.proofs.lemmas.Bool.{both_ways, cases_Bool}
use Rattle.std.specs.List.{list_all, list_any}
use Rattle.kripke.specs.Structure.{Kripke, Closed, Member, size, successors}
use Rattle.kripke.specs.Ctl.{Path, Until}
use Rattle.evaluator.specs.Marks.{Marked, Paths, Sound, Still, steps}
use Rattle.kripke.specs.Quantifiers.{dual}
use Rattle.kripke.specs.declared.quantifier.Quantifier.{Quantifier}
use Rattle.kripke.specs.declared.quantifier.Quantifier.TheVariants as quantifier
use Rattle.evaluator.proofs.Members.{every_yes, every_no, some_yes, some_no}
use Rattle.kripke.proofs.Walks.{first, first_member, Choice, walk, walk_path, tail_path, second, ahead, ahead_path, from_here}

until_ahead : (P Q : ℕ → Type 0) (p : ℕ → ℕ) → P (p 0) → Until P Q (λ i. p (suc i)) → Until P Q p
until_ahead P Q p h (n, g, f) = (suc n, g, before)
  where
    before : (j : ℕ) → j < suc n → P (p j)
    before zero l = h
    before (suc j) l = f j (omega arith)

module _ (k : Kripke) (law : Closed k) (f g : ℕ → Bool) where
  abbrev U : (ℕ → ℕ) → Type 0
  U = Until (Marked f) (Marked g)

  -- A state of g.
  pub at_once : (e : Quantifier) (s : ℕ) → s < size k → g s ≡ true → Paths k e s U
  at_once quantifier.ForAll s h on = λ p way. (0, ap g way.starts ∙ on, λ i l. absurd (omega arith))
  at_once quantifier.Exists s h on =
      let w = from_here k law s h in
      (w.0, w.1, (0, ap g w.1.starts ∙ on, λ i l. absurd (omega arith)))

  -- A state of f that steps to marked states.
  pub one_more : (e : Quantifier) (q : ℕ → Bool) → Sound k e f g q → (s : ℕ) → s < size k → f s ≡ true → steps e q (successors k s) ≡ true → Paths k e s U
  one_more quantifier.ForAll q sound s h hf on = λ p way.
      let m = second k s p way in
      until_ahead (Marked f) (Marked g) p (ap f way.starts ∙ hf)
      (sound (p 1) (law.inside s (p 1) h m) (every_yes q (successors k s) on (p 1) m) (λ i. p (suc i)) (tail_path k s p way))
  one_more quantifier.Exists q sound s h hf on =
      let (u, m, hu) = some_yes q (successors k s) on in
      let (p, way, un) = sound u (law.inside s u h m) hu in
      (ahead s p, ahead_path k s u p m way, until_ahead (Marked f) (Marked g) (ahead s p) hf un)

  -- Where every state of g is marked, and no state of f is left to mark.
  module _ (q : ℕ → Bool) (above : (t : ℕ) → t < size k → g t ≡ true → q t ≡ true) where
    -- On a path from an unmarked state no place comes to g by way of f.
    some_out : Still k quantifier.Exists f q → (n s : ℕ) → s < size k → q s ≡ false → (p : ℕ → ℕ) → Path k s p → g (p n) ≡ true
        → ¬ ((i : ℕ) → i < n → f (p i) ≡ true)
    some_out still zero s h out p way hg hf = both_ways (q s) out (above s h (ap g (sym way.starts) ∙ hg))
    some_out still (suc n) s h out p way hg hf =
        let m = second k s p way in
        some_out still n (p 1) (law.inside s (p 1) h m) (next_out (cases_Bool (list_any q (successors k s))) m) (λ i. p (suc i)) (tail_path k s p way) hg (λ i l. hf (suc i) (omega arith))
      where
        next_out : (list_any q (successors k s) ≡ true) ⊎ (list_any q (successors k s) ≡ false) → Member (p 1) (successors k s) → q (p 1) ≡ false
        next_out (inl on) m = absurd (both_ways (q s) out (still s h (ap f (sym way.starts) ∙ hf 0 (omega arith)) on))
        next_out (inr off) m = some_no q (successors k s) off (p 1) m

    -- From an unmarked state on to a successor that is not marked, where there is one, and so on for ever.
    abbrev choose : (s : ℕ) → s < size k → (u : ℕ) × Member u (successors k s) × ((list_all q (successors k s) ≡ true) ⊎ (q u ≡ false))
    choose s h =
        ⊎_elim (λ on. (first (successors k s), first_member (successors k s) (law.onward s h), inl on))
        (λ off. let z = every_no q (successors k s) off in (z.0, z.1, inr z.2))
        (cases_Bool (list_all q (successors k s)))

    abbrev next : Choice k
    next s h = ((choose s h).0, (choose s h).1)

    each_out : Still k quantifier.ForAll f q → (n s : ℕ) (h : s < size k) → q s ≡ false → g (walk k law next s h n) ≡ true
        → ¬ ((i : ℕ) → i < n → f (walk k law next s h i) ≡ true)
    unfolding walk
    each_out still zero s h out hg hf = both_ways (q s) out (above s h hg)
    each_out still (suc n) s h out hg hf =
        ⊎_elim
        (λ on. both_ways (q s) out (still s h (hf 0 (omega arith)) on))
        (λ out'. each_out still n (choose s h).0 (law.inside s (choose s h).0 h (choose s h).1) out' hg (λ i l. hf (suc i) (omega arith)))
        (choose s h).2

    pub outside : (e : Quantifier) → Still k e f q → (s : ℕ) → s < size k → q s ≡ false → Paths k (dual e) s (λ p. ¬ U p)
    outside quantifier.ForAll still s h out = (walk k law next s h, walk_path k law next s h, λ u. each_out still u.0 s h out u.1 u.2)
    outside quantifier.Exists still s h out = λ p way u. some_out still u.0 s h out p way u.1 u.2
