-- The rows of EX and AX, and rows that collect the states that pass a test.
use Rattle.std.proofs.Common.{◌≡◌, ℕ, ◌<◌, Bool, true, false, ◌&&◌, ◌≤◌, ltb, sym, ap, ◌∙◌, ⊎_elim, arith}
use Rattle.std.proofs.lemmas.Bool.{both_ways, cases_lt, lt-ltb, le-ltb, and_left}
use Rattle.kripke.specs.Structure.{Kripke, Closed, Lawful, size, successors}
use Rattle.kripke.specs.Ctl.{Next}
use Rattle.evaluator.specs.Marks.{Collects, Divides, Marked, Paths, steps}
use Rattle.kripke.specs.Quantifiers.{dual}
use Rattle.kripke.specs.declared.quantifier.Quantifier.{Quantifier}
use Rattle.kripke.specs.declared.quantifier.Quantifier.TheVariants as quantifier
use Rattle.evaluator.proofs.Members.{every_yes, every_no, some_yes, some_no}
use Rattle.kripke.proofs.Walks.{through, second}

-- The marks, where the test is a function.
pub collected : (n : ℕ) (P : ℕ → Bool → Type 0) (q h : ℕ → Bool) → Collects n P q → ((s : ℕ) (b : Bool) → s < n → P s b → b ≡ h s) → (s : ℕ) → s < 256 → q s ≡ (ltb s n && h s)
collected n P q h done is s l = ⊎_elim
    (λ (on : s < n). is s (q s) on (done.here s on) ∙ ap (λ (b : Bool). b && h s) (sym (lt-ltb s n on)))
    (λ (off : n ≤ s). done.beyond s off l ∙ sym (and_left (ltb s n) (h s) (le-ltb s n off)))
    (cases_lt s n)

module _ (k : Kripke) (law : Closed k) (f : ℕ → Bool) where
  next_yes : (e : Quantifier) (s : ℕ) → s < size k → steps e f (successors k s) ≡ true → Paths k e s (Next (Marked f))
  next_yes quantifier.ForAll s h on = λ p way. every_yes f (successors k s) on (p 1) (second k s p way)
  next_yes quantifier.Exists s h on =
      let (u, m, hu) = some_yes f (successors k s) on in
      let (p, way, e) = through k law s u h m in
      (p, way, ap f e ∙ hu)

  next_no : (e : Quantifier) (s : ℕ) → s < size k → steps e f (successors k s) ≡ false → Paths k (dual e) s (λ p. ¬ Next (Marked f) p)
  next_no quantifier.ForAll s h off =
      let (u, m, hu) = every_no f (successors k s) off in
      let (p, way, e) = through k law s u h m in
      (p, way, λ on. both_ways (f (p 1)) (ap f e ∙ hu) on)
  next_no quantifier.Exists s h off = λ p way on. both_ways (f (p 1)) (some_no f (successors k s) off (p 1) (second k s p way)) on

pub next_divides : (n : ℕ) (k : Kripke) (law : Lawful n k) (e : Quantifier) (f r : ℕ → Bool)
    → ((s : ℕ) → s < 256 → r s ≡ (ltb s (size k) && steps e f (successors k s))) → Divides k e (Next (Marked f)) r
next_divides n k law e f r is = record {
  yes = λ s h on. next_yes k law.closed f e s h (sym (here s h) ∙ on);
  no = λ s h off. next_no k law.closed f e s h (sym (here s h) ∙ off);
  beyond = λ s h l. is s l ∙ and_left (ltb s (size k)) (steps e f (successors k s)) (le-ltb s (size k) h);
}
  where
    here : (s : ℕ) → s < size k → r s ≡ steps e f (successors k s)
    here s h = is s (omega (arith, law.few)) ∙ ap (λ (b : Bool). b && steps e f (successors k s)) (lt-ltb s (size k) h)
