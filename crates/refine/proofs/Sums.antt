-- Sums over the numbers below n, and counts.
use Rattle.std.proofs.Common.{◌≡◌, ℕ, zero, suc, ◌<◌, ◌≤◌, Bool, true, false, sym, refl, subst, arith}
use native.Mathlib.Decide.{ℕ_discrete}
use Rattle.refine.specs.Classes.{bit, sum}

pub sum_mono : (g h : ℕ → ℕ) (n : ℕ) → ((i : ℕ) → i < n → g i ≤ h i) → sum g n ≤ sum h n
sum_mono g h zero le = omega arith
sum_mono g h (suc n) le = omega (arith, le n (omega arith), sum_mono g h n (λ i l. le i (omega arith)))

pub sum_less : (g h : ℕ → ℕ) (n : ℕ) → ((i : ℕ) → i < n → g i ≤ h i) → (i : ℕ) → i < n → g i < h i → sum g n < sum h n
sum_less g h zero le i l s = omega arith
sum_less g h (suc n) le i l s = elim (ℕ_discrete i n) [
  | yes e ↦ (let s' : g n < h n = subst (λ j. g j < h j) e s in omega (arith, sum_mono g h n (λ i l. le i (omega arith))))
  | no d ↦ omega (arith, le n (omega arith), sum_less g h n (λ i l. le i (omega arith)) i (omega arith) s)
]

pub sum_ones : (n : ℕ) → sum (λ i. 1) n ≡ n
sum_ones zero = refl
sum_ones (suc n) = omega (arith, sum_ones n)

pub bit_le : (x : Bool) → bit x ≤ 1
bit_le true = omega arith
bit_le false = omega arith

pub sum_same : (g h : ℕ → ℕ) (n : ℕ) → ((i : ℕ) → i < n → h i ≡ g i) → sum h n ≡ sum g n
sum_same g h zero e = refl
sum_same g h (suc n) e = omega (arith, e n (omega arith), sum_same g h n (λ i l. e i (omega arith)))

-- Two sums that differ by one at one place.
pub sum_more : (g h : ℕ → ℕ) (n s : ℕ) → s < n → ((i : ℕ) → i < n → (¬ i ≡ s) → h i ≡ g i) → h s ≡ suc (g s) → sum h n ≡ suc (sum g n)
sum_more g h zero s l e d = absurd (omega arith)
sum_more g h (suc n) s l e d = elim (ℕ_discrete s n) [
  | yes q ↦ (let d' : h n ≡ suc (g n) = subst (λ j. h j ≡ suc (g j)) q d in
      omega (arith, d', sum_same g h n (λ i m. e i (omega arith) (λ z. omega arith))))
  | no q ↦ omega (arith, e n (omega arith) (λ z. q (sym z)), sum_more g h n s (omega arith) (λ i m. e i (omega arith)) d)
]
