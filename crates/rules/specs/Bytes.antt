-- Where a rule leads, by the operators on bytes.
use Rattle.std.specs.Prelude.{◌≡◌, ℕ, zero, suc, ◌+◌, ◌-◌, ◌*◌, ◌^◌, ◌<◌, ◌≤◌, min, max, Bool, true, false, not, ◌&&◌, ◌||◌, cond, map, bit_and, bit_or, nat_eq}
use Rattle.std.specs.List.{range_with_len, sum}
use Rattle.std.specs.Int.{bit_at, w8}
use Rattle.std.proofs.Common.{refl, sym, ap, ◌∙◌, ⊎_elim, arith}
use Rattle.std.proofs.lemmas.Bool.{cases_lt}
use Rattle.std.proofs.lemmas.Bool.Decides.{nat_tests}
use Rattle.std.proofs.lemmas.List.FromFn.{sum_by-map-range_with_len_more}
use Rattle.std.proofs.lemmas.Nat.{and_le_l, or_lt}
use Rattle.std.proofs.lemmas.Nat.Bits.{bit_at_and, bit_at_cat_high, bit_at_cat_low, bit_at_not, bit_at_or, bit_at-lt, same_from_bits_below}
use Rattle.rules.specs.Rules.{leads, leads_bit}
use Rattle.rules.specs.declared.rule.Rule.{Rule}

-- The number of n bits, one more of them, and that it lies below 2 ^ n.
abbrev value : Bool → ℕ
value b = cond b 1 0

abbrev of_bits : (ℕ → Bool) → ℕ → ℕ
of_bits f n = sum (map (λ j. cond (f j) (2 ^ j) 0) (range_with_len 0 n))

of_more : (f : ℕ → Bool) (n : ℕ) → of_bits f (suc n) ≡ value (f n) * 2 ^ n + of_bits f n
of_more f n =
    let e : suc n ≡ n + 1 = omega arith in
    ap (of_bits f) e ∙ sum_by-map-range_with_len_more (λ x. x) (λ j. cond (f j) (2 ^ j) 0) 0 n n (omega arith) ∙ by (f n)
  where
    by : (b : Bool) → of_bits f n + cond b (2 ^ n) 0 ≡ value b * 2 ^ n + of_bits f n
    by true = omega arith
    by false = omega arith

of_bits-lt : (f : ℕ → Bool) (n : ℕ) → of_bits f n < 2 ^ n
of_bits-lt f zero = omega arith
of_bits-lt f (suc n) = by (f n) (of_more f n) (of_bits-lt f n)
  where
    by : (b : Bool) → of_bits f (suc n) ≡ value b * 2 ^ n + of_bits f n → of_bits f n < 2 ^ n → of_bits f (suc n) < 2 ^ suc n
    by true e h = omega arith
    by false e h = omega arith

-- Its bits are those that it was made of.
bit_of : (f : ℕ → Bool) (n i : ℕ) → i < n → bit_at (of_bits f n) i ≡ value (f i)
bit_of f zero i h = absurd (omega arith)
bit_of f (suc n) i h = ap (λ x. bit_at x i) (of_more f n) ∙ ⊎_elim (λ l. within l (bit_of f n i l)) last (cases_lt i n)
  where
    lowest : (b : Bool) → bit_at (value b) 0 ≡ value b
    lowest true = refl
    lowest false = refl

    within : i < n → bit_at (of_bits f n) i ≡ value (f i) → bit_at (value (f n) * 2 ^ n + of_bits f n) i ≡ value (f i)
    within l e = bit_at_cat_low (value (f n)) n (of_bits f n) i l ∙ e

    last : n ≤ i → bit_at (value (f n) * 2 ^ n + of_bits f n) i ≡ value (f i)
    last l =
        let e : i ≡ n = omega arith in
        let d : i - n ≡ 0 = omega arith in
        bit_at_cat_high (value (f n)) n (of_bits f n) i (of_bits-lt f n) l
        ∙ ap (λ x. bit_at (value (f n)) x) d ∙ lowest (f n) ∙ ap (λ x. value (f x)) (sym e)

-- The bits of s, set and clear make the bit that the rule leads to.
led : (s set clear : ℕ) → s < 2 → set < 2 → clear < 2 → max (min s (1 - clear)) set ≡ value (nat_eq set 1 || (nat_eq s 1 && not (nat_eq clear 1)))
led s set clear p q r = grind (arith, nat_tests)

pub leads_is : (r : Rule) (s : ℕ) → s < 256 → r.set < 256 → r.clear < 256 → leads r s ≡ bit_or (bit_and s (255 - r.clear)) r.set
unfolding leads
leads_is r s here set clear =
    same_from_bits_below 8 _ _ (of_bits-lt (leads_bit r s) 8) (or_lt 8 (bit_and s (255 - r.clear)) r.set (omega (arith, and_le_l s (255 - r.clear))) set)
    (λ i l. bit_of (leads_bit r s) 8 i l ∙ sym (by_bits i l))
  where
    by_bits : (i : ℕ) → i < 8 → bit_at (bit_or (bit_and s (255 - r.clear)) r.set) i ≡ value (leads_bit r s i)
    by_bits i l =
        bit_at_or (bit_and s (255 - r.clear)) r.set i
        ∙ ap (λ x. max x (bit_at r.set i)) (bit_at_and s (255 - r.clear) i ∙ ap (λ x. min (bit_at s i) x) (bit_at_not w8 r.clear i clear l))
        ∙ led (bit_at s i) (bit_at r.set i) (bit_at r.clear i) (bit_at-lt s i) (bit_at-lt r.set i) (bit_at-lt r.clear i)
