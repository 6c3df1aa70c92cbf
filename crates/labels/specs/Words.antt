-- The answers of a signal word.
use Rattle.std.specs.Prelude.{◌≡◌, ℕ, ◌/◌, ◌^◌, ◌<◌, ◌≤◌, false, length, ◌==◌, bit_and, nat_eq, slice_index_or}
use Rattle.std.proofs.Common.{ap, arith}
use Rattle.std.proofs.lemmas.Nat.{and_mask}
use Rattle.std.proofs.lemmas.List.FromFn.{length-map-range_with_len, get_or-map-range_with_len}
use Rattle.std.proofs.lemmas.List.{get_or_past}
use Rattle.labels.specs.Kinds.{bit, bits}

pub length-bits : (w : ℕ) → length (bits w) ≡ 32
unfolding bits
length-bits w = length-map-range_with_len (λ i. bit w i) 0 32

pub bits_at : (w i : ℕ) → i < 32 → slice_index_or (bits w) i false ≡ bit w i
unfolding bits
bits_at w i h = get_or-map-range_with_len (λ i. bit w i) 0 32 i i false h (omega arith)

pub bits_past : (w i : ℕ) → 32 ≤ i → slice_index_or (bits w) i false ≡ false
bits_past w i h = get_or_past (bits w) i false (omega (arith, length-bits w))

-- the lowest bit, by a mask
pub masked : (w i : ℕ) → (bit_and (w / 2 ^ i) 1 == 1) ≡ bit w i
masked w i = ap (λ x. nat_eq x 1) (and_mask (w / 2 ^ i) 1)
