-- The marks of rows: a row written at one state, a whole row, a row read out of a table.
use Rattle.std.proofs.Common.{◌≡◌, ℕ, zero, suc, ◌+◌, ◌-◌, ◌*◌, ◌/◌, ◌%◌, ◌^◌, ◌<◌, ◌≤◌, Bool, true, false, not, ◌&&◌, ◌||◌, eqb, ltb, List, [], length, get_or, set, sym, refl, ap, ◌∙◌, ⊎_elim, arith, drop, get_or-set_other, get_or-set_same, rules}
use lib.Bits.{bit_and, bit_or, bit_xor}
use Rattle.std.proofs.lemmas.Nat.{one_shl}
use Rattle.std.proofs.lemmas.Bool.{eq-eqb, ne_eqb, cases_eq, cases_lt, lt-ltb, le-ltb}
use Rattle.std.proofs.lemmas.List.{places}
use Rattle.std.specs.Simd.{first_chunks}
use Rattle.evaluator.specs.Rows.{bit}
use Rattle.evaluator.specs.Marks.{Complements, Whole, marks}
use Rattle.evaluator.proofs.Bits.{and_bit, or_bit, power_bit, xor_bit}
use Rattle.kripke.specs.Structure.{Kripke}
use mathlib.Core.Bool.{beq}

swapped : (x y : Bool) → (x || y) ≡ (y || x)
swapped true true = refl
swapped true false = refl
swapped false true = refl
swapped false false = refl

same_place : (s t : ℕ) → t / 64 ≡ s / 64 → eqb (t % 64) (s % 64) ≡ eqb t s
same_place s t e = ⊎_elim
    (λ (q : t ≡ s). eq-eqb (t % 64) (s % 64) (ap (λ (x : ℕ). x % 64) q) ∙ sym (eq-eqb t s q))
    (λ (ne : ¬ t ≡ s). ne_eqb (t % 64) (s % 64) (λ q. ne (omega arith)) ∙ sym (ne_eqb t s ne))
    (cases_eq t s)

-- The row after `row[s / 64] |= 1 << (s % 64)`.
pub marked_row : (ws : List ℕ) (s : ℕ) → length ws ≡ 4 → s < 256 → (t : ℕ) → t < 256
    → marks (set ws (s / 64) (bit_or (get_or ws (s / 64) 0) (1 * 2 ^ (s % 64) % 2 ^ 64))) t ≡ (eqb t s || marks ws t)
marked_row ws s four hs t ht =
    let w : ℕ = get_or ws (s / 64) 0 in
    let v : ℕ = bit_or w (2 ^ (s % 64)) in
    ap (λ (x : ℕ). marks (set ws (s / 64) (bit_or w x)) t) (one_shl (s % 64) 64 (omega arith))
    ∙ ⊎_elim
    (λ (e : t / 64 ≡ s / 64).
    ap (λ (x : ℕ). bit x (t % 64)) (ap (λ (x : ℕ). get_or (set ws (s / 64) v) x 0) e ∙ get_or-set_same ws (s / 64) v 0 (omega arith))
    ∙ or_bit w (2 ^ (s % 64)) (t % 64) ∙ swapped (bit w (t % 64)) (bit (2 ^ (s % 64)) (t % 64))
    ∙ ap (λ (b : Bool). b || bit w (t % 64)) (power_bit (t % 64) (s % 64) ∙ same_place s t e)
    ∙ ap (λ (x : ℕ). eqb t s || bit (get_or ws x 0) (t % 64)) (sym e))
    (λ (ne : ¬ t / 64 ≡ s / 64).
    ap (λ (x : ℕ). bit x (t % 64)) (get_or-set_other ws (s / 64) (t / 64) v 0 ne)
    ∙ ap (λ (b : Bool). b || marks ws t) (sym (ne_eqb t s (λ same. ne (ap (λ (x : ℕ). x / 64) same)))))
    (cases_eq (t / 64) (s / 64))

-- Words that have the bits set that are below what is left of n.
pub first_row : (ws : List ℕ) (n : ℕ) → ((q : ℕ) → q < 4 → (j : ℕ) → j < 64 → bit (get_or ws q 0) j ≡ ltb j (n - 64 * q)) → (s : ℕ) → s < 256 → marks ws s ≡ ltb s n
first_row ws n is s l = is (s / 64) (omega arith) (s % 64) (omega arith) ∙ ⊎_elim
    (λ (h : s < n). lt-ltb (s % 64) (n - 64 * (s / 64)) (omega arith) ∙ sym (lt-ltb s n h))
    (λ (h : n ≤ s). le-ltb (s % 64) (n - 64 * (s / 64)) (omega arith) ∙ sym (le-ltb s n h))
    (cases_lt s n)

-- A chunk of a table.
pub chunk_at : (n k : ℕ) (xs : List ℕ) (i j : ℕ) → i < k → j < n → get_or (get_or (first_chunks n k xs) i []) j 0 ≡ get_or xs (n * i + j) 0
chunk_at n zero xs i j h l = absurd (omega arith)
chunk_at n (suc k) xs zero j h l = search (rules, places)
chunk_at n (suc k) xs (suc i) j h l =
    chunk_at n k (drop n xs) i j (omega arith) l ∙ search (rules, places) ∙ ap (λ (x : ℕ). get_or xs x 0) (let e : n + (n * i + j) ≡ n * suc i + j = search rules in e)

-- Rows that are made of two others word by word.
module _ (a b r : List ℕ) where
  abbrev Combined : (ℕ → ℕ → ℕ) → Type 0
  Combined o = (q : ℕ) → q < 4 → get_or r q 0 ≡ o (get_or a q 0) (get_or b q 0)

  marked_as : (o : ℕ → ℕ → ℕ) → Combined o → (s : ℕ) → s < 256 → marks r s ≡ bit (o (get_or a (s / 64) 0) (get_or b (s / 64) 0)) (s % 64)
  marked_as o is s l = ap (λ (x : ℕ). bit x (s % 64)) (is (s / 64) (omega arith))

  pub both_marked : Combined bit_and → (s : ℕ) → s < 256 → marks r s ≡ (marks a s && marks b s)
  both_marked is s l = marked_as bit_and is s l ∙ and_bit (get_or a (s / 64) 0) (get_or b (s / 64) 0) (s % 64)

  pub either_marked : Combined bit_or → (s : ℕ) → s < 256 → marks r s ≡ (marks a s || marks b s)
  either_marked is s l = marked_as bit_or is s l ∙ or_bit (get_or a (s / 64) 0) (get_or b (s / 64) 0) (s % 64)

  pub complemented : (k : Kripke) → Whole k (marks a) → Combined bit_xor → Complements k (marks b) (marks r)
  complemented k whole is s l =
      marked_as bit_xor is s l ∙ xor_bit (get_or a (s / 64) 0) (get_or b (s / 64) 0) (s % 64) ∙ ap (λ (x : Bool). not (beq x (marks b s))) (whole s l)
