-- The bits of a word in pairs that change places, and all of them from the other end.
use Rattle.std.proofs.Common.{◌≡◌, ℕ, ◌+◌, ◌-◌, ◌*◌, ◌/◌, ◌%◌, ◌^◌, ◌<◌, ◌≤◌, Bool, true, false, cond, not, ◌&&◌, ◌||◌, eqb, ltb, T, sym, refl, ap, ◌∙◌, ap₂, subst, ⊎_elim, arith}
use lib.Bits.{bit_and, bit_or}
use Rattle.std.proofs.Math.Nat.{div-div-eq-div-mul}
use Rattle.std.proofs.lemmas.Bool.{both_ways, cases_Bool, cases_eq, cases_lt, le-ltb, lt-ltb, ne_eqb}
use Rattle.std.proofs.lemmas.Nat.{div-add-mod', pow-add, pow_pos}
use Rattle.std.proofs.lemmas.Nat.Bits.{bit_at_cat_high, bit_at_cat_low, bit_at-zero}
use Rattle.std.specs.Int.{bit_at}
use Rattle.kripke.specs.Tests.{below}
use Rattle.kripke.proofs.Reflect.{below-T}
use Rattle.evaluator.specs.Rows.{bit}
use Rattle.evaluator.specs.Marks.{Pairs, partner}
use Rattle.evaluator.proofs.Bits.{and_bit, or_bit}

-- A word moved down by k places, and one moved up, of which the highest bits are lost.
moved_down : (w k j : ℕ) → bit (w / 2 ^ k) j ≡ bit w (j + k)
moved_down w k j =
    ap (λ (x : ℕ). eqb (x % 2) 1)
    (div-div-eq-div-mul w (2 ^ k) (2 ^ j) ∙ ap (λ (x : ℕ). w / x) (sym (pow-add 2 k j) ∙ ap (λ (n : ℕ). 2 ^ n) (omega arith)))

cut : (y j : ℕ) → j < 64 → bit (y % 2 ^ 64) j ≡ bit y j
cut y j l = ap (λ (x : ℕ). eqb x 1) (sym (bit_at_cat_low (y / 2 ^ 64) 64 (y % 2 ^ 64) j l) ∙ ap (λ (x : ℕ). bit_at x j) (div-add-mod' y (2 ^ 64)))

moved_up_low : (w k j : ℕ) → j < 64 → j < k → bit (w * 2 ^ k % 2 ^ 64) j ≡ false
moved_up_low w k j l low =
    cut (w * 2 ^ k) j l
    ∙ ap (λ (x : ℕ). bit x j) (omega arith)
    ∙ ap (λ (x : ℕ). eqb x 1) (bit_at_cat_low w k 0 j low ∙ bit_at-zero j)

moved_up_high : (w k j : ℕ) → j < 64 → k ≤ j → bit (w * 2 ^ k % 2 ^ 64) j ≡ bit w (j - k)
moved_up_high w k j l high =
    cut (w * 2 ^ k) j l
    ∙ ap (λ (x : ℕ). bit x j) (omega arith)
    ∙ ap (λ (x : ℕ). eqb x 1) (bit_at_cat_high w k 0 j (pow_pos k) high)

never : (b : Bool) → (b && false) ≡ false
never true = refl
never false = refl

kept : (b : Bool) → (b && true) ≡ b
kept true = refl
kept false = refl

alone : (b : Bool) → (b || false) ≡ b
alone true = refl
alone false = refl

-- The word in which the bits of each pair have changed places.
module _ (w k mask : ℕ) (pairs : Pairs mask k) (j : ℕ) (l : j < 64) where
  abbrev Above : ℕ
  Above = bit_and w mask * 2 ^ k % 2 ^ 64

  lower : bit mask j ≡ true → ((bit w (j + k) && bit mask j) || bit Above j) ≡ bit w (partner mask k j)
  lower on =
      let none : bit Above j ≡ false =
      ⊎_elim (λ low. moved_up_low (bit_and w mask) k j l low)
      (λ high. moved_up_high (bit_and w mask) k j l high ∙ and_bit w mask (j - k) ∙ ap (λ (b : Bool). bit w (j - k) && b) ((pairs j l).0 on high) ∙ never (bit w (j - k)))
      (cases_lt j k) in
      ap₂ (λ (a b : Bool). (bit w (j + k) && a) || b) on none
      ∙ alone (bit w (j + k) && true) ∙ kept (bit w (j + k))
      ∙ ap (λ (b : Bool). bit w (cond b (j + k) (j - k))) (sym on)

  upper : bit mask j ≡ false → ((bit w (j + k) && bit mask j) || bit Above j) ≡ bit w (partner mask k j)
  upper off =
      let pair = (pairs j l).1 off in
      ap₂ (λ (a b : Bool). a || b)
      (ap (λ (b : Bool). bit w (j + k) && b) off ∙ never (bit w (j + k)))
      (moved_up_high (bit_and w mask) k j l pair.0 ∙ and_bit w mask (j - k) ∙ ap (λ (b : Bool). bit w (j - k) && b) pair.1 ∙ kept (bit w (j - k)))
      ∙ ap (λ (b : Bool). bit w (cond b (j + k) (j - k))) (sym off)

  pub exchanged : bit (bit_or (bit_and (w / 2 ^ k) mask) Above) j ≡ bit w (partner mask k j)
  exchanged =
      or_bit (bit_and (w / 2 ^ k) mask) Above j
      ∙ ap (λ (b : Bool). b || bit Above j) (and_bit (w / 2 ^ k) mask j ∙ ap (λ (b : Bool). b && bit mask j) (moved_down w k j))
      ∙ ⊎_elim lower upper (cases_Bool (bit mask j))

-- Whether the mask has the lower bits of pairs at one place, and that a test of all 64 places shows it.
abbrev paired : ℕ → ℕ → ℕ → Bool
paired mask k j = cond (bit mask j) (ltb j k || not (bit mask (j - k))) (not (ltb j k) && bit mask (j - k))

pairs_of : (mask k : ℕ) → T (below (paired mask k) 64) → Pairs mask k
pairs_of mask k all j l =
    let (lower, upper) = reads (bit mask j) (ltb j k) (bit mask (j - k)) ((below-T (paired mask k) 64).0 all j l) in (
      λ on high. lower on (le-ltb j k high),
      λ off. (⊎_elim (λ low. absurd (both_ways (ltb j k) (upper off).0 (lt-ltb j k low))) (λ high. high) (cases_lt j k), (upper off).1),
    )
  where
    reads : (here early up : Bool) → T (cond here (early || not up) (not early && up))
        → (here ≡ true → early ≡ false → up ≡ false) × (here ≡ false → (early ≡ false) × (up ≡ true))
    reads true true up t = (λ e f. absurd (both_ways true f refl), λ e. absurd (both_ways true e refl))
    reads true false false t = (λ e f. refl, λ e. absurd (both_ways true e refl))
    reads true false true t = absurd t
    reads false true up t = absurd t
    reads false false true t = (λ e. absurd (both_ways false refl e), λ e. (refl, refl))
    reads false false false t = absurd t

pub ones : Pairs 6148914691236517205 1
ones = pairs_of 6148914691236517205 1 tt

pub twos : Pairs 3689348814741910323 2
twos = pairs_of 3689348814741910323 2 tt

pub fours : Pairs 1085102592571150095 4
fours = pairs_of 1085102592571150095 4 tt

pub eights : Pairs 71777214294589695 8
eights = pairs_of 71777214294589695 8 tt

pub sixteens : Pairs 281470681808895 16
sixteens = pairs_of 281470681808895 16 tt

pub halves : Pairs 4294967295 32
halves = pairs_of 4294967295 32 tt

-- The places that the bits come from stay within the word, and all six exchanges together turn it over.
inside : (mask k : ℕ) → T (below (λ j. ltb (partner mask k j) 64) 64) → (j : ℕ) → j < 64 → partner mask k j < 64
inside mask k all j l =
    ⊎_elim (λ h. h) (λ h. absurd (subst T (le-ltb (partner mask k j) 64 h) ((below-T (λ i. ltb (partner mask k i) 64) 64).0 all j l)))
    (cases_lt (partner mask k j) 64)

abbrev origin : ℕ → ℕ
origin j =
    partner 6148914691236517205 1
    (partner 3689348814741910323 2
    (partner 1085102592571150095 4
    (partner 71777214294589695 8
    (partner 281470681808895 16
    (partner 4294967295 32 j)))))

from_the_end : (j : ℕ) → j < 64 → origin j ≡ 63 - j
from_the_end j l =
    ⊎_elim (λ e. e) (λ ne. absurd (subst T (ne_eqb (origin j) (63 - j) ne) ((below-T (λ i. eqb (origin i) (63 - i)) 64).0 tt j l)))
    (cases_eq (origin j) (63 - j))

module _ (w a b c d e r : ℕ) where
  abbrev Exchanged : ℕ → ℕ → ℕ → ℕ → Type 0
  Exchanged v u mask k = (j : ℕ) → j < 64 → bit u j ≡ bit v (partner mask k j)

  pub turned_over : Exchanged w a 6148914691236517205 1 → Exchanged a b 3689348814741910323 2 → Exchanged b c 1085102592571150095 4
      → Exchanged c d 71777214294589695 8 → Exchanged d e 281470681808895 16 → Exchanged e r 4294967295 32
      → (j : ℕ) → j < 64 → bit r j ≡ bit w (63 - j)
  turned_over first second third fourth fifth sixth j l =
      let at6 = inside 4294967295 32 tt j l in
      let at5 = inside 281470681808895 16 tt _ at6 in
      let at4 = inside 71777214294589695 8 tt _ at5 in
      let at3 = inside 1085102592571150095 4 tt _ at4 in
      let at2 = inside 3689348814741910323 2 tt _ at3 in
      sixth j l ∙ (fifth _ at6 ∙ (fourth _ at5 ∙ (third _ at4 ∙ (second _ at3 ∙ (first _ at2 ∙ ap (bit w) (from_the_end j l))))))
