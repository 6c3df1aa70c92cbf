-- Closing: formulas of every size separate what the rounds do, the comparison closes in time, and what it then means.
use Rattle.std.proofs.Common.{◌≡◌, ℕ, zero, suc, ◌<◌, ◌≤◌, inl, inr, ⊎_elim, arith}
use Rattle.std.proofs.lemmas.Bool.{cases_lt}
use Rattle.kripke.specs.Structure.{Kripke, Closed, Lawful, size}
use Rattle.kripke.specs.Ctl.{Formula, NextOnly, nesting}
use Rattle.kripke.specs.Rounds.{Same, Separates, Apart, Separated, Together, Inseparable, Settled, ClosedAlike, ClosedAfter, home, place, total}
use Rattle.kripke.specs.Theorems.{ApartByRounds, ModelsApart, ClosesInTime, AlikeAgree, DifferentSeparated, ClassByFormulas}
use Rattle.kripke.proofs.Either.{Either, either_not, either_and, either_or, surely, least_of}
use Rattle.kripke.proofs.Reflect.{same_either}
use Rattle.kripke.proofs.Sound.{unseparated, least_nesting}
use Rattle.kripke.proofs.Separate.{same_or_separated, same_when_inseparable}
use Rattle.kripke.proofs.Numbers.{first_listed, second_listed, home_closed, place_inside, settled_at}
use Rattle.kripke.proofs.Settle.{stable_agree}
use Rattle.kripke.proofs.Counts.{classes_counted, classes_grow, settles}

-- The same states of settled structures are not separated by any formula.
settled_together : (a b : Kripke) → Closed a → Closed b → (k : ℕ) → Settled a b k → (s t : ℕ) → s < size a → t < size b → Same a b k s t → ¬ Apart a b s t
settled_together a b la lb k st s t hs ht h (f, z) =
    unseparated a b s t f (stable_agree a b la lb k (settled_at a b k st a b (first_listed a b) (second_listed a b)) s t hs ht h f) z

pub apart_by_rounds : ApartByRounds
apart_by_rounds a b la lb s t hs ht = (forth, back)
  where
    forth : Apart a b s t → (k : ℕ) × (¬ Same a b k s t)
    forth apart =
        let (k, l, st) = settles a b (omega arith) in
        (k, λ h. settled_together a b la lb k st s t hs ht h apart)

    back : ((k : ℕ) × (¬ Same a b k s t)) → Apart a b s t
    back (k, n) = ⊎_elim (λ h. absurd (n h)) (λ (z : Separated a b k s t). (z.0, z.3)) (same_or_separated a b la lb k s t hs ht)

pub models_apart : ModelsApart
models_apart q a b la lb = apart_by_rounds a b la.closed lb.closed a.initial b.initial la.begins lb.begins

-- It is decided whether a round splits something, and whether the comparison is closed.
pub settled_either : (a b : Kripke) (k : ℕ) → Either (Settled a b k)
settled_either a b k =
    let (c, l, x, _) = classes_counted a b k in
    let (d, l', y, _) = classes_counted a b (suc k) in
    ⊎_elim (λ z. inl z.0) (λ z. inr z.0) (classes_grow a b k c d x y)

alike_either : (a b : Kripke) (k : ℕ) → Either (ClosedAlike a b k)
alike_either a b zero = inr (λ z. z)
alike_either a b (suc k) = either_and (settled_either a b k) (same_either a b (suc k) a.initial b.initial)

pub closed_either : (a b : Kripke) (k : ℕ) → Either (ClosedAfter a b k)
closed_either a b k = either_or (either_not (same_either a b k a.initial b.initial)) (alike_either a b k)

pub closes_in_time : ClosesInTime
closes_in_time q a b la lb =
    let (j, l, st) = settles a b (omega (arith, la.some)) in
    let done : ClosedAfter a b (suc j) = ⊎_elim (λ h. inr (st, h)) (λ n. inl n) (same_either a b (suc j) a.initial b.initial) in
    let (k, l', z, before) = least_of (ClosedAfter a b) (closed_either a b) (suc (suc j)) (suc j) (omega arith) done in
    (k, omega arith, (z, before))

-- While it is open after every number of rounds up to k, there are more states than that.
pub still_open : (q : ℕ) (a b : Kripke) → Lawful q a → Lawful q b → (k : ℕ) → ((j : ℕ) → j ≤ k → ¬ ClosedAfter a b j) → k < total a b
still_open q a b la lb k still =
    let (n, l, (z, _)) = closes_in_time q a b la lb in
    ⊎_elim (λ h. omega arith) (λ (h : n ≤ k). absurd (still n h z)) (cases_lt k n)

pub alike_agree : AlikeAgree
alike_agree q a b la lb zero z = absurd z
alike_agree q a b la lb (suc k) z = settled_together a b la.closed lb.closed k z.0 a.initial b.initial la.begins lb.begins z.1.0

pub different_separated : DifferentSeparated
different_separated q a b la lb k first different = (found, least)
  where
    -- Fewer rounds leave the initial states together, so what separates them nests deeper.
    deep : (k : ℕ) → ((j : ℕ) → j < k → ¬ ClosedAfter a b j) → (f : Formula) → NextOnly f → Separates a b a.initial b.initial f → k ≤ nesting f
    deep zero still f o z = omega arith
    deep (suc j) still f o z =
        least_nesting a b la.closed lb.closed j a.initial b.initial la.begins lb.begins
        (surely (same_either a b j a.initial b.initial) (λ n. still j (omega arith) (inl n))) f o z

    least : (f : Formula) → NextOnly f → Separates a b a.initial b.initial f → k ≤ nesting f
    least = deep k first.1

    found : (f : Formula) × NextOnly f × (nesting f ≡ k) × Separates a b a.initial b.initial f
    found =
        ⊎_elim (λ h. absurd (different h)) (λ (z : Separated a b k a.initial b.initial). (z.0, z.1, omega (arith, z.2, least z.0 z.1 z.3), z.3))
        (same_or_separated a b la.closed lb.closed k a.initial b.initial la.begins lb.begins)

-- The class number, by formulas.
pub class_by_formulas : ClassByFormulas
class_by_formulas a b la lb k i c hi hc = (
  λ z. ((to c hc).0 z.member, λ j h g. z.least j h ((to j h).1 g)),
  λ z. record { member = (to c hc).1 z.0; least = λ j h g. z.1 j h ((to j h).0 g) },
)
  where
    to : (j : ℕ) → j < total a b → (Together a b k i j → Inseparable a b k i j) × (Inseparable a b k i j → Together a b k i j)
    to j h =
        same_when_inseparable (home a b i) (home a b j) (home_closed a b la lb i) (home_closed a b la lb j) k (place a b i) (place a b j)
        (place_inside a b i hi) (place_inside a b j h)
