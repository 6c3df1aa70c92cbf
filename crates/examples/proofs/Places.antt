-- The places of a formula that tells two structures apart: enough of them, or too few.
use Rattle.std.proofs.Common.{ℕ, ◌+◌, ◌*◌, ◌<◌, ◌≤◌, refl, ⊎_elim, arith}
use Rattle.kripke.specs.Structure.{Kripke}
use Rattle.kripke.specs.Rounds.{ClosedDifferent, total}
use Rattle.kripke.specs.Refusals.{Before, Clean, FirstBreach}
use Rattle.kripke.specs.declared.refusal.Cause.{Cause}
use Rattle.kripke.specs.declared.refusal.Cause.TheVariants.{FewPlaces}
use Rattle.kripke.specs.declared.refusal.Layer.TheVariants as layer
use Rattle.compare.specs.Breaches.{FormulaBreach, no_difference, few}

module _ (a b : Kripke) (k places : ℕ) (different : ClosedDifferent a b k) where
  pub places_enough : 4 * total a b ≤ places + 3 → Clean (FormulaBreach a b k places)
  places_enough room d p (no_difference same) = same different
  places_enough room d p (few less) = omega (arith, room, less)

  pub places_few : places + 3 < 4 * total a b → FirstBreach (FormulaBreach a b k places) layer.Comparison (record { cause = FewPlaces; layer = layer.Comparison; place = places })
  places_few less = record { broken = few less; least = refute; layered = refl }
    where
      refute : (d : Cause) (p : ℕ) → Before d p FewPlaces places → ¬ FormulaBreach a b k places d p
      refute d p before (no_difference same) = same different
      refute d p before (few l) = ⊎_elim (λ n. omega arith) (λ n. omega arith) before
