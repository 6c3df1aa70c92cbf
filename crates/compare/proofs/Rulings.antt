-- What follows from the closing rule for the calls.
use Rattle.std.proofs.Common.{◌≡◌, ℕ, zero, suc, ◌+◌, ◌*◌, ◌<◌, ◌≤◌, Bool, true, false, not, T, Some, None, sym, refl, ap, subst, inl, inr, arith}
use native.Mathlib.Decide.{ℕ_discrete}
use Rattle.kripke.specs.Structure.{Kripke, Lawful}
use Rattle.kripke.specs.Rounds.{Same, Apart, total, ClosedDifferent, ClosedAlike, ClosedAfter, FirstClosed}
use Rattle.kripke.specs.Refusals.{Before, Clean, FirstBreach, Rules, number_of}
use Rattle.kripke.specs.declared.refusal.Cause.{Cause}
use Rattle.kripke.specs.declared.refusal.Cause.TheVariants.{ClosedComparison, StateNumber, OpenComparison, NotDifferent, FewPlaces}
use Rattle.kripke.specs.declared.refusal.Layer.TheVariants as layer
use Rattle.kripke.specs.declared.refusal.Refusal.{Refusal}
use Rattle.kripke.proofs.Reflect.{same-T, settled-T}
use Rattle.kripke.proofs.Closing.{still_open, alike_agree, different_separated}
use Rattle.refine.specs.Stages.{rested}
use Rattle.compare.specs.Closing.{level, Reached}
use Rattle.compare.specs.Breaches as breach
use Rattle.compare.specs.Breaches.{RoundBreach, ClassBreach, VerdictBreach, TableBreach, FormulaBreach, beyond, unclosed, undivided, no_difference, few}
use Rattle.compare.specs.Answers.{Decides}
use Rattle.compare.specs.declared.verdict.Outcome.{Outcome}
use Rattle.compare.specs.declared.verdict.Outcome.TheVariants.{Alike, Different}

pub not_T : (b : Bool) → T (not b) → ¬ T b
not_T true h t = h
not_T false h t = t

pub no_T : (b : Bool) → b ≡ false → ¬ T b
no_T b e t = subst T e t

module _ (a b : Kripke) (k : ℕ) where
  pub different_T : level a b k ≡ false → ClosedDifferent a b k
  different_T e s = no_T _ e ((same-T a b k a.initial b.initial).1 s)

  pub same_of : level a b k ≡ true → Same a b k a.initial b.initial
  same_of e = (same-T a b k a.initial b.initial).0 (subst T (sym e) tt)

pub alike_T : (a b : Kripke) (k : ℕ) → level a b k ≡ true → rested a b k ≡ true → ClosedAlike a b k
alike_T a b zero e r = subst T (sym r) tt
alike_T a b (suc k) e r = ((settled-T a b k).0 (subst T (sym r) tt), same_of a b (suc k) e)

rested-T : (a b : Kripke) (k : ℕ) → ClosedAlike a b k → T (rested a b k)
rested-T a b zero z = absurd z
rested-T a b (suc k) z = (settled-T a b k).1 z.0

-- An open comparison: its last round split something, if there was one.
pub open_moves : (a b : Kripke) (k : ℕ) → (¬ ClosedAfter a b k) → rested a b k ≡ false
open_moves a b k h = go (level a b k) (rested a b k) refl refl
  where
    go : (l r : Bool) → level a b k ≡ l → rested a b k ≡ r → rested a b k ≡ false
    go l false e f = f
    go false true e f = absurd (h (inl (different_T a b k e)))
    go true true e f = absurd (h (inr (alike_T a b k e f)))

pub reached_none : (a b : Kripke) (k : ℕ) → level a b k ≡ true → rested a b k ≡ false → Reached a b k None
reached_none a b k e f (inl d) = d (same_of a b k e)
reached_none a b k e f (inr z) = no_T _ f (rested-T a b k z)

-- Open after every number of rounds below k.
abbrev pub Fresh : Kripke → Kripke → ℕ → Type 0
Fresh a b k = (j : ℕ) → j < k → ¬ ClosedAfter a b j

pub fresh_more : (a b : Kripke) (k : ℕ) → Fresh a b k → (¬ ClosedAfter a b k) → Fresh a b (suc k)
fresh_more a b k h e j l = elim (ℕ_discrete j k) [
  | yes z ↦ subst (λ (i : ℕ). ¬ ClosedAfter a b i) (sym z) e
  | no z ↦ h j (omega arith)
]

module _ (q : ℕ) (a b : Kripke) (la : Lawful q a) (lb : Lawful q b) where
  -- An open comparison has had fewer rounds than there are states, and so any one no more.
  pub open_soon : (k : ℕ) → Fresh a b k → (¬ ClosedAfter a b k) → suc k ≤ total a b
  open_soon k h e = still_open q a b la lb k (λ j l. fresh_more a b k h e j (omega arith))

  pub fresh_soon : (k : ℕ) → Fresh a b k → k ≤ total a b
  fresh_soon zero h = omega arith
  fresh_soon (suc k) h = still_open q a b la lb k (λ j l. h j (omega arith))

  pub first_different : (k : ℕ) → Fresh a b k → ClosedDifferent a b k → FirstClosed a b k
  first_different k h d = (inl d, h)

  decides_different : (k : ℕ) → Fresh a b k → ClosedDifferent a b k → Decides a b k (record { rounds = k; outcome = Different })
  decides_different k h d =
      let z = (different_separated q a b la lb k (first_different k h d) d).0 in
      let x : Apart a b a.initial b.initial = (z.0, z.3) in
      record {
        rounds = refl;
        soon = fresh_soon k h;
        alike = (λ w. absurd (let y : ◌≡◌ {A = ℕ} 0 1 = cc in omega arith), λ w. absurd (w x));
        different = (λ w. x, λ w. refl);
      }

  decides_alike : (k : ℕ) → Fresh a b k → ClosedAlike a b k → Decides a b k (record { rounds = k; outcome = Alike })
  decides_alike k h r =
      let x : ¬ Apart a b a.initial b.initial = alike_agree q a b la lb k r in
      record {
        rounds = refl;
        soon = fresh_soon k h;
        alike = (λ w. x, λ w. refl);
        different = (λ w. absurd (let y : ◌≡◌ {A = ℕ} 0 1 = cc in omega arith), λ w. absurd (x w));
      }

  -- A closed comparison's verdict.
  pub decides : (k : ℕ) → Fresh a b k → (o : Outcome) → Reached a b k (Some o) → Decides a b k (record { rounds = k; outcome = o })
  decides k h Different r = decides_different k h r
  decides k h Alike r = decides_alike k h r

pub reached_closed : (a b : Kripke) (k : ℕ) (o : Outcome) → Reached a b k (Some o) → ClosedAfter a b k
reached_closed a b k Different r = inl r
reached_closed a b k Alike r = inr r

-- The refusal of the one breach that there can be.
refused : (V : Rules) (c : Cause) (p : ℕ) → ((d : Cause) (q : ℕ) → V d q → (d ≡ c) × (q ≡ p)) → V c p
    → (e : Refusal) → e ≡ record { cause = c; layer = layer.Comparison; place = p } → FirstBreach V layer.Comparison e
refused V c p one b e is = subst (λ (z : Refusal). FirstBreach V layer.Comparison z) (sym is) (record { broken = b; least = least; layered = refl })
  where
    least : (d : Cause) (q : ℕ) → Before d q c p → ¬ V d q
    least d q (inl l) v = omega (arith, l, ap number_of (one d q v).0)
    least d q (inr l) v = omega (arith, l.1, (one d q v).1)

module _ (a b : Kripke) (k : ℕ) where
  round_one : (d : Cause) (p : ℕ) → RoundBreach a b k d p → (d ≡ ClosedComparison) × (p ≡ k)
  round_one _ _ (breach.closed z) = (refl, refl)

  pub round_refused : ClosedAfter a b k → (e : Refusal) → e ≡ record { cause = ClosedComparison; layer = layer.Comparison; place = k }
      → FirstBreach (RoundBreach a b k) layer.Comparison e
  round_refused z = refused (RoundBreach a b k) _ _ round_one (breach.closed z)

  pub round_clean : (¬ ClosedAfter a b k) → Clean (RoundBreach a b k)
  round_clean h _ _ (breach.closed z) = h z

  verdict_one : (d : Cause) (p : ℕ) → VerdictBreach a b k d p → (d ≡ OpenComparison) × (p ≡ k)
  verdict_one _ _ (unclosed z) = (refl, refl)

  pub verdict_refused : (¬ ClosedAfter a b k) → (e : Refusal) → e ≡ record { cause = OpenComparison; layer = layer.Comparison; place = k }
      → FirstBreach (VerdictBreach a b k) layer.Comparison e
  verdict_refused z = refused (VerdictBreach a b k) _ _ verdict_one (unclosed z)

  pub verdict_clean : ClosedAfter a b k → Clean (VerdictBreach a b k)
  verdict_clean c _ _ (unclosed z) = z c

  table_one : (d : Cause) (p : ℕ) → TableBreach a b k d p → (d ≡ NotDifferent) × (p ≡ k)
  table_one _ _ (undivided z) = (refl, refl)

  pub table_refused : level a b k ≡ true → (e : Refusal) → e ≡ record { cause = NotDifferent; layer = layer.Comparison; place = k }
      → FirstBreach (TableBreach a b k) layer.Comparison e
  table_refused e = refused (TableBreach a b k) _ _ table_one (undivided (λ d. d (same_of a b k e)))

  pub table_clean : level a b k ≡ false → Clean (TableBreach a b k)
  table_clean e _ _ (undivided z) = z (different_T a b k e)

module _ (a b : Kripke) (i : ℕ) where
  class_one : (d : Cause) (p : ℕ) → ClassBreach a b i d p → (d ≡ StateNumber) × (p ≡ i)
  class_one _ _ (beyond z) = (refl, refl)

  pub class_refused : total a b ≤ i → (e : Refusal) → e ≡ record { cause = StateNumber; layer = layer.Comparison; place = i }
      → FirstBreach (ClassBreach a b i) layer.Comparison e
  class_refused h = refused (ClassBreach a b i) _ _ class_one (beyond h)

  pub class_clean : i < total a b → Clean (ClassBreach a b i)
  class_clean h _ _ (beyond z) = omega arith

module _ (a b : Kripke) (k places : ℕ) where
  formula_broken : (c : Cause) (p : ℕ) → TableBreach a b k c p → FormulaBreach a b k places c p
  formula_broken _ _ (undivided z) = no_difference z

  formula_least : (c : Cause) (p : ℕ) → TableBreach a b k c p → ((d : Cause) (q : ℕ) → Before d q c p → ¬ TableBreach a b k d q)
      → (d : Cause) (q : ℕ) → Before d q c p → ¬ FormulaBreach a b k places d q
  formula_least _ _ t h d q l (no_difference z) = h d q l (undivided z)
  formula_least _ _ (undivided y) h d q (inl l) (few z) = omega arith
  formula_least _ _ (undivided y) h d q (inr l) (few z) = omega (arith, l.0)

  -- Where the table is refused, so is the formula.
  pub formula_refused : (e : Refusal) → FirstBreach (TableBreach a b k) layer.Comparison e → FirstBreach (FormulaBreach a b k places) layer.Comparison e
  formula_refused e h = record { broken = formula_broken _ _ h.broken; least = formula_least _ _ h.broken h.least; layered = h.layered }

  places_least : Clean (TableBreach a b k) → (d : Cause) (p : ℕ) → Before d p FewPlaces places → ¬ FormulaBreach a b k places d p
  places_least h _ _ l (no_difference z) = h _ _ (undivided z)
  places_least h _ _ (inl l) (few z) = omega arith
  places_least h _ _ (inr l) (few z) = omega (arith, l.1)

  pub places_refused : Clean (TableBreach a b k) → places + 3 < 4 * total a b
      → (e : Refusal) → e ≡ record { cause = FewPlaces; layer = layer.Comparison; place = places } → FirstBreach (FormulaBreach a b k places) layer.Comparison e
  places_refused h l e is = subst (λ (z : Refusal). FirstBreach (FormulaBreach a b k places) layer.Comparison z) (sym is)
      (record { broken = few l; least = places_least h; layered = refl })

  pub formula_clean : Clean (TableBreach a b k) → 4 * total a b ≤ places + 3 → Clean (FormulaBreach a b k places)
  formula_clean h l _ _ (no_difference z) = h _ _ (undivided z)
  formula_clean h l _ _ (few z) = omega arith
