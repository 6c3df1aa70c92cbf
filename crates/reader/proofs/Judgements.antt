-- The verdict on a text, from the two readings of it.
use Rattle.std.proofs.Common.{◌≡◌, ℕ, ◌+◌, ◌<◌, ◌⊎◌, List, ◌++◌, length, drop, Ok, Err, Result, sym, refl, ap, ◌∙◌, subst, inl, inr, ⊎_elim, arith}
use Rattle.kripke.specs.Ctl.{Formula}
use Rattle.kripke.specs.Refusals.{FirstBreachBy, JudgedBy}
use Rattle.kripke.specs.declared.node.Node.{Node}
use Rattle.kripke.specs.declared.refusal.Refusal.{Refusal}
use Rattle.kripke.specs.declared.refusal.Cause.{Cause}
use Rattle.kripke.specs.declared.refusal.Cause.TheVariants as cause
use Rattle.kripke.specs.declared.refusal.Layer.TheVariants as layer
use Rattle.reader.specs.Grammar.{Sentence, Within}
use Rattle.reader.specs.Table.{table}
use Rattle.reader.specs.Breaches.{TextBreach, long, unlimited, unexpected, unasked, deep, many, Sooner, Reads, Limited, Readable, Complete, Refuses}
use Rattle.reader.specs.Reading.{Parsed}
use Rattle.reader.proofs.Tables.{root_is}
use Rattle.reader.proofs.Lawful.{well_formed}
use Rattle.reader.proofs.Places.{laid_whole}
use Rattle.reader.proofs.Verdicts.{one_formula, spotless, clean, not_both}

-- What a refusal is made of.
abbrev Is : Refusal → Cause → ℕ → Type 0
Is e k p = e ≡ record { cause = k; layer = layer.Text; place = p }

first_by : (V : Cause → ℕ → Type 0) (e : Refusal) (k : Cause) (p : ℕ) → Is e k p → V k p → ((d : Cause) (q : ℕ) → Sooner d q k p → ¬ V d q) → FirstBreachBy Sooner V layer.Text e
first_by V e k p is b l = subst (FirstBreachBy Sooner V layer.Text) (sym is) (record { broken = b; least = l; layered = refl })

pub limits_told : (text : List ℕ) (q places : ℕ) (e : Refusal) → (4096 < length text) ⊎ ((q ≡ 0) ⊎ (32 < q)) → Is e cause.TextLimits 0 → FirstBreachBy Sooner (TextBreach text q places) layer.Text e
limits_told text q places e h is = first_by (TextBreach text q places) e cause.TextLimits 0 is (⊎_elim long unlimited h) least
  where
    never : (n m : ℕ) → ¬ ((n < 0) ⊎ ((n ≡ 0) × ((m < 0) ⊎ ((m ≡ 0) × (9 < 9)))))
    never n m (inl a) = omega arith
    never n m (inr (a, inl b)) = omega arith
    never n m (inr (a, inr b)) = omega (arith, b.1)

    late : (n k p : ℕ) → 0 < n → ¬ ((n < 0) ⊎ ((n ≡ 0) × ((p < 0) ⊎ ((p ≡ 0) × (k < 9)))))
    late n k p l (inl a) = omega arith
    late n k p l (inr a) = omega (arith, a.0)

    least : (d : Cause) (p : ℕ) → Sooner d p cause.TextLimits 0 → ¬ TextBreach text q places d p
    least d p so (long g) = never 0 0 so
    least d p so (unlimited g) = never 0 0 so
    least d p so (unexpected ts s g v w) = late 1 10 p (omega arith) so
    least d p so (unasked ts s j g i v l) = late 1 11 p (omega arith) so
    least d p so (deep ts s f ps qs g i k) = late 1 12 p (omega arith) so
    least d p so (many f g l) = late 2 13 p (omega arith) so

module _ (text : List ℕ) (q places : ℕ) (lim : Limited text q) (f : Formula) (is : Sentence text f) (wi : Within q f) where
  pub many_told : (e : Refusal) → (places < length (table f)) ⊎ (2045 < length (table f)) → Is e cause.ManyNodes (length (table f)) → FirstBreachBy Sooner (TextBreach text q places) layer.Text e
  many_told e h tells = first_by (TextBreach text q places) e cause.ManyNodes (length (table f)) tells (many f is h) least
    where
      same : (p n : ℕ) → p ≡ n → ¬ ((2 < 2) ⊎ ((◌≡◌ {A = ℕ} 2 2) × ((p < n) ⊎ ((p ≡ n) × (13 < 13)))))
      same p n e (inl a) = omega arith
      same p n e (inr (a, inl b)) = omega arith
      same p n e (inr (a, inr b)) = omega (arith, b.1)

      least : (d : Cause) (p : ℕ) → Sooner d p cause.ManyNodes (length (table f)) → ¬ TextBreach text q places d p
      least d p so (many g i l) = same (length (table g)) (length (table f)) (ap (λ x. length (table x)) (one_formula text g f i is)) so
      least d p so (long g) = spotless text q places lim f is wi d p (omega arith) (long g)
      least d p so (unlimited g) = spotless text q places lim f is wi d p (omega arith) (unlimited g)
      least d p so (unexpected ts s g v w) = spotless text q places lim f is wi d p (omega arith) (unexpected ts s g v w)
      least d p so (unasked ts s j g i v l) = spotless text q places lim f is wi d p (omega arith) (unasked ts s j g i v l)
      least d p so (deep ts s g ps qs i k r) = spotless text q places lim f is wi d p (omega arith) (deep ts s g ps qs i k r)

-- A text that is to be read is read.
pub read_so : (text : List ℕ) (q : ℕ) (before after : List Node) (f : Formula) (r : Result ℕ Refusal) → Readable text q (length before) f → Parsed text q before after r
    → JudgedBy Sooner r (record { breaches = TextBreach text q (length before); layer = layer.Text; accepted = Reads text q before after; refused = after ≡ before }) × Complete text q (length before) r
read_so text q before after f (Err e) w z = absurd (not_both text q (length before) w.limited e z f w.sentence w.within)
read_so text q before after f (Ok m) w z =
    let g : Formula = z.formula in
    let same : length (table f) ≡ length (table g) = ap (λ x. length (table x)) (one_formula text f g w.sentence z.sentence) in
    let l = w.room in
    let k = w.few in (
      (
        clean text q (length before) w.limited g z.sentence z.within (omega arith) (omega arith),
        record {
          formula = g;
          sentence = z.sentence;
          within = z.within;
          only = λ h i. one_formula text h g i z.sentence;
          counted = z.counted;
          written = z.written ∙ laid_whole before 0 (table g) (omega arith)
              ∙ (let e : 0 + length (table g) ≡ m = omega (arith, z.counted) in ap (λ (k : ℕ). table g ++ drop k before) e);
          rooted = root_is g;
          ordered = well_formed q g z.within;
        },
      ),
      tt,
    )

-- A text that breaks a rule is not to be read.
pub refuses : (text : List ℕ) (q places : ℕ) (e : Refusal) → FirstBreachBy Sooner (TextBreach text q places) layer.Text e → Refuses text q places e
refuses text q places e z =
    (z, λ f w. clean text q places w.limited f w.sentence w.within w.room w.few e.cause e.place z.broken)
