-- Where the sweeps were enough, the marks tell where the formula holds.
use Rattle.std.proofs.Common.{ℕ, zero, suc, Bool, not, ◌&&◌, ◌||◌, T, refl, ⊎_elim, T_not}
use Rattle.std.proofs.lemmas.Bool.{or_cases, or_left, and_parts, and_from}
use Rattle.kripke.specs.Structure.{Kripke, Lawful, size, successors}
use Rattle.kripke.specs.Ctl.{Formula, truth, question, and, or, EX, AX, EF, AF, EG, AG, EU, AU, Until, Always}
use Rattle.kripke.proofs.Reflect.{T_true, and_T, or_T, below-T}
use Rattle.evaluator.specs.Rows.{TruthRow}
use Rattle.evaluator.specs.Marks.{Divides, Marked, Still, Trim, Whole, steps}
use Rattle.kripke.specs.Quantifiers.{dual}
use Rattle.kripke.specs.declared.quantifier.Quantifier.{Quantifier}
use Rattle.kripke.specs.declared.quantifier.Quantifier.TheVariants as quantifier
use Rattle.evaluator.proofs.Untils.{one_more}
use Rattle.evaluator.proofs.Sweeps.{Grown, sown, reaped}
use Rattle.evaluator.proofs.Nexts.{next_divides}
use Rattle.evaluator.proofs.Turns.{always_divides}
use Rattle.evaluator.proofs.Meanings.{is_true, is_question, is_not, is_and, is_or, is_ex, is_ax, is_ef, is_af, is_eg, is_ag, is_eu, is_au}
use Rattle.examples.proofs.Tests.{whole, turned, grown, until, still, marks, enough}

module _ (n : ℕ) (k : Kripke) (law : Lawful n k) where
  all : Whole k (whole k)
  all s l = refl

  grown_grown : (e : Quantifier) (f g : ℕ → Bool) (j : ℕ) → Grown k e f g (grown k e f g j)
  grown_grown e f g zero = sown n k law e f g
  grown_grown e f g (suc j) =
      let more = λ (s : ℕ). f s && steps e (grown k e f g j) (successors k s) in
      let a = grown_grown e f g j in
      record {
        above = λ s l on. or_left (grown k e f g j s) (more s) (a.above s l on);
        sound = λ s h on. ⊎_elim
            (λ old. a.sound s h old)
            (λ new. let (hf, st) = and_parts (f s) (steps e (grown k e f g j) (successors k s)) new in one_more k law.closed f g e (grown k e f g j) a.sound s h hf st)
            (or_cases (grown k e f g j s) (more s) on);
        trim = λ within t s h l. rw (a.trim within t s h l, within s h l) refl;
      }

  still_T : (e : Quantifier) (f q : ℕ → Bool) → T (still k e f q) → Still k e f q
  still_T e f q t s h hf on =
      ⊎_elim
      (λ no. absurd (T_not (f s && steps e q (successors k s)) no ((T_true _).1 (and_from (f s) (steps e q (successors k s)) hf on))))
      (λ yes. (T_true (q s)).0 yes)
      ((or_T (not (f s && steps e q (successors k s))) (q s)).0 ((below-T (λ s. not (f s && steps e q (successors k s)) || q s) (size k)).0 t s h))

  until_divides : (e : Quantifier) (f g : ℕ → Bool) → T (still k e f (until k e f g)) → Trim k f → Trim k g → Divides k e (Until (Marked f) (Marked g)) (until k e f g)
  until_divides e f g t = reaped n k law e f g (until k e f g) (grown_grown e f g (size k)) (still_T e f (until k e f g) t)

  -- A path leaves f when it comes to a state that is not marked.
  always : (e : Quantifier) (f : Formula) → T (still k (dual e) (whole k) (until k (dual e) (whole k) (turned k (marks k f))))
      → Trim k (marks k f) → Divides k e (Always (Marked (marks k f))) (turned k (until k (dual e) (whole k) (turned k (marks k f))))
  always e f t =
      always_divides n k law (whole k) all (marks k f) (turned k (marks k f)) (λ s l. refl) e (dual e) (until k (dual e) (whole k) (turned k (marks k f)))
      (turned k (until k (dual e) (whole k) (turned k (marks k f)))) refl (until_divides (dual e) (whole k) (turned k (marks k f)) t) (λ s l. refl)

  pub marks_tell : (f : Formula) → T (enough k f) → TruthRow k f (marks k f)
  unfolding marks enough
  marks_tell truth t = is_true n k law (whole k) all
  marks_tell (question i) t = is_question n k law i (marks k (question i)) (λ s l. refl)
  marks_tell (Formula.not f) t = is_not n k law f (marks k f) (marks k (Formula.not f)) (marks_tell f t) (λ s l. refl)
  marks_tell (and f g) t =
      let (x, y) = (and_T (enough k f) (enough k g)).0 t in
      is_and n k law f g (marks k f) (marks k g) (marks k (and f g)) (marks_tell f x) (marks_tell g y) (λ s l. refl)
  marks_tell (or f g) t =
      let (x, y) = (and_T (enough k f) (enough k g)).0 t in
      is_or n k law f g (marks k f) (marks k g) (marks k (or f g)) (marks_tell f x) (marks_tell g y) (λ s l. refl)
  marks_tell (EX f) t = is_ex n k law f (marks k f) (marks k (EX f)) (marks_tell f t) (next_divides n k law quantifier.Exists (marks k f) (marks k (EX f)) (λ s l. refl))
  marks_tell (AX f) t = is_ax n k law f (marks k f) (marks k (AX f)) (marks_tell f t) (next_divides n k law quantifier.ForAll (marks k f) (marks k (AX f)) (λ s l. refl))
  marks_tell (EF f) t =
      let (x, y) = (and_T (enough k f) (still k quantifier.Exists (whole k) (until k quantifier.Exists (whole k) (marks k f)))).0 t in
      is_ef n k law (whole k) all f (marks k f) (marks k (EF f)) (marks_tell f x) (until_divides quantifier.Exists (whole k) (marks k f) y)
  marks_tell (AF f) t =
      let (x, y) = (and_T (enough k f) (still k quantifier.ForAll (whole k) (until k quantifier.ForAll (whole k) (marks k f)))).0 t in
      is_af n k law (whole k) all f (marks k f) (marks k (AF f)) (marks_tell f x) (until_divides quantifier.ForAll (whole k) (marks k f) y)
  marks_tell (EG f) t =
      let (x, y) = (and_T (enough k f) (still k quantifier.ForAll (whole k) (until k quantifier.ForAll (whole k) (turned k (marks k f))))).0 t in
      is_eg n k law f (marks k f) (marks k (EG f)) (marks_tell f x) (always quantifier.Exists f y)
  marks_tell (AG f) t =
      let (x, y) = (and_T (enough k f) (still k quantifier.Exists (whole k) (until k quantifier.Exists (whole k) (turned k (marks k f))))).0 t in
      is_ag n k law f (marks k f) (marks k (AG f)) (marks_tell f x) (always quantifier.ForAll f y)
  marks_tell (EU f g) t =
      let (x, z) = (and_T (enough k f && enough k g) (still k quantifier.Exists (marks k f) (until k quantifier.Exists (marks k f) (marks k g)))).0 t in
      let (u, v) = (and_T (enough k f) (enough k g)).0 x in
      is_eu n k law f g (marks k f) (marks k g) (marks k (EU f g)) (marks_tell f u) (marks_tell g v) (until_divides quantifier.Exists (marks k f) (marks k g) z)
  marks_tell (AU f g) t =
      let (x, z) = (and_T (enough k f && enough k g) (still k quantifier.ForAll (marks k f) (until k quantifier.ForAll (marks k f) (marks k g)))).0 t in
      let (u, v) = (and_T (enough k f) (enough k g)).0 x in
      is_au n k law f g (marks k f) (marks k g) (marks k (AU f g)) (marks_tell f u) (marks_tell g v) (until_divides quantifier.ForAll (marks k f) (marks k g) z)
