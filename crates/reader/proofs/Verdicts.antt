-- What the reader refuses is what is to be told first, and a text that it reads breaks no rule.
use Rattle.std.proofs.Common.{◌≡◌, ℕ, ◌<◌, ◌≤◌, ◌⊎◌, List, [], ◌∷◌, ◌++◌, length, sym, refl, ap, ◌∙◌, subst, ⊎_elim, append_assoc, append-nil, arith}
use Rattle.kripke.specs.Ctl.{Formula}
use Rattle.kripke.specs.Refusals.{number_of, Clean, FirstBreachBy}
use Rattle.kripke.specs.declared.refusal.Refusal.{Refusal}
use Rattle.kripke.specs.declared.refusal.Cause.{Cause}
use Rattle.kripke.specs.declared.refusal.Cause.TheVariants as cause
use Rattle.kripke.specs.declared.refusal.Layer.TheVariants as layer
use Rattle.reader.specs.declared.token.Token.{Token}
use Rattle.reader.specs.declared.token.Token.TheVariants as token
use Rattle.reader.specs.Tokens.{Stream, done, next, tokens, first, offset, kinds, After}
use Rattle.reader.specs.Grammar.{Mark, mark, marks, toks, whole, Sentence, Viable, Asked, All, Within}
use Rattle.reader.specs.Table.{table}
use Rattle.reader.specs.Breaches.{TextBreach, long, unlimited, unexpected, unasked, deep, many, stage, Sooner, Limited}
use Rattle.reader.specs.Phrases.{Exact, Form, Why, Refused}
use Rattle.reader.specs.Phrases as why
use Rattle.reader.specs.Reading.{Text}
use Rattle.reader.proofs.Streams.{Real, Rising, rising, rising_after, after_kinds, after_one, begins}
use Rattle.reader.proofs.Phrases.{toks-append, all_append, in_second}
use Rattle.reader.proofs.Heads.{unique}
use Rattle.reader.proofs.Clear.{expected, not_unasked, not_deep}
use Rattle.reader.proofs.Orders.{compare, nearer}

pub one_formula : (text : List ℕ) (f g : Formula) → Sentence text f → Sentence text g → f ≡ g
one_formula text f g e h =
    (unique f 1 g (token.End ∷ []) (token.End ∷ []) (sym (toks-append (marks 1 f) (mark token.End 0 ∷ [])) ∙ sym e ∙ h ∙ toks-append (marks 1 g) (mark token.End 0 ∷ []))).0

-- A sentence within the limits breaks no rule but that of its nodes.
module _ (text : List ℕ) (q places : ℕ) (lim : Limited text q) (f : Formula) (is : Sentence text f) (wi : Within q f) where
  good : All q (whole f)
  good = all_append q (marks 1 f) (mark token.End 0 ∷ []) wi ((omega arith, tt), tt)

  met : (ts : List Token) (s : Stream) → After (tokens 0 0 text) ts s → toks (whole f) ≡ ts ++ (first s ∷ (begins s).0)
  met ts s h = sym is ∙ after_kinds (tokens 0 0 text) ts s h ∙ ap (λ l. ts ++ l) (begins s).1

  pub spotless : (d : Cause) (p : ℕ) → number_of d < 13 → ¬ TextBreach text q places d p
  spotless d p n (long h) = omega (arith, lim.short)
  spotless d p n (unlimited h) = ⊎_elim (λ e. omega (arith, lim.some)) (λ e. omega (arith, lim.few)) h
  spotless d p n (unexpected ts s h v w) = w (expected q f (whole f) [] good (append-nil (whole f)) ts (first s) (begins s).0 (met ts s h))
  spotless d p n (unasked ts s j h e v l) = not_unasked q f (whole f) [] good (append-nil (whole f)) ts (first s) (begins s).0 (met ts s h) j e l
  spotless d p n (deep ts s g ps qs h e k) = not_deep q f (whole f) [] good (append-nil (whole f)) ts (first s) (begins s).0 (met ts s h) g ps qs e k
  spotless d p n (many g h l) = omega arith

  pub clean : length (table f) ≤ places → length (table f) ≤ 2045 → Clean (TextBreach text q places)
  clean a b d p (many g h l) =
      let e : length (table f) ≡ length (table g) = ap (λ x. length (table x)) (one_formula text f g is h) in
      ⊎_elim (λ z. omega arith) (λ z. omega arith) l
  clean a b d p (long h) = spotless d p (omega arith) (long h)
  clean a b d p (unlimited h) = spotless d p (omega arith) (unlimited h)
  clean a b d p (unexpected ts s h v w) = spotless d p (omega arith) (unexpected ts s h v w)
  clean a b d p (unasked ts s j h e v l) = spotless d p (omega arith) (unasked ts s j h e v l)
  clean a b d p (deep ts s g ps qs h e k) = spotless d p (omega arith) (deep ts s g ps qs h e k)

-- What is refused within the text is told first.
module _ (text : List ℕ) (q places : ℕ) (lim : Limited text q) (e : Refusal) (z : Refused Text q (tokens 0 0 text) e) where
  s : Stream
  s = tokens 0 0 text

  abbrev ts : List Token
  ts = toks z.pre

  abbrev t : Token
  t = first z.at

  goes_on : (v : List Mark) (i : ℕ) → z.w ≡ mark t i ∷ v → Viable (ts ++ (t ∷ []))
  goes_on v i h = (
    z.value.0,
    toks v,
    append_assoc ts (t ∷ []) (toks v) ∙ ap (λ l. ts ++ l) (ap toks (sym h)) ∙ sym (toks-append z.pre z.w) ∙ ap toks z.spelt,
  )

  breach : (k : Cause) → Why Text q z.pre z.w t k → TextBreach text q places k (offset z.at)
  breach k (why.unexpected h) = unexpected ts z.at z.after
      (z.value.0, toks z.w, sym (toks-append z.pre z.w) ∙ ap toks z.spelt)
      (λ x. h (x.0, tt) [] x.1 (sym (append_assoc ts (t ∷ []) x.1) ∙ x.2 ∙ sym (append-nil (toks (whole x.0)))))
  breach k (why.unasked v m j a b l) = unasked ts z.at j z.after b (goes_on v m a) l
  breach k (why.deep v a b) = deep ts z.at z.value.0 z.pre v z.after refl (ap (λ l. z.pre ++ l) (sym a) ∙ z.spelt)

  middle : (k : Cause) → Why Text q z.pre z.w t k → stage k ≡ 1
  middle k (why.unexpected h) = refl
  middle k (why.unasked v m j a b l) = refl
  middle k (why.deep v a b) = refl

  low : (k : Cause) → Why Text q z.pre z.w t k → number_of k < 13
  low k (why.unexpected h) = omega arith
  low k (why.unasked v m j a b l) = omega arith
  low k (why.deep v a b) = omega arith

  pub not_both : (f : Formula) → Sentence text f → ¬ Within q f
  not_both f is wi = spotless text q places lim f is wi e.cause (offset z.at) (low e.cause z.why) (breach e.cause z.why)

  -- A breach at another place that is told sooner stands in what was read; at the same place it is of a lower number.
  elsewhere : (d k : Cause) (us : List Token) (s2 : Stream) → After (tokens 0 0 text) us s2 → stage d ≡ stage k → Sooner d (offset s2) k (offset z.at)
      → ((m : List Token) → ¬ ts ≡ us ++ (first s2 ∷ m)) → ¬ (us ≡ ts → s2 ≡ z.at → ¬ number_of d < number_of k)
  elsewhere d k us s2 h st so inside same =
      ⊎_elim (λ y. inside y.0 y.1)
      (λ y. ⊎_elim (λ l. ⊎_elim (λ n. omega arith) (λ n. omega (arith, n.0)) near)
      (λ e.
      let there = after_one (tokens 0 0 text) us s2 z.at h (subst (λ (l : List Token). After (tokens 0 0 text) l z.at) e z.after) in
      let o = ap offset there in
      ⊎_elim (λ n. omega arith) (λ n. same (sym e) there n.1) near) y)
      (compare 0 (tokens 0 0 text) (rising 0 0 text) ts us z.at s2 z.after h)
    where
      near : (offset s2 < offset z.at) ⊎ ((offset s2 ≡ offset z.at) × (number_of d < number_of k))
      near = nearer d k (offset s2) (offset z.at) st so

  least : (k : Cause) → Why Text q z.pre z.w t k → (d : Cause) (p : ℕ) → Sooner d p k (offset z.at) → ¬ TextBreach text q places d p
  least k y d p so (long h) = omega (arith, lim.short)
  least k y d p so (unlimited h) = ⊎_elim (λ e. omega (arith, lim.some)) (λ e. omega (arith, lim.few)) h
  least k y d p so (unexpected us s2 h v w) =
      elsewhere cause.Unexpected k us s2 h (sym (middle k y)) so
      (λ m e. w (expected q z.value.0 z.pre z.w z.good z.spelt us (first s2) m e))
      (λ e there n. w (subst (λ (l : List Token). Viable (l ++ (first s2 ∷ []))) (sym e) (subst (λ (x : Stream). Viable (ts ++ (first x ∷ []))) (sym there) (on k y n))))
    where
      on : (k : Cause) → Why Text q z.pre z.w t k → 10 < number_of k → Viable (ts ++ (t ∷ []))
      on k (why.unexpected h) n = absurd (omega arith)
      on k (why.unasked v m j a b l) n = goes_on v m a
      on k (why.deep v a b) n = goes_on v 65 a
  least k y d p so (unasked us s2 j h i v l) =
      elsewhere cause.QuestionNumber k us s2 h (sym (middle k y)) so
      (λ m e. not_unasked q z.value.0 z.pre z.w z.good z.spelt us (first s2) m e j i l)
      (λ e there n. below k y n (ap first (sym there) ∙ i))
    where
      below : (k : Cause) → Why Text q z.pre z.w t k → 11 < number_of k → ¬ t ≡ token.Question j
      below k (why.unexpected h) n i = omega arith
      below k (why.unasked v m j a b l) n i = omega arith
      below k (why.deep v a b) n i = let g : j < q = subst (Asked q) i b in omega arith
  least k y d p so (deep us s2 g ps qs h i r) =
      elsewhere cause.TooDeep k us s2 h (sym (middle k y)) so
      (λ m e. not_deep q z.value.0 z.pre z.w z.good z.spelt us (first s2) m e g ps qs i r)
      (λ e there n. last k y n)
    where
      last : (k : Cause) → Why Text q z.pre z.w t k → ¬ 12 < number_of k
      last k (why.unexpected h) n = omega arith
      last k (why.unasked v m j a b l) n = omega arith
      last k (why.deep v a b) n = omega arith
  least k y d p so (many g h l) = let m = middle k y in ⊎_elim (λ n. omega arith) (λ n. omega (arith, n.0)) so

  pub first_breach : FirstBreachBy Sooner (TextBreach text q places) layer.Text e
  first_breach = record {
    broken = subst (TextBreach text q places e.cause) z.here (breach e.cause z.why);
    least = λ d p so b. least e.cause z.why d p (subst (Sooner d p e.cause) (sym z.here) so) b;
    layered = z.layered;
  }

-- A formula, and then the end of the text, or something else.
ends : (m : ℕ) (s : Stream) → Rising m s → first s ≡ token.End → kinds s ≡ token.End ∷ []
ends m (done o) r e = refl
ends m (next o t s) r e = absurd (subst Real e r.1)

pub sentence : (text : List ℕ) (f : Formula) (s : Stream) → After (tokens 0 0 text) (toks (marks 1 f)) s → first s ≡ token.End → Sentence text f
sentence text f s h e =
    let z = rising_after 0 (tokens 0 0 text) (toks (marks 1 f)) s h (rising 0 0 text) in
    after_kinds (tokens 0 0 text) (toks (marks 1 f)) s h ∙ ap (λ l. toks (marks 1 f) ++ l) (ends z.0 s z.2 e) ∙ sym (toks-append (marks 1 f) (mark token.End 0 ∷ []))

pub goes_past : (text : List ℕ) (q : ℕ) (f : Formula) (s : Stream) (e : Refusal) → After (tokens 0 0 text) (toks (marks 1 f)) s → All q (marks 1 f) → Refused (Exact token.End) q s e
    → Refused Text q (tokens 0 0 text) e
goes_past text q f s e h al z = in_second (Form 1) (Exact token.End) (λ g. unique g 1) q (tokens 0 0 text) s e f h al z
