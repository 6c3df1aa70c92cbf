-- A formula from its first token and what follows it: the exits of the reader of formulas.
use Rattle.std.proofs.Common.{◌≡◌, ℕ, suc, ◌+◌, List, [], ◌∷◌, ◌++◌, sym, refl, ap, ◌∙◌, subst, add-one}
use Rattle.kripke.specs.Ctl.{Formula, truth, question}
use Rattle.kripke.specs.declared.operator.Operator.{Operator}
use Rattle.kripke.specs.declared.refusal.Refusal.{Refusal}
use Rattle.kripke.specs.declared.refusal.Cause.{Cause}
use Rattle.reader.specs.declared.token.Unary.{Unary}
use Rattle.reader.specs.declared.head.Opening.{Opening}
use Rattle.reader.specs.declared.head.Head.{Head}
use Rattle.reader.specs.declared.head.Head.TheVariants as head
use Rattle.reader.specs.Tokens.{Stream, first, After}
use Rattle.reader.specs.Grammar.{Mark, mark, marks, toks, All}
use Rattle.reader.specs.Phrases.{Phrase, Signed, Form, Opened, Middle, closing, joined, applied, opening, Why, unexpected, unasked, deep, Refused, Taken, Begun}
use Rattle.reader.proofs.Streams.{after-append}
use Rattle.reader.proofs.Phrases.{opened_unique, middle_unique, in_first, in_second, both_taken}
use Rattle.reader.proofs.Heads.{Last, Second, Arguments, Tail, built, built_marks, inverse, unique}

-- A head, and then its tail.
head_taken : (c l : ℕ) (s s1 s2 : Stream) (h : Head) (x : (Tail (suc l) h).A) → Begun c l s h s1 → After s1 (toks ((Tail (suc l) h).mk x)) s2 → All c ((Tail (suc l) h).mk x)
    → After s (toks (marks l (built (suc l) h x))) s2 × All c (marks l (built (suc l) h x))
head_taken c l s s1 s2 h x b af al = (
  subst (λ (m : List Mark). After s (toks m) s2) (sym (built_marks l h x)) (after-append s (opening h ∷ []) (toks ((Tail (suc l) h).mk x)) s1 s2 b.after af),
  subst (All c) (sym (built_marks l h x)) (b.good, al),
)

head_refused : (c l : ℕ) (s s1 : Stream) (h : Head) (e : Refusal) → Begun c l s h s1 → Refused (Tail (suc l) h) c s1 e → Refused (Form l) c s e
head_refused c l s s1 h e b z = record {
  pre = mark (opening h) l ∷ z.pre;
  w = z.w;
  value = built (suc l) h z.value;
  at = z.at;
  after = after-append s (opening h ∷ []) (toks z.pre) s1 z.at b.after z.after;
  good = (b.good, z.good);
  spelt = ap (λ m. mark (opening h) l ∷ m) z.spelt ∙ sym (built_marks l h z.value);
  here = z.here;
  layered = z.layered;
  why = go e.cause z.why;
}
  where
    go : (k : Cause) → Why (Tail (suc l) h) c z.pre z.w (first z.at) k → Why (Form l) c (mark (opening h) l ∷ z.pre) z.w (first z.at) k
    go k (unexpected g) = unexpected (λ y r v q. let i = inverse l h y r (toks z.pre ++ (first z.at ∷ v)) q in g i.0 r v i.2)
    go k (unasked v m j a b l) = unasked v m j a b l
    go k (deep v a b) = deep v a b

-- One level deeper.
deeper : (P : ℕ → Type 0) (l : ℕ) → P (l + 1) → P (suc l)
deeper P l = subst P (add-one l)

-- A formula is given with what holds of it.
taken : (c l : ℕ) (s s' : Stream) (f : Formula) (Is : Formula → ℕ → Type 0) (r : ℕ) → Is f r → After s (toks (marks l f)) s' × All c (marks l f) → Taken {R = ℕ} (Form l) Is c s r s'
taken c l s s' f Is r is h = record { value = f; is = is; after = h.0; good = h.1 }

-- A phrase on as many questions.
pub asked_so : {R : Type 0} (P : Phrase) (Is : P.A → R → Type 0) (c q : ℕ) (s s' : Stream) (r : R) → q ≡ c → Taken {R = R} P Is q s r s' → Taken {R = R} P Is c s r s'
asked_so {R} P Is c q s s' r e t = subst (λ (n : ℕ). Taken {R = R} P Is n s r s') e t

-- A formula of one token.
pub truth_taken : (c l : ℕ) (s s1 : Stream) → Begun c l s head.Truth s1 → (Is : Formula → ℕ → Type 0) (r : ℕ) → Is truth r → Taken {R = ℕ} (Form l) Is c s r s1
truth_taken c l s s1 b Is r is = taken c l s s1 truth Is r is (head_taken c l s s1 s1 head.Truth tt b refl tt)

pub question_taken : (c l : ℕ) (s s1 : Stream) (j : ℕ) → Begun c l s (head.Question j) s1 → (Is : Formula → ℕ → Type 0) (r : ℕ) → Is (question j) r → Taken {R = ℕ} (Form l) Is c s r s1
question_taken c l s s1 j b Is r is = taken c l s s1 (question j) Is r is (head_taken c l s s1 s1 (head.Question j) tt b refl tt)

-- An operator of one argument.
module _ (c l : ℕ) (s s1 : Stream) (u : Unary) (b : Begun c l s (head.Unary u) s1) where
  pub argument_fails : (e : Refusal) → Refused (Form (l + 1)) c s1 e → Refused (Form l) c s e
  argument_fails e z = head_refused c l s s1 (head.Unary u) e b (deeper (λ n. Refused (Form n) c s1 e) l z)

  pub applied_taken : (s2 : Stream) (Fs : Formula → ℕ → Type 0) (a : ℕ) (f : Taken {R = ℕ} (Form (l + 1)) Fs c s1 a s2) (Is : Formula → ℕ → Type 0) (r : ℕ) → Is (applied u f.value) r
      → Taken {R = ℕ} (Form l) Is c s r s2
  applied_taken s2 Fs a f Is r is =
      let g = deeper (λ n. After s1 (toks (marks n f.value)) s2 × All c (marks n f.value)) l (f.after, f.good) in
      taken c l s s2 (applied u f.value) Is r is (head_taken c l s s1 s2 (head.Unary u) f.value b g.0 g.1)

-- An operator of two arguments.
module _ (c l : ℕ) (o : Opening) (s s1 : Stream) (b : Begun c l s (head.Binary o) s1) where
  pub open_fails : (e : Refusal) → Refused (Opened o) c s1 e → Refused (Form l) c s e
  open_fails e z = head_refused c l s s1 (head.Binary o) e b (in_first (Opened o) (Arguments (suc l) o) c s1 e z)

  module _ (s2 : Stream) (x : Taken {R = Unit {0}} (Opened o) (λ _ _. Unit {0}) c s1 tt s2) where
    past_open : (e : Refusal) → Refused (Arguments (suc l) o) c s2 e → Refused (Form l) c s e
    past_open e z = head_refused c l s s1 (head.Binary o) e b (in_second (Opened o) (Arguments (suc l) o) (opened_unique o) c s1 s2 e x.value x.after x.good z)

    pub first_fails : (e : Refusal) → Refused (Form (l + 1)) c s2 e → Refused (Form l) c s e
    first_fails e z = past_open e (in_first (Form (suc l)) (Second (suc l) o) c s2 e (deeper (λ n. Refused (Form n) c s2 e) l z))

    module _ (s3 : Stream) (Fs : Formula → ℕ → Type 0) (a : ℕ) (f : Taken {R = ℕ} (Form (l + 1)) Fs c s2 a s3) where
      left : After s2 (toks (marks (suc l) f.value)) s3 × All c (marks (suc l) f.value)
      left = deeper (λ n. After s2 (toks (marks n f.value)) s3 × All c (marks n f.value)) l (f.after, f.good)

      past_first : (e : Refusal) → Refused (Second (suc l) o) c s3 e → Refused (Form l) c s e
      past_first e z = past_open e (in_second (Form (suc l)) (Second (suc l) o) (λ g. unique g (suc l)) c s2 s3 e f.value left.0 left.1 z)

      pub middle_fails : (e : Refusal) → Refused (Middle o) c s3 e → Refused (Form l) c s e
      middle_fails e z = past_first e (in_first (Middle o) (Last (suc l) o) c s3 e z)

      module _ (s4 : Stream) (Ms : (Middle o).A → Operator → Type 0) (k : Operator) (m : Taken {R = Operator} (Middle o) Ms c s3 k s4) where
        past_middle : (e : Refusal) → Refused (Last (suc l) o) c s4 e → Refused (Form l) c s e
        past_middle e z = past_first e (in_second (Middle o) (Last (suc l) o) (middle_unique o) c s3 s4 e m.value m.after m.good z)

        pub second_fails : (e : Refusal) → Refused (Form (l + 1)) c s4 e → Refused (Form l) c s e
        second_fails e z = past_middle e (in_first (Form (suc l)) (Signed (closing o)) c s4 e (deeper (λ n. Refused (Form n) c s4 e) l z))

        module _ (s5 : Stream) (Gs : Formula → ℕ → Type 0) (d : ℕ) (g : Taken {R = ℕ} (Form (l + 1)) Gs c s4 d s5) where
          right : After s4 (toks (marks (suc l) g.value)) s5 × All c (marks (suc l) g.value)
          right = deeper (λ n. After s4 (toks (marks n g.value)) s5 × All c (marks n g.value)) l (g.after, g.good)

          pub close_fails : (e : Refusal) → Refused (Signed (closing o)) c s5 e → Refused (Form l) c s e
          close_fails e z = past_middle e (in_second (Form (suc l)) (Signed (closing o)) (λ f. unique f (suc l)) c s4 s5 e g.value right.0 right.1 z)

          pub joined_taken : (s6 : Stream) → Taken {R = Unit {0}} (Signed (closing o)) (λ _ _. Unit {0}) c s5 tt s6 → (Is : Formula → ℕ → Type 0) (r : ℕ) → Is (joined o m.value f.value g.value) r
              → Taken {R = ℕ} (Form l) Is c s r s6
          joined_taken s6 y Is r is =
              let n : ℕ = suc l in
              let p = both_taken (Form n) (Signed (closing o)) c s4 s5 s6 g.value y.value right.0 right.1 y.after y.good in
              let q = both_taken (Middle o) (Last n o) c s3 s4 s6 m.value (g.value, y.value) m.after m.good p.0 p.1 in
              let t = both_taken (Form n) (Second n o) c s2 s3 s6 f.value (m.value, (g.value, y.value)) left.0 left.1 q.0 q.1 in
              let w = both_taken (Opened o) (Arguments n o) c s1 s2 s6 x.value (f.value, (m.value, (g.value, y.value))) x.after x.good t.0 t.1 in
              taken c l s s6 (joined o m.value f.value g.value) Is r is (head_taken c l s s1 s6 (head.Binary o) (x.value, (f.value, (m.value, (g.value, y.value)))) b w.0 w.1)
