-- Phrases one after another: they are read in one way, and a refusal of a part is one of the whole.
use Rattle.std.proofs.Common.{◌≡◌, ℕ, ◌+◌, ◌-◌, List, [], ◌∷◌, ◌++◌, sym, refl, ap, ◌∙◌, subst, append_assoc, arith, ◌≢◌}
use Rattle.kripke.specs.declared.refusal.Refusal.{Refusal}
use Rattle.kripke.specs.declared.refusal.Cause.{Cause}
use Rattle.kripke.specs.declared.refusal.Cause.TheVariants as cause
use Rattle.kripke.specs.declared.refusal.Layer.TheVariants as layer
use Rattle.reader.specs.declared.token.Token.{Token}
use Rattle.reader.specs.declared.token.Token.TheVariants as token
use Rattle.reader.specs.declared.token.Sign.TheVariants as sign
use Rattle.reader.specs.declared.head.Opening.{Opening}
use Rattle.reader.specs.declared.head.Opening.TheVariants.{Pair, Until}
use Rattle.reader.specs.Tokens.{Stream, first, offset, After}
use Rattle.reader.specs.Grammar.{Mark, mark, toks, All}
use Rattle.reader.specs.Phrases.{Phrase, Then, Nothing, Exact, conj, disj, Linked, Opened, Middle, Why, unexpected, unasked, deep, Refused}
use Rattle.reader.proofs.Streams.{after-append}

pub toks-append : (a b : List Mark) → toks (a ++ b) ≡ toks a ++ toks b
toks-append [] b = refl
toks-append (mark t m ∷ a) b = ap (λ l. t ∷ l) (toks-append a b)

pub toks_then : (a b : List Mark) (r : List Token) → toks (a ++ b) ++ r ≡ toks a ++ (toks b ++ r)
toks_then a b r = ap (λ l. l ++ r) (toks-append a b) ∙ append_assoc (toks a) (toks b) r

pub all_append : (c : ℕ) (a b : List Mark) → All c a → All c b → All c (a ++ b)
all_append c [] b h g = g
all_append c (mark t m ∷ a) b h g = (h.0, all_append c a b h.1 g)

pub all_left : (c : ℕ) (a b : List Mark) → All c (a ++ b) → All c a
all_left c [] b h = tt
all_left c (mark t m ∷ a) b h = (h.0, all_left c a b h.1)

pub all_right : (c : ℕ) (a b : List Mark) → All c (a ++ b) → All c b
all_right c [] b h = h
all_right c (mark t m ∷ a) b h = all_right c a b h.1

pub clash : {A : Type 0} → ◌≡◌ {A = ℕ} 0 1 → A
clash z = absurd (let y : ◌≡◌ {A = ℕ} 0 1 = z in omega arith)

-- One reading.
abbrev pub UniqueAt : (P : Phrase) → P.A → Type 0
UniqueAt P a = (b : P.A) (r s : List Token) → toks (P.mk a) ++ r ≡ toks (P.mk b) ++ s → (a ≡ b) × (r ≡ s)

abbrev pub Unique : Phrase → Type 0
Unique P = (a : P.A) → UniqueAt P a

pub seq_unique : (P Q : Phrase) (a : P.A) (b : Q.A) → UniqueAt P a → UniqueAt Q b → UniqueAt (Then P Q) (a, b)
seq_unique P Q a b ua ub y r s e =
    let z = ua y.0 (toks (Q.mk b) ++ r) (toks (Q.mk y.1) ++ s) (sym (toks_then (P.mk a) (Q.mk b) r) ∙ e ∙ toks_then (P.mk y.0) (Q.mk y.1) s) in
    let x = ub y.1 r s z.1 in
    (ap (λ (a' : P.A). (a', b)) z.0 ∙ ap (λ (b' : Q.A). (y.0, b')) x.0, x.1)

pub nothing_unique : Unique Nothing
nothing_unique x y r s e = (refl, e)

pub exact_unique : (t : Token) → Unique (Exact t)
exact_unique t x y r s e = (refl, cc)

pub link_unique : Unique Linked
link_unique conj conj r s e = (refl, cc)
link_unique conj disj r s e = clash cc
link_unique disj conj r s e = clash cc
link_unique disj disj r s e = (refl, cc)

pub opened_unique : (o : Opening) → Unique (Opened o)
opened_unique Pair = nothing_unique
opened_unique (Until q) = exact_unique (token.Sign sign.Left)

pub middle_unique : (o : Opening) → Unique (Middle o)
middle_unique Pair = link_unique
middle_unique (Until q) = exact_unique (token.Sign sign.Until)

-- A refusal within the first of two phrases.
pub in_first : (P Q : Phrase) (c : ℕ) (s : Stream) (e : Refusal) → Refused P c s e → Refused (Then P Q) c s e
in_first P Q c s e z = record {
  pre = z.pre;
  w = z.w ++ Q.mk Q.any;
  value = (z.value, Q.any);
  at = z.at;
  after = z.after;
  good = z.good;
  spelt = sym (append_assoc z.pre z.w (Q.mk Q.any)) ∙ ap (λ l. l ++ Q.mk Q.any) z.spelt;
  here = z.here;
  layered = z.layered;
  why = go e.cause z.why;
}
  where
    go : (k : Cause) → Why P c z.pre z.w (first z.at) k → Why (Then P Q) c z.pre (z.w ++ Q.mk Q.any) (first z.at) k
    go k (unexpected h) = unexpected (λ y r v q. h y.0 (toks (Q.mk y.1) ++ r) v (q ∙ toks_then (P.mk y.0) (Q.mk y.1) r))
    go k (unasked v m j a b l) = unasked (v ++ Q.mk Q.any) m j (ap (λ l. l ++ Q.mk Q.any) a) b l
    go k (deep v a b) = deep (v ++ Q.mk Q.any) (ap (λ l. l ++ Q.mk Q.any) a) b

-- A refusal within the second.
pub in_second : (P Q : Phrase) → Unique P → (c : ℕ) (s s1 : Stream) (e : Refusal) (a : P.A)
    → After s (toks (P.mk a)) s1 → All c (P.mk a) → Refused Q c s1 e → Refused (Then P Q) c s e
in_second P Q unique c s s1 e a af al z = record {
  pre = P.mk a ++ z.pre;
  w = z.w;
  value = (a, z.value);
  at = z.at;
  after = subst (λ (l : List Token). After s l z.at) (sym (toks-append (P.mk a) z.pre)) (after-append s (toks (P.mk a)) (toks z.pre) s1 z.at af z.after);
  good = all_append c (P.mk a) z.pre al z.good;
  spelt = append_assoc (P.mk a) z.pre z.w ∙ ap (λ l. P.mk a ++ l) z.spelt;
  here = z.here;
  layered = z.layered;
  why = go e.cause z.why;
}
  where
    go : (k : Cause) → Why Q c z.pre z.w (first z.at) k → Why (Then P Q) c (P.mk a ++ z.pre) z.w (first z.at) k
    go k (unexpected h) = unexpected (λ y r v q.
        h y.1 r v (unique a y.0 (toks z.pre ++ (first z.at ∷ v)) (toks (Q.mk y.1) ++ r)
        (sym (toks_then (P.mk a) z.pre (first z.at ∷ v)) ∙ q ∙ toks_then (P.mk y.0) (Q.mk y.1) r)).1)
    go k (unasked v m j a b l) = unasked v m j a b l
    go k (deep v a b) = deep v a b

-- The two read one after the other.
pub both_taken : (P Q : Phrase) (c : ℕ) (s s1 s2 : Stream) (a : P.A) (b : Q.A) → After s (toks (P.mk a)) s1 → All c (P.mk a)
    → After s1 (toks (Q.mk b)) s2 → All c (Q.mk b) → After s (toks (P.mk a ++ Q.mk b)) s2 × All c (P.mk a ++ Q.mk b)
both_taken P Q c s s1 s2 a b h al g bl = (
  subst (λ (l : List Token). After s l s2) (sym (toks-append (P.mk a) (Q.mk b))) (after-append s (toks (P.mk a)) (toks (Q.mk b)) s1 s2 h g),
  all_append c (P.mk a) (Q.mk b) al bl,
)

-- The refusal tells the cause at the next token of s.
abbrev pub text_refusal : Cause → Stream → Refusal
text_refusal k s = record { cause = k; layer = layer.Text; place = offset s }

-- So does a refusal whose place is so many bytes before an offset, where that token ends.
pub told_at : (P : Phrase) (c : ℕ) (s : Stream) (k : Cause) (n o : ℕ) (e : Refusal) → offset s + n ≡ o → e ≡ record { cause = k; layer = layer.Text; place = o - n } → Refused P c s (text_refusal k s)
    → Refused P c s e
told_at P c s k n o e h is =
    let p : offset s ≡ o - n = omega (arith, h) in subst (Refused P c s) (ap (λ (q : ℕ). record { cause = k; layer = layer.Text; place = q }) p ∙ sym is)

-- A refusal where no token was taken.
pub nothing_taken : (P : Phrase) (c : ℕ) (s : Stream) → ((y : P.A) (r v : List Token) → first s ∷ v ≢ toks (P.mk y) ++ r) → Refused P c s (text_refusal cause.Unexpected s)
nothing_taken P c s h = record { pre = []; w = P.mk P.any; value = P.any; at = s; after = refl; good = tt; spelt = refl; here = refl; layered = refl; why = unexpected h }
