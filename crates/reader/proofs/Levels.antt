-- Two texts that begin with the same tokens begin with the same levels.
use Rattle.std.proofs.Common.{◌≡◌, ℕ, suc, ◌⊎◌, List, [], ◌∷◌, ◌++◌, sym, refl, ap, ◌∙◌, subst, inl, inr, ⊎_elim, append_assoc, append-nil}
use Rattle.kripke.specs.Ctl.{Formula}
use Rattle.reader.specs.declared.token.Token.{Token}
use Rattle.reader.specs.declared.token.Token.TheVariants as token
use Rattle.reader.specs.declared.token.Sign.TheVariants as sign
use Rattle.reader.specs.declared.head.Opening.{Opening}
use Rattle.reader.specs.declared.head.Opening.TheVariants.{Pair, Until}
use Rattle.reader.specs.declared.head.Head.{Head}
use Rattle.reader.specs.declared.head.Head.TheVariants as head
use Rattle.reader.specs.Grammar.{Mark, mark, marks, toks, whole}
use Rattle.reader.specs.Phrases.{Phrase, Then, Nothing, Exact, Signed, Form, linking, Opened, Middle, closing, opening}
use Rattle.reader.proofs.Phrases.{clash}
use Rattle.reader.proofs.Heads.{Last, Second, Arguments, Tail, built, built_marks, begins_with, one_head, induction}

-- Both go right through ms, with p and q after it.
abbrev Passed : List Mark → List Mark → List Mark → List Mark → List Mark → List Mark → List Mark → Type 0
Passed ms ps v r qs w s =
    (p q : List Mark) × (ps ≡ ms ++ p) × (qs ≡ ms ++ q) × (p ++ v ≡ r) × (q ++ w ≡ s) × (toks p ≡ toks q)

abbrev DetAt : (P : Phrase) → P.A → Type 0
DetAt P a = (b : P.A) (ps v r qs w s : List Mark) → ps ++ v ≡ P.mk a ++ r → qs ++ w ≡ P.mk b ++ s → toks ps ≡ toks qs
    → (ps ≡ qs) ⊎ Passed (P.mk a) ps v r qs w s

seq_det : (P Q : Phrase) (a : P.A) (b : Q.A) → DetAt P a → DetAt Q b → DetAt (Then P Q) (a, b)
seq_det P Q a b da db y ps v r qs w s e1 e2 e3 =
    ⊎_elim inl (λ z. ⊎_elim
    (λ same. inl (z.2 ∙ ap (λ l. P.mk a ++ l) same ∙ sym z.3))
    (λ x. inr (
      x.0,
      x.1,
      z.2 ∙ ap (λ l. P.mk a ++ l) x.2 ∙ sym (append_assoc (P.mk a) (Q.mk b) x.0),
      z.3 ∙ ap (λ l. P.mk a ++ l) x.3 ∙ sym (append_assoc (P.mk a) (Q.mk b) x.1),
      x.4,
      x.5,
      x.6,
    ))
    (db y.1 z.0 v r z.1 w s z.4 z.5 z.6))
    (da y.0 ps v (Q.mk b ++ r) qs w (Q.mk y.1 ++ s) (e1 ∙ append_assoc (P.mk a) (Q.mk b) r) (e2 ∙ append_assoc (P.mk y.0) (Q.mk y.1) s) e3)

mark_step : (t u : Token) (m : ℕ) (ps v r qs w s : List Mark) → ps ++ v ≡ mark t m ∷ r → qs ++ w ≡ mark u m ∷ s → toks ps ≡ toks qs
    → (ps ≡ qs) ⊎ ((t ≡ u) × Passed (mark t m ∷ []) ps v r qs w s)
mark_step t u m [] v r [] w s e1 e2 e3 = inl refl
mark_step t u m [] v r (mark b j ∷ qs) w s e1 e2 e3 = clash cc
mark_step t u m (mark a i ∷ ps) v r [] w s e1 e2 e3 = clash cc
mark_step t u m (mark a i ∷ ps) v r (mark b j ∷ qs) w s e1 e2 e3 = inr (cc, (ps, qs, cc, cc, cc, cc, cc))

nothing_det : DetAt Nothing tt
nothing_det y ps v r qs w s e1 e2 e3 = inr (ps, qs, refl, refl, e1, e2, e3)

exact_det : (t : Token) → DetAt (Exact t) tt
exact_det t y ps v r qs w s e1 e2 e3 = ⊎_elim inl (λ z. inr z.1) (mark_step t t 0 ps v r qs w s e1 e2 e3)

opened_det : (o : Opening) → DetAt (Opened o) (Opened o).any
opened_det Pair = nothing_det
opened_det (Until q) = exact_det (token.Sign sign.Left)

middle_det : (o : Opening) (m : (Middle o).A) → DetAt (Middle o) m
middle_det Pair k y ps v r qs w s e1 e2 e3 = ⊎_elim inl (λ z. inr z.1) (mark_step (token.Sign (linking k)) (token.Sign (linking y)) 0 ps v r qs w s e1 e2 e3)
middle_det (Until q) k y ps v r qs w s e1 e2 e3 = exact_det (token.Sign sign.Until) y ps v r qs w s e1 e2 e3

head_det : (l : ℕ) (h : Head) (x : (Tail (suc l) h).A) → DetAt (Tail (suc l) h) x → DetAt (Form l) (built (suc l) h x)
head_det l h x dx g ps v r qs w s e1 e2 e3 =
    let z = begins_with l g in
    ⊎_elim inl (λ k.
    let y : (x' : (Tail (suc l) h).A) × (marks l g ≡ mark (opening h) l ∷ (Tail (suc l) h).mk x') =
    subst (λ (j : Head). (x' : (Tail (suc l) j).A) × (marks l g ≡ mark (opening j) l ∷ (Tail (suc l) j).mk x')) (sym (one_head h z.0 k.0)) (z.1, z.3) in
    let tail : (Tail (suc l) z.0).mk z.1 ≡ (Tail (suc l) h).mk y.0 =
    let e : mark (opening z.0) l ∷ (Tail (suc l) z.0).mk z.1 ≡ mark (opening h) l ∷ (Tail (suc l) h).mk y.0 = sym z.3 ∙ y.1 in cc in
    let p = k.1 in
    ⊎_elim
    (λ same. inl (p.2 ∙ ap (λ i. mark (opening h) l ∷ i) same ∙ sym p.3))
    (λ d. inr (
      d.0,
      d.1,
      p.2 ∙ ap (λ i. mark (opening h) l ∷ i) d.2 ∙ ap (λ i. i ++ d.0) (sym (built_marks l h x)),
      p.3 ∙ ap (λ i. mark (opening h) l ∷ i) d.3 ∙ ap (λ i. i ++ d.1) (sym (built_marks l h x)),
      d.4,
      d.5,
      d.6,
    ))
    (dx y.0 p.0 v r p.1 w s p.4 (p.5 ∙ ap (λ i. i ++ s) tail) p.6))
    (mark_step (opening h) (opening z.0) l ps v ((Tail (suc l) h).mk x ++ r) qs w ((Tail (suc l) z.0).mk z.1 ++ s)
    (e1 ∙ ap (λ i. i ++ r) (built_marks l h x)) (e2 ∙ ap (λ i. i ++ s) z.3) e3)

tail_det : (n : ℕ) (o : Opening) (m : (Middle o).A) (f g : Formula) → DetAt (Form n) f → DetAt (Form n) g
    → DetAt (Tail n (head.Binary o)) ((Opened o).any, (f, (m, (g, tt))))
tail_det n o m f g df dg =
    seq_det (Opened o) (Arguments n o) (Opened o).any (f, (m, (g, tt))) (opened_det o)
    (seq_det (Form n) (Second n o) f (m, (g, tt)) df
    (seq_det (Middle o) (Last n o) m (g, tt) (middle_det o m) (seq_det (Form n) (Signed (closing o)) g tt dg (exact_det (token.Sign (closing o))))))

determined : (f : Formula) (l : ℕ) → DetAt (Form l) f
determined = induction (λ f. (l : ℕ) → DetAt (Form l) f)
    (λ l. head_det l head.Truth tt nothing_det)
    (λ j l. head_det l (head.Question j) tt nothing_det)
    (λ u f h l. head_det l (head.Unary u) f (h (suc l)))
    (λ o m f g h k l. head_det l (head.Binary o) ((Opened o).any, (f, (m, (g, tt)))) (tail_det (suc l) o m f g (h (suc l)) (k (suc l))))

empty : (p v : List Mark) → p ++ v ≡ [] → p ≡ []
empty [] v e = refl
empty (x ∷ p) v e = clash cc

pub same_levels : (f g : Formula) (ps v qs w : List Mark) → ps ++ v ≡ whole f → qs ++ w ≡ whole g → toks ps ≡ toks qs → ps ≡ qs
same_levels f g ps v qs w e1 e2 e3 =
    ⊎_elim (λ e. e) (λ z. z.2 ∙ ap (λ l. whole f ++ l) (empty z.0 v z.4 ∙ sym (empty z.1 w z.5)) ∙ sym z.3)
    (seq_det (Form 1) (Exact token.End) f tt (determined f 1) (exact_det token.End) (g, tt) ps v [] qs w []
    (e1 ∙ sym (append-nil (whole f))) (e2 ∙ sym (append-nil (whole g))) e3)
