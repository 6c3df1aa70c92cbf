-- A formula by its first token: what follows it, and that there is one way to read it.
use Rattle.std.proofs.Common.{◌≡◌, ℕ, suc, List, ◌∷◌, ◌++◌, Some, None, sym, refl, ap, ◌∙◌, subst}
use Rattle.kripke.specs.Ctl.{Formula, truth, question, not, and, or, EX, AX, EF, AF, EG, AG, EU, AU}
use Rattle.reader.specs.declared.token.Token.{Token}
use Rattle.reader.specs.declared.token.Token.TheVariants as token
use Rattle.reader.specs.declared.token.Unary.{Unary}
use Rattle.reader.specs.declared.token.Unary.TheVariants as unary
use Rattle.kripke.specs.declared.quantifier.Quantifier.TheVariants.{Exists, ForAll}
use Rattle.reader.specs.declared.head.Opening.{Opening}
use Rattle.reader.specs.declared.head.Opening.TheVariants.{Pair, Until}
use Rattle.reader.specs.declared.head.Head.{Head}
use Rattle.reader.specs.declared.head.Head.TheVariants as head
use Rattle.reader.specs.Grammar.{mark, marks, toks}
use Rattle.reader.specs.Phrases.{Phrase, Then, Nothing, Signed, Form, conj, disj, Opened, Middle, closing, joined, applied, opening, head_of}
use Rattle.reader.proofs.Phrases.{UniqueAt, clash, seq_unique, nothing_unique, exact_unique, opened_unique, middle_unique}

-- What follows the first token, at level n.
abbrev pub Last : ℕ → Opening → Phrase
Last n o = Then (Form n) (Signed (closing o))

abbrev pub Second : ℕ → Opening → Phrase
Second n o = Then (Middle o) (Last n o)

abbrev pub Arguments : ℕ → Opening → Phrase
Arguments n o = Then (Form n) (Second n o)

abbrev pub Tail : ℕ → Head → Phrase
Tail n head.Truth = Nothing
Tail n (head.Question j) = Nothing
Tail n (head.Unary u) = Form n
Tail n (head.Binary o) = Then (Opened o) (Arguments n o)

abbrev pub built : (n : ℕ) (h : Head) → (Tail n h).A → Formula
built n head.Truth x = truth
built n (head.Question j) x = question j
built n (head.Unary u) x = applied u x
built n (head.Binary o) x = joined o x.1.1.0 x.1.0 x.1.1.1.0

applied_marks : (l : ℕ) (u : Unary) (f : Formula) → marks l (applied u f) ≡ mark (token.Unary u) l ∷ marks (suc l) f
applied_marks l unary.Not f = refl
applied_marks l unary.EX f = refl
applied_marks l unary.AX f = refl
applied_marks l unary.EF f = refl
applied_marks l unary.AF f = refl
applied_marks l unary.EG f = refl
applied_marks l unary.AG f = refl

pub built_marks : (l : ℕ) (h : Head) (x : (Tail (suc l) h).A) → marks l (built (suc l) h x) ≡ mark (opening h) l ∷ (Tail (suc l) h).mk x
built_marks l head.Truth x = refl
built_marks l (head.Question j) x = refl
built_marks l (head.Unary u) x = applied_marks l u x
built_marks l (head.Binary Pair) (a, (f, (conj, (g, b)))) = refl
built_marks l (head.Binary Pair) (a, (f, (disj, (g, b)))) = refl
built_marks l (head.Binary (Until Exists)) x = refl
built_marks l (head.Binary (Until ForAll)) x = refl

-- Each formula has a head.
pub headed : (n : ℕ) (f : Formula) → (h : Head) × (x : (Tail n h).A) × (f ≡ built n h x)
headed n truth = (head.Truth, tt, refl)
headed n (question j) = (head.Question j, tt, refl)
headed n (not f) = (head.Unary unary.Not, f, refl)
headed n (and f g) = (head.Binary Pair, (tt, (f, (conj, (g, tt)))), refl)
headed n (or f g) = (head.Binary Pair, (tt, (f, (disj, (g, tt)))), refl)
headed n (EX f) = (head.Unary unary.EX, f, refl)
headed n (AX f) = (head.Unary unary.AX, f, refl)
headed n (EF f) = (head.Unary unary.EF, f, refl)
headed n (AF f) = (head.Unary unary.AF, f, refl)
headed n (EG f) = (head.Unary unary.EG, f, refl)
headed n (AG f) = (head.Unary unary.AG, f, refl)
headed n (EU f g) = (head.Binary (Until Exists), (tt, (f, (tt, (g, tt)))), refl)
headed n (AU f g) = (head.Binary (Until ForAll), (tt, (f, (tt, (g, tt)))), refl)

pub head_back : (h : Head) → head_of (opening h) ≡ Some h
head_back head.Truth = refl
head_back (head.Question j) = refl
head_back (head.Unary u) = refl
head_back (head.Binary Pair) = refl
head_back (head.Binary (Until q)) = refl

pub one_head : (h h' : Head) → opening h ≡ opening h' → h ≡ h'
one_head h h' e = let z : Some h ≡ Some h' = sym (head_back h) ∙ ap head_of e ∙ head_back h' in cc

-- A formula begins with its head's token.
pub begins_with : (l : ℕ) (g : Formula) → (h : Head) × (x : (Tail (suc l) h).A) × (g ≡ built (suc l) h x) × (marks l g ≡ mark (opening h) l ∷ (Tail (suc l) h).mk x)
begins_with l g = let z = headed (suc l) g in (z.0, z.1, z.2, ap (marks l) z.2 ∙ built_marks l z.0 z.1)

-- What goes on after a head's token is a formula with this head.
pub inverse : (l : ℕ) (h : Head) (g : Formula) (r v : List Token) → opening h ∷ v ≡ toks (marks l g) ++ r
    → (x : (Tail (suc l) h).A) × (g ≡ built (suc l) h x) × (v ≡ toks ((Tail (suc l) h).mk x) ++ r)
inverse l h g r v e =
    let z = begins_with l g in
    let p : opening h ∷ v ≡ opening z.0 ∷ (toks ((Tail (suc l) z.0).mk z.1) ++ r) = e ∙ ap (λ m. toks m ++ r) z.3 in
    let same : z.0 ≡ h = one_head z.0 h (cc) in
    subst (λ (k : Head). (x : (Tail (suc l) k).A) × (g ≡ built (suc l) k x) × (v ≡ toks ((Tail (suc l) k).mk x) ++ r)) same (z.1, z.2, cc)

pub no_head : (l : ℕ) (t : Token) → head_of t ≡ None → (g : Formula) (r v : List Token) → ¬ t ∷ v ≡ toks (marks l g) ++ r
no_head l t n g r v e =
    let z = begins_with l g in
    let p : t ∷ v ≡ opening z.0 ∷ (toks ((Tail (suc l) z.0).mk z.1) ++ r) = e ∙ ap (λ m. toks m ++ r) z.3 in
    let q : t ≡ opening z.0 = cc in
    let s : None ≡ Some z.0 = sym n ∙ ap head_of q ∙ head_back z.0 in
    clash cc

-- Induction over formulas by their heads.
pub induction : (P : Formula → Type 0) → P truth → ((j : ℕ) → P (question j)) → ((u : Unary) (f : Formula) → P f → P (applied u f))
    → ((o : Opening) (m : (Middle o).A) (f g : Formula) → P f → P g → P (joined o m f g)) → (f : Formula) → P f
induction P t q u b truth = t
induction P t q u b (question j) = q j
induction P t q u b (not f) = u unary.Not f (induction P t q u b f)
induction P t q u b (and f g) = b Pair conj f g (induction P t q u b f) (induction P t q u b g)
induction P t q u b (or f g) = b Pair disj f g (induction P t q u b f) (induction P t q u b g)
induction P t q u b (EX f) = u unary.EX f (induction P t q u b f)
induction P t q u b (AX f) = u unary.AX f (induction P t q u b f)
induction P t q u b (EF f) = u unary.EF f (induction P t q u b f)
induction P t q u b (AF f) = u unary.AF f (induction P t q u b f)
induction P t q u b (EG f) = u unary.EG f (induction P t q u b f)
induction P t q u b (AG f) = u unary.AG f (induction P t q u b f)
induction P t q u b (EU f g) = b (Until Exists) tt f g (induction P t q u b f) (induction P t q u b g)
induction P t q u b (AU f g) = b (Until ForAll) tt f g (induction P t q u b f) (induction P t q u b g)

-- One reading.
head_unique : (l : ℕ) (h : Head) (x : (Tail (suc l) h).A) → UniqueAt (Tail (suc l) h) x → UniqueAt (Form l) (built (suc l) h x)
head_unique l h x ux g r s e =
    let z = inverse l h g s (toks ((Tail (suc l) h).mk x) ++ r) (ap (λ m. toks m ++ r) (sym (built_marks l h x)) ∙ e) in
    let y = ux z.0 r s z.2 in
    (ap (built (suc l) h) y.0 ∙ sym z.1, y.1)

tail_unique : (n : ℕ) (o : Opening) (m : (Middle o).A) (f g : Formula) → UniqueAt (Form n) f → UniqueAt (Form n) g
    → UniqueAt (Tail n (head.Binary o)) ((Opened o).any, (f, (m, (g, tt))))
tail_unique n o m f g uf ug =
    seq_unique (Opened o) (Arguments n o) (Opened o).any (f, (m, (g, tt))) (opened_unique o (Opened o).any)
    (seq_unique (Form n) (Second n o) f (m, (g, tt)) uf
    (seq_unique (Middle o) (Last n o) m (g, tt) (middle_unique o m) (seq_unique (Form n) (Signed (closing o)) g tt ug (exact_unique (token.Sign (closing o)) tt))))

pub unique : (f : Formula) (l : ℕ) → UniqueAt (Form l) f
unique = induction (λ f. (l : ℕ) → UniqueAt (Form l) f)
    (λ l. head_unique l head.Truth tt (nothing_unique tt))
    (λ j l. head_unique l (head.Question j) tt (nothing_unique tt))
    (λ u f h l. head_unique l (head.Unary u) f (h (suc l)))
    (λ o m f g h k l. head_unique l (head.Binary o) ((Opened o).any, (f, (m, (g, tt)))) (tail_unique (suc l) o m f g (h (suc l)) (k (suc l))))
