-- In a beginning of a formula's text within the limits nothing is refused.
use Rattle.std.proofs.Common.{◌≡◌, ℕ, ◌<◌, ◌≤◌, List, [], ◌∷◌, ◌++◌, sym, refl, ap, ◌∙◌, subst, append_assoc, arith}
use Rattle.kripke.specs.Ctl.{Formula}
use Rattle.reader.specs.declared.token.Token.{Token}
use Rattle.reader.specs.declared.token.Token.TheVariants as token
use Rattle.reader.specs.Grammar.{Mark, mark, toks, whole, Viable, Asked, All}
use Rattle.reader.proofs.Phrases.{clash, toks-append}
use Rattle.reader.proofs.Levels.{same_levels}

-- Where a list of marks is parted.
abbrev Parted : List Mark → List Token → Token → Type 0
Parted ms ts t = (a : List Mark) × (i : ℕ) × (b : List Mark) × (ms ≡ a ++ (mark t i ∷ b)) × (toks a ≡ ts)

further : (x u : Token) (i : ℕ) (ms : List Mark) (ts : List Token) (t : Token) → x ≡ u → Parted ms ts t → Parted (mark x i ∷ ms) (u ∷ ts) t
further x u i ms ts t h z = (mark x i ∷ z.0, z.1, z.2, ap (λ l. mark x i ∷ l) z.3, ap (λ l. x ∷ l) z.4 ∙ ap (λ y. y ∷ ts) h)

parted : (ms : List Mark) (ts : List Token) (t : Token) (m : List Token) → toks ms ≡ ts ++ (t ∷ m) → Parted ms ts t
parted [] [] t m e = clash cc
parted [] (u ∷ ts) t m e = clash cc
parted (mark x i ∷ ms) [] t m e = ([], i, ms, cc, refl)
parted (mark x i ∷ ms) (u ∷ ts) t m e = further x u i ms ts t (cc) (parted ms ts t m (cc))

all_at : (c : ℕ) (a : List Mark) (t : Token) (i : ℕ) (b : List Mark) → All c (a ++ (mark t i ∷ b)) → (i ≤ 64) × Asked c t
all_at c [] t i b h = h.0
all_at c (mark u j ∷ a) t i b h = all_at c a t i b h.1

module _ (c : ℕ) (f : Formula) (ms w : List Mark) (al : All c ms) (e : ms ++ w ≡ whole f)
    (ts : List Token) (t : Token) (m : List Token) (p : toks ms ≡ ts ++ (t ∷ m)) where
  pub expected : Viable (ts ++ (t ∷ []))
  expected =
      (f, m ++ toks w, append_assoc ts (t ∷ []) (m ++ toks w) ∙ sym (append_assoc ts (t ∷ m) (toks w)) ∙ ap (λ l. l ++ toks w) (sym p) ∙ sym (toks-append ms w) ∙ ap toks e)

  limited : (z : Parted ms ts t) → (z.1 ≤ 64) × Asked c t
  limited z = all_at c z.0 t z.1 z.2 (subst (All c) z.3 al)

  pub not_unasked : (j : ℕ) → t ≡ token.Question j → ¬ c ≤ j
  not_unasked j q le =
      let g : j < c = subst (Asked c) q (limited (parted ms ts t m p)).1 in
      omega arith

  pub not_deep : (g : Formula) (ps qs : List Mark) → toks ps ≡ ts → ¬ ps ++ (mark t 65 ∷ qs) ≡ whole g
  not_deep g ps qs h k =
      let z = parted ms ts t m p in
      let same = same_levels f g (z.0 ++ (mark t z.1 ∷ [])) (z.2 ++ w) (ps ++ (mark t 65 ∷ [])) qs
      (append_assoc z.0 (mark t z.1 ∷ []) (z.2 ++ w) ∙ sym (append_assoc z.0 (mark t z.1 ∷ z.2) w) ∙ ap (λ l. l ++ w) (sym z.3) ∙ e)
      (append_assoc ps (mark t 65 ∷ []) qs ∙ k)
      (toks-append z.0 (mark t z.1 ∷ []) ∙ ap (λ l. l ++ (t ∷ [])) (z.4 ∙ sym h) ∙ sym (toks-append ps (mark t 65 ∷ []))) in
      let level : z.1 ≡ 65 = last_level z.0 ps z.1 65 same in
      omega (arith, (limited z).0)
    where
      last_level : (a b : List Mark) (i j : ℕ) → a ++ (mark t i ∷ []) ≡ b ++ (mark t j ∷ []) → i ≡ j
      last_level [] [] i j e = cc
      last_level [] (x ∷ []) i j e = clash cc
      last_level [] (x ∷ y ∷ b) i j e = clash cc
      last_level (x ∷ []) [] i j e = clash cc
      last_level (x ∷ y ∷ a) [] i j e = clash cc
      last_level (x ∷ a) (y ∷ b) i j e = last_level a b i j (cc)
