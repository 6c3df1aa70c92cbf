-- A text is made of its tokens' bytes and the spaces before them.
use Rattle.std.proofs.Common.{◌≡◌, ℕ, zero, suc, ◌-◌, ◌≤◌, Bool, true, false, cond, eqb, List, [], ◌∷◌, ◌++◌, take, drop, map, sym, refl, ap, ◌∙◌, subst, arith}
use Rattle.std.proofs.lemmas.Bool.{eqb-true}
use Rattle.std.proofs.lemmas.List.{take-append-drop, length-take-le}
use Rattle.reader.specs.declared.token.Token.{Token}
use Rattle.reader.specs.declared.token.Token.TheVariants.{End}
use Rattle.reader.specs.Tokens.{Stream, next, kinds, lex, tokens, Part, MadeOf, text_of}
use Rattle.reader.proofs.Leading.{lex_fits, alone}
use Rattle.reader.proofs.Streams.{begins}

the_end : Part
the_end = record { spaces = 0; bytes = []; token = End; is = refl }

-- One space more before the first part.
spaced : (bs : List ℕ) (s : Stream) → MadeOf bs (kinds s) → MadeOf (32 ∷ bs) (kinds s)
spaced bs s h = go h.parts h.whole h.are
  where
    go : (ps : List Part) → bs ≡ text_of ps → map (λ p. p.token) ps ≡ kinds s → MadeOf (32 ∷ bs) (kinds s)
    go [] w a = let z = begins s in absurd (cc)
    go (p ∷ ps) w a = record { parts = record p { spaces = suc p.spaces } ∷ ps; whole = ap (λ (l : List ℕ). 32 ∷ l) w; are = a }

-- A text is its first token's bytes, and then the rest.
cut_off : (b : ℕ) (bs rest : List ℕ) (n : ℕ) → 1 ≤ n → drop (n - 1) bs ≡ rest → b ∷ bs ≡ take n (b ∷ bs) ++ rest
cut_off b bs rest zero h w = absurd (omega arith)
cut_off b bs rest (suc m) h w =
    let e : m ≡ suc m - 1 = omega arith in
    sym (take-append-drop (suc m) (b ∷ bs)) ∙ ap (λ (l : List ℕ). take (suc m) (b ∷ bs) ++ l) (ap (λ (k : ℕ). drop k bs) e ∙ w)

-- A text's first token, by itself.
front : (b : ℕ) (bs : List ℕ) → Part
front b bs = record {
  spaces = 0;
  bytes = take (lex (b ∷ bs)).1 (b ∷ bs);
  token = (lex (b ∷ bs)).0;
  is = alone (b ∷ bs) ∙ ap (λ (n : ℕ). ((lex (b ∷ bs)).0, n)) (sym (length-take-le (lex (b ∷ bs)).1 (b ∷ bs) (lex_fits b bs).0));
}

-- The same after the k bytes of the token before.
pub made : (k o : ℕ) (bs : List ℕ) → MadeOf (drop k bs) (kinds (tokens k o bs))
unfolding tokens the_end front
made zero o [] = record { parts = the_end ∷ []; whole = refl; are = refl }
made (suc k) o [] = record { parts = the_end ∷ []; whole = refl; are = refl }
made (suc k) o (b ∷ bs) = made k (suc o) bs
made zero o (b ∷ bs) = go (eqb b 32) refl (made zero (suc o) bs) (made (n - 1) (suc o) bs)
  where
    n : ℕ
    n = (lex (b ∷ bs)).1

    go : (x : Bool) → eqb b 32 ≡ x → MadeOf bs (kinds (tokens zero (suc o) bs)) → MadeOf (drop (n - 1) bs) (kinds (tokens (n - 1) (suc o) bs))
        → MadeOf (b ∷ bs) (kinds (cond x (tokens zero (suc o) bs) (next o (lex (b ∷ bs)).0 (tokens (n - 1) (suc o) bs))))
    go true e h g = subst (λ (c : ℕ). MadeOf (c ∷ bs) (kinds (tokens zero (suc o) bs))) (sym (eqb-true b 32 e)) (spaced bs (tokens zero (suc o) bs) h)
    go false e h g = record { parts = front b bs ∷ g.parts; whole = cut_off b bs (text_of g.parts) n (lex_fits b bs).1 g.whole; are = ap (λ (ts : List Token). (lex (b ∷ bs)).0 ∷ ts) g.are }
