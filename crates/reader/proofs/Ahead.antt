-- The tokens of a text from an offset on, one at a time.
use Rattle.std.proofs.Common.{◌≡◌, ℕ, zero, suc, ◌+◌, ◌-◌, ◌≤◌, Bool, true, false, cond, eqb, List, [], ◌∷◌, ◌++◌, length, take, drop, replicate, sym, refl, ap, ◌∙◌, subst, arith, append_assoc, length-append, length-drop}
use Rattle.std.proofs.lemmas.Bool.{eqb-true}
use Rattle.std.proofs.lemmas.List.{take_rest, take-append-drop, drop_at}
use Rattle.reader.specs.declared.token.Token.{Token}
use Rattle.reader.specs.Tokens.{Stream, Cut, done, next, offset, first, rest, lex, token_split, unspaced, tokens}
use Rattle.reader.proofs.Leading.{lex_fits, alone}
use Rattle.reader.specs.Reading.{Passed}

skipped : (k o : ℕ) (bs : List ℕ) → k ≤ length bs → tokens k o bs ≡ tokens 0 (o + k) (drop k bs)
unfolding tokens
skipped zero o bs h = let e : o ≡ o + 0 = omega arith in ap (λ (n : ℕ). tokens 0 n bs) e
skipped (suc k) o [] h = absurd (omega arith)
skipped (suc k) o (b ∷ bs) h = skipped k (suc o) bs (omega arith) ∙ (let e : suc o + k ≡ o + suc k = omega arith in ap (λ (n : ℕ). tokens 0 n (drop k bs)) e)

-- The stream s of the text bs from offset o on begins with the token of u, the text after the spaces.
pub record Front (s : Stream) (o : ℕ) (bs u : List ℕ) : Type 0 where
  pub spaces : (k : ℕ) × (bs ≡ replicate k 32 ++ u)
  pub is : first s ≡ (lex u).0
  pub here : offset s + length u ≡ o + length bs
  pub after : rest s ≡ tokens 0 (offset s + (lex u).1) (drop (lex u).1 u)
  pub fits : (lex u).1 ≤ length u

pub fronted : (o : ℕ) (bs : List ℕ) → Front (tokens 0 o bs) o bs (unspaced bs)
unfolding tokens
fronted o [] = record { spaces = (0, refl); is = refl; here = refl; after = ap done (omega arith); fits = omega arith }
fronted o (b ∷ bs) = go (eqb b 32) refl (fronted (suc o) bs)
  where
    go : (x : Bool) → eqb b 32 ≡ x → Front (tokens 0 (suc o) bs) (suc o) bs (unspaced bs)
        → Front (cond x (tokens 0 (suc o) bs) (next o (lex (b ∷ bs)).0 (tokens ((lex (b ∷ bs)).1 - 1) (suc o) bs))) o (b ∷ bs) (cond x (unspaced bs) (b ∷ bs))
    go true e f = record {
      spaces = (suc f.spaces.0, ap (λ (c : ℕ). c ∷ bs) (eqb-true b 32 e) ∙ ap (λ (l : List ℕ). 32 ∷ l) f.spaces.1);
      is = f.is;
      here = f.here ∙ (omega arith);
      after = f.after;
      fits = f.fits;
    }
    go false e f =
        let m = lex_fits b bs in
        record { spaces = (0, refl); is = refl; here = refl; after = skipped ((lex (b ∷ bs)).1 - 1) (suc o) bs (omega (arith, m.0, m.1)) ∙ moved (lex (b ∷ bs)).1 m.1; fits = m.0 }
      where
        moved : (n : ℕ) → 1 ≤ n → tokens 0 (suc o + (n - 1)) (drop (n - 1) bs) ≡ tokens 0 (o + n) (drop n (b ∷ bs))
        moved zero l = absurd (omega arith)
        moved (suc n) l =
            let p : suc o + (suc n - 1) ≡ o + suc n = omega arith in
            let q : suc n - 1 ≡ n = omega arith in
            ap (λ (m : ℕ). tokens 0 m (drop (suc n - 1) bs)) p ∙ ap (λ (m : ℕ). tokens 0 (o + suc n) (drop m bs)) q

-- The same at an offset of a text: u is the text there after the spaces, r what follows its first token, and the part is what lies between.
module _ (text u r : List ℕ) (at : ℕ) (t : Token) (le : at ≤ length text) (sp : u ≡ unspaced (take (length text - at) (drop at text)))
    (sl : ◌≡◌ {A = Token × List ℕ} (t, r) (token_split u)) where
  front : Front (tokens 0 at (drop at text)) at (drop at text) u
  front = subst (Front (tokens 0 at (drop at text)) at (drop at text)) (sym (sp ∙ ap unspaced (take_rest text at))) (fronted at (drop at text))

  remains : r ≡ drop (lex u).1 u
  remains = ap (λ (p : Token × List ℕ). p.1) sl

  lengths : length r + (lex u).1 ≡ length u
  lengths = omega (arith, front.fits, ap length remains, length-drop (lex u).1 u)

  pub token_fits : length r ≤ length text
  token_fits = omega (arith, lengths, front.here, ap length front.spaces.1, length-append (replicate front.spaces.0 32) u, length-drop at text)

  part : take (length u - length r) u ≡ take (lex u).1 u
  part = let e : length u - length r ≡ (lex u).1 = omega (arith, lengths) in ap (λ (n : ℕ). take n u) e

  joined : u ≡ take (length u - length r) u ++ r
  joined = sym (take-append-drop (lex u).1 u) ∙ ap (λ (l : List ℕ). l ++ drop (lex u).1 u) (sym part) ∙ ap (λ (l : List ℕ). take (length u - length r) u ++ l) (sym remains)

  whole : text ≡ (take at text ++ (replicate front.spaces.0 32 ++ take (length u - length r) u)) ++ r
  whole =
      sym (take-append-drop at text)
      ∙ ap (λ (l : List ℕ). take at text ++ l) (front.spaces.1 ∙ ap (λ (l : List ℕ). replicate front.spaces.0 32 ++ l) joined ∙ sym (append_assoc (replicate front.spaces.0 32) (take (length u - length r) u) r))
      ∙ sym (append_assoc (take at text) (replicate front.spaces.0 32 ++ take (length u - length r) u) r)

  -- what is left of the text
  left : drop (length text - length r) text ≡ r
  left =
      let before : List ℕ = take at text ++ (replicate front.spaces.0 32 ++ take (length u - length r) u) in
      ap (drop (length text - length r)) whole ∙ drop_at before r (length text - length r) (omega (arith, ap length whole, length-append before r))

  pub token_cut : Cut (drop at text) (take (length u - length r) u) (drop (length text - length r) text)
  token_cut = (front.spaces.0, front.spaces.1 ∙ ap (λ (l : List ℕ). replicate front.spaces.0 32 ++ l) (joined ∙ ap (λ (l : List ℕ). take (length u - length r) u ++ l) (sym left)))

  pub token_passed : Passed (tokens 0 at (drop at text)) (take (length u - length r) u) (length text - length r) (tokens 0 (length text - length r) (drop (length text - length r) text))
  token_passed = record {
    is = front.is ∙ sym (ap (λ (p : List ℕ). (lex p).0) part ∙ ap (λ (p : Token × ℕ). p.0) (alone u));
    entire =
        let same : (lex (take (length u - length r) u)).1 ≡ (lex u).1 = ap (λ (p : List ℕ). (lex p).1) part ∙ ap (λ (p : Token × ℕ). p.1) (alone u) in
        omega (arith, same, lengths, ap length joined, length-append (take (length u - length r) u) r);
    here = omega (arith, lengths, front.here, ap length front.spaces.1, length-append (replicate front.spaces.0 32) u, length-drop at text, ap length joined, length-append (take (length u - length r) u) r);
    after = front.after ∙ ap (tokens 0 (offset (tokens 0 at (drop at text)) + (lex u).1)) (sym remains ∙ sym left)
        ∙ ap (λ (o : ℕ). tokens 0 o (drop (length text - length r) text)) (omega (arith, lengths, front.here, ap length front.spaces.1, length-append (replicate front.spaces.0 32) u, length-drop at text));
  }
