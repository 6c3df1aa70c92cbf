-- The token that a text begins with: its bytes, and what they are when they are read alone.
use Rattle.std.proofs.Common.{◌≡◌, ℕ, zero, suc, ◌+◌, ◌-◌, ◌*◌, ◌≤◌, Bool, true, false, cond, ◌&&◌, eqb, leb, List, [], ◌∷◌, length, take, Some, None, Option, sym, refl, ap, ◌∙◌, arith}
use Rattle.reader.specs.declared.token.Token.{Token}
use Rattle.reader.specs.declared.token.Unary.{Unary}
use Rattle.reader.specs.Tokens.{digit, numeral, operator, asking, acting, lex}

-- A token is one byte or more, and within the text.
numeral_fits : (bs : List ℕ) → ((asking (numeral bs)).1 ≤ suc (length bs)) × (1 ≤ (asking (numeral bs)).1)
numeral_fits [] = (omega arith, omega arith)
numeral_fits (d ∷ []) = go (digit d)
  where
    go : (x : Bool) → ((asking (cond x (Some (d - 48, 1)) None)).1 ≤ 2) × (1 ≤ (asking (cond x (Some (d - 48, 1)) None)).1)
    go true = (omega arith, omega arith)
    go false = (omega arith, omega arith)
numeral_fits (d ∷ e ∷ bs) = go (digit d) (leb 49 d && digit e)
  where
    go : (x y : Bool)
        → ((asking (cond x (cond y (Some ((d - 48) * 10 + (e - 48), 2)) (Some (d - 48, 1))) None)).1 ≤ suc (suc (suc (length bs))))
        × (1 ≤ (asking (cond x (cond y (Some ((d - 48) * 10 + (e - 48), 2)) (Some (d - 48, 1))) None)).1)
    go true true = (omega arith, omega arith)
    go true false = (omega arith, omega arith)
    go false y = (omega arith, omega arith)

operator_fits : (b : ℕ) (bs : List ℕ) → ((acting b (operator (b ∷ bs))).1 ≤ suc (length bs)) × (1 ≤ (acting b (operator (b ∷ bs))).1)
operator_fits b [] = (omega arith, omega arith)
operator_fits b (c ∷ bs) = go (operator (b ∷ c ∷ bs))
  where
    go : (o : Option Unary) → ((acting b o).1 ≤ suc (suc (length bs))) × (1 ≤ (acting b o).1)
    go None = (omega arith, omega arith)
    go (Some u) = (omega arith, omega arith)

pub lex_fits : (b : ℕ) (bs : List ℕ) → ((lex (b ∷ bs)).1 ≤ suc (length bs)) × (1 ≤ (lex (b ∷ bs)).1)
lex_fits b bs = go (eqb b 113)
  where
    go : (x : Bool) → ((cond x (asking (numeral bs)) (acting b (operator (b ∷ bs)))).1 ≤ suc (length bs)) × (1 ≤ (cond x (asking (numeral bs)) (acting b (operator (b ∷ bs)))).1)
    go true = numeral_fits bs
    go false = operator_fits b bs

-- Its bytes are that token by themselves.
numeral_alone : (bs : List ℕ) → asking (numeral (take ((asking (numeral bs)).1 - 1) bs)) ≡ asking (numeral bs)
numeral_alone [] = refl
numeral_alone (d ∷ []) = go (digit d) refl
  where
    go : (x : Bool) → digit d ≡ x → asking (numeral (take ((asking (numeral (d ∷ []))).1 - 1) (d ∷ []))) ≡ asking (numeral (d ∷ []))
    go true e = rw e (rw e refl)
    go false e = rw e refl
numeral_alone (d ∷ e ∷ bs) = go (digit d) (leb 49 d && digit e) refl refl
  where
    go : (x y : Bool) → digit d ≡ x → (leb 49 d && digit e) ≡ y
        → asking (numeral (take ((asking (numeral (d ∷ e ∷ bs))).1 - 1) (d ∷ e ∷ bs))) ≡ asking (numeral (d ∷ e ∷ bs))
    go true true p q = rw (p, q) (rw (p, q) refl)
    go true false p q = rw (p, q) (rw p refl)
    go false y p q = rw p refl

operator_alone : (b : ℕ) (bs : List ℕ) → acting b (operator (b ∷ take ((acting b (operator (b ∷ bs))).1 - 1) bs)) ≡ acting b (operator (b ∷ bs))
operator_alone b [] = refl
operator_alone b (c ∷ bs) = go (operator (b ∷ c ∷ bs)) refl
  where
    go : (o : Option Unary) → operator (b ∷ c ∷ bs) ≡ o → acting b (operator (b ∷ take ((acting b (operator (b ∷ c ∷ bs))).1 - 1) (c ∷ bs))) ≡ acting b (operator (b ∷ c ∷ bs))
    go None p = rw p refl
    go (Some u) p = rw p (rw p refl)

lexed : Bool → ℕ → List ℕ → Token × ℕ
lexed x b bs = cond x (asking (numeral bs)) (acting b (operator (b ∷ bs)))

lexed_alone : (x : Bool) (b : ℕ) (bs : List ℕ) → lexed x b (take ((lexed x b bs).1 - 1) bs) ≡ lexed x b bs
unfolding lexed
lexed_alone true b bs = numeral_alone bs
lexed_alone false b bs = operator_alone b bs

pub alone : (bs : List ℕ) → lex (take (lex bs).1 bs) ≡ lex bs
unfolding lexed
alone [] = refl
alone (b ∷ bs) = ap lex (front (lex (b ∷ bs)).1 (lex_fits b bs).1) ∙ lexed_alone (eqb b 113) b bs
  where
    front : (n : ℕ) → 1 ≤ n → take n (b ∷ bs) ≡ b ∷ take (n - 1) bs
    front zero h = absurd (omega arith)
    front (suc n) h = let e : suc n - 1 ≡ n = omega arith in ap (λ (m : ℕ). b ∷ take m bs) (sym e)
