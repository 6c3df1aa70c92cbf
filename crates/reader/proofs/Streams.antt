-- A text's tokens: only the last is the end, and their offsets rise.
use Rattle.std.proofs.Common.{◌≡◌, ℕ, zero, suc, ◌-◌, ◌≤◌, Bool, true, false, cond, eqb, List, [], ◌∷◌, ◌++◌, Some, None, Option, sym, refl, ap, ◌∙◌, subst, arith}
use Rattle.reader.specs.declared.token.Token.{Token}
use Rattle.reader.specs.declared.token.Token.TheVariants.{End, Truth, Question, Unary, Alone, Sign, Other}
use Rattle.reader.specs.declared.token.Sign.TheVariants.{And, Or, Open, Close, Left, Right, Until}
use Rattle.reader.specs.declared.token.Unary.TheVariants.{Not}
use Rattle.kripke.specs.declared.quantifier.Quantifier.TheVariants.{Exists, ForAll}
use Rattle.reader.specs.Tokens.{single, operator, numeral, asking, acting, lex, Stream, done, next, first, offset, kinds, After, tokens}

-- Any token but the end.
abbrev pub Real : Token → Type 0
Real Truth = Unit {0}
Real (Question j) = Unit {0}
Real (Unary u) = Unit {0}
Real (Alone q) = Unit {0}
Real (Sign t) = Unit {0}
Real Other = Unit {0}
Real End = ⊥

-- Offsets from o on, rising.
abbrev pub Rising : ℕ → Stream → Type 0
Rising o (done o') = o ≤ o'
Rising o (next o' t s) = (o ≤ o') × Real t × Rising (suc o') s

lower : (o : ℕ) (s : Stream) → Rising (suc o) s → Rising o s
lower o (done o') h = omega arith
lower o (next o' t s) h = (omega (arith, h.0), h.1, h.2)

pick : (x : Bool) (p q : Token) → Real p → Real q → Real (cond x p q)
pick true p q a b = a
pick false p q a b = b

single_real : (b : ℕ) → Real (single b)
single_real b =
    pick (eqb b 84) Truth _ tt (pick (eqb b 33) (Unary Not) _ tt (pick (eqb b 38) (Sign And) _ tt (pick (eqb b 124) (Sign Or) _ tt
    (pick (eqb b 40) (Sign Open) _ tt (pick (eqb b 41) (Sign Close) _ tt (pick (eqb b 91) (Sign Left) _ tt (pick (eqb b 93) (Sign Right) _ tt
    (pick (eqb b 85) (Sign Until) _ tt (pick (eqb b 69) (Alone Exists) _ tt (pick (eqb b 65) (Alone ForAll) Other tt tt))))))))))

asking_real : (o : Option (ℕ × ℕ)) → Real (asking o).0
asking_real None = tt
asking_real (Some n) = tt

acting_real : (b : ℕ) (o : _) → Real (acting b o).0
acting_real b None = single_real b
acting_real b (Some u) = tt

lex_real : (b : ℕ) (bs : List ℕ) → Real (lex (b ∷ bs)).0
lex_real b bs = go (eqb b 113)
  where
    go : (x : Bool) → Real (cond x (asking (numeral bs)) (acting b (operator (b ∷ bs)))).0
    go true = asking_real (numeral bs)
    go false = acting_real b (operator (b ∷ bs))

pub rising : (k o : ℕ) (bs : List ℕ) → Rising o (tokens k o bs)
unfolding tokens
rising k o [] = omega arith
rising (suc k) o (b ∷ bs) = lower o (tokens k (suc o) bs) (rising k (suc o) bs)
rising zero o (b ∷ bs) = go (eqb b 32) (rising zero (suc o) bs) (rising ((lex (b ∷ bs)).1 - 1) (suc o) bs)
  where
    go : (x : Bool) → Rising (suc o) (tokens zero (suc o) bs) → Rising (suc o) (tokens ((lex (b ∷ bs)).1 - 1) (suc o) bs)
        → Rising o (cond x (tokens zero (suc o) bs) (next o (lex (b ∷ bs)).0 (tokens ((lex (b ∷ bs)).1 - 1) (suc o) bs)))
    go true h g = lower o (tokens zero (suc o) bs) h
    go false h g = (omega arith, lex_real b bs, g)

pub rising_after : (l : ℕ) (s : Stream) (ts : List Token) (s1 : Stream) → After s ts s1 → Rising l s → (m : ℕ) × (l ≤ m) × Rising m s1
rising_after l s [] s1 h p = (l, omega arith, subst (Rising l) h p)
rising_after l (done o) (t ∷ ts) s1 h p = absurd h
rising_after l (next o u s) (t ∷ ts) s1 h p = let z = rising_after (suc o) s ts s1 h.1 p.2 in (z.0, omega (arith, z.1, p.0), z.2)

from : (m : ℕ) (s : Stream) → Rising m s → m ≤ offset s
from m (done o) h = h
from m (next o t s) h = h.0

pub later : (l : ℕ) (s : Stream) (ts : List Token) (s1 : Stream) → After s ts s1 → Rising l s → l ≤ offset s1
later l s ts s1 h p = let z = rising_after l s ts s1 h p in omega (arith, from z.0 s1 z.2, z.1)

-- Places in a stream.
pub after-append : (s : Stream) (a b : List Token) (s1 s2 : Stream) → After s a s1 → After s1 b s2 → After s (a ++ b) s2
after-append s [] b s1 s2 e h = subst (λ (z : Stream). After z b s2) (sym e) h
after-append (done o) (t ∷ a) b s1 s2 e h = absurd e
after-append (next o u s) (t ∷ a) b s1 s2 e h = (e.0, after-append s a b s1 s2 e.1 h)

pub after_kinds : (s : Stream) (ts : List Token) (s1 : Stream) → After s ts s1 → kinds s ≡ ts ++ kinds s1
after_kinds s [] s1 h = ap kinds h
after_kinds (done o) (t ∷ ts) s1 h = absurd h
after_kinds (next o u s) (t ∷ ts) s1 h = ap (λ z. z ∷ kinds s) h.0 ∙ ap (λ l. t ∷ l) (after_kinds s ts s1 h.1)

pub after_one : (s : Stream) (ts : List Token) (s1 s2 : Stream) → After s ts s1 → After s ts s2 → s1 ≡ s2
after_one s [] s1 s2 h g = sym h ∙ g
after_one (done o) (t ∷ ts) s1 s2 h g = absurd h
after_one (next o u s) (t ∷ ts) s1 s2 h g = after_one s ts s1 s2 h.1 g.1

pub begins : (s : Stream) → (m : List Token) × (kinds s ≡ first s ∷ m)
begins (done o) = ([], refl)
begins (next o t s) = (kinds s, refl)
