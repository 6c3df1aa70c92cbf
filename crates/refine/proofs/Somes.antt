-- The test of some member of a list.
use Rattle.std.proofs.Common.{◌≡◌, ℕ, zero, suc, ◌<◌, Bool, true, false, ◌||◌, T, List, [], ◌∷◌, map, length, get_or, sym, refl, ap, ◌∙◌, inl, inr, arith}
use Rattle.std.specs.List.{list_any}
use Rattle.kripke.specs.Structure.{Member}
use Rattle.kripke.specs.Tests.{some}

pub member_at : (l : List ℕ) (i : ℕ) → i < length l → Member (get_or l i 0) l
member_at [] i h = absurd (omega arith)
member_at (x ∷ l) zero h = inl refl
member_at (x ∷ l) (suc i) h = inr (member_at l i (omega arith))

pub some_ext : (p q : ℕ → Bool) (l : List ℕ) → ((v : ℕ) → Member v l → p v ≡ q v) → some p l ≡ some q l
some_ext p q [] h = refl
some_ext p q (x ∷ l) h = ap (λ b. b || some p l) (h x (inl refl)) ∙ ap (λ b. q x || b) (some_ext p q l (λ v m. h v (inr m)))

pub some-map : (q : ℕ → Bool) (f : ℕ → ℕ) (l : List ℕ) → some q (map f l) ≡ some (λ v. q (f v)) l
some-map q f [] = refl
some-map q f (x ∷ l) = ap (λ b. q (f x) || b) (some-map q f l)

-- The library's test of some element.
pub some_any : (q : ℕ → Bool) (l : List ℕ) → some q l ≡ list_any q l
some_any q [] = refl
some_any q (x ∷ l) = ap (λ b. q x || b) (some_any q l)

pub T-yes : (b : Bool) → T b → b ≡ true
T-yes true h = refl
T-yes false h = absurd h

pub bools : (a b : Bool) → (T a → T b) → (T b → T a) → a ≡ b
bools true b f g = sym (T-yes b (f tt))
bools false true f g = absurd (g tt)
bools false false f g = refl
