-- Chains, and walks along them.
use Rattle.std.proofs.Common.{ℕ, zero, suc, ◌<◌, ◌≤◌, List, length, inl, inr, sym, subst, ⊎_elim, arith}
use Rattle.std.proofs.lemmas.Bool.{cases_lt}
use Rattle.kripke.specs.Structure.{Member}
use Rattle.image.specs.Checks.{Links}
use Rattle.image.specs.Image.{Chain, Walk, end, here, more, on, states}

-- a walk is no longer than its chain, and there is one of each length up to that
pub bounded : {img : List ℕ} {l : ℕ} {ts : List ℕ} {n : ℕ} → Chain img l ts → Walk img l n → n ≤ length ts
bounded end here = omega arith
bounded end (on l w) = omega arith
bounded (more l ch) here = omega arith
bounded (more l ch) (on m w) = let h = bounded ch w in omega arith

walks : {img : List ℕ} (n : ℕ) {l : ℕ} {ts : List ℕ} → Chain img l ts → n ≤ length ts → Walk img l n
walks zero ch h = here
walks (suc n) end h = absurd (omega arith)
walks (suc n) (more l ch) h = on l (walks n ch (omega arith))

-- a chain from a link is not empty, has no more targets than its walks have links, and its targets are states
pub not_empty : {img : List ℕ} {l : ℕ} {ts : List ℕ} → Chain img l ts → 1 ≤ l → 1 ≤ length ts
not_empty end h = omega arith
not_empty (more l ch) h = omega arith

pub at_most : {img : List ℕ} {l : ℕ} {ts : List ℕ} (n : ℕ) → ¬ Walk img l (suc n) → Chain img l ts → length ts ≤ n
at_most {ts = ts} n short ch = ⊎_elim (λ h. absurd (short (walks (suc n) ch (omega arith)))) (λ h. h) (cases_lt n (length ts))

pub targets : {img : List ℕ} {l : ℕ} {ts : List ℕ} → Links img → Chain img l ts → (t : ℕ) → Member t ts → t < states img
targets g end t m = absurd m
targets {img} g (more l ch) t (inl e) = subst (λ (x : ℕ). x < states img) (sym e) (g _ l).leads
targets g (more l ch) t (inr m) = targets g ch t m
