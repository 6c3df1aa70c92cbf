-- What calls of `next` on a chain say of it.
use Rattle.std.proofs.Common.{◌≡◌, ℕ, suc, ◌+◌, ◌<◌, Option, Result, Ok, Err, OnErr, MatchResult, List, [], ◌∷◌, ◌++◌, length, MatchBool, None, Some, sym, ap, ◌∙◌, subst, ⊎_elim, arith}
use Rattle.std.proofs.lemmas.Bool.{cases_lt}
use Rattle.std.specs.Iterator.{Drains, DrainsIf, Yields, YieldsThen, SkipsThenYields}
use Rattle.std.specs.Iterator.Adapters.{take_count, take_source, take_steps}
use Rattle.std.specs.declared.iter.Take.{Take}
use Rattle.std.specs.Bool.{⊤}
use Rattle.std.specs.Option.{is_some}
use Rattle.image.proofs.Walks.{bounded}
use Rattle.image.specs.Image.{Chain, Link, Walk, end, here, more, on}
use Rattle.image.specs.Checks.{Step}
use Rattle.image.specs.declared.chain.Chain.{Chain as Rest}
use Rattle.image.specs.declared.chain.Linked.{Linked}

abbrev pub Steps : Rest → Option ℕ → Rest → Type 0
Steps s r t = (t.linked ≡ s.linked) × Step s.linked.records.image.now s.link r t.link

abbrev of : Rest → List ℕ
of s = s.linked.records.image.now

-- a run to the end gives all targets of the chain
pub all_targets : (xs : List ℕ) (s t : Rest) → Yields Steps s xs t → t.link ≡ 0 → Chain (of s) s.link xs
all_targets [] s t y e = subst (λ (l : ℕ). Chain (of s) l []) (sym (ap (λ (k : Rest). k.link) y ∙ e)) end
all_targets (x ∷ xs) s t (j, st, y) e =
    let rest = subst (λ (k : Linked). Chain k.records.image.now j.link xs) st.0 (all_targets xs j t y e) in
    subst (λ (n : ℕ). Chain (of s) s.link (n ∷ xs)) (sym st.1.1) (more st.1.0 (subst (λ (l : ℕ). Chain (of s) l xs) st.1.2 rest))

-- a run that stands at a link has walked one link more than it gave targets
pub walked : (xs : List ℕ) (s t : Rest) → Yields Steps s xs t → Link (of t) t.link → Walk (of s) s.link (suc (length xs))
walked [] s t y l = subst (λ (k : Rest). Walk (of k) k.link 1) (sym y) (on l here)
walked (x ∷ xs) s t (j, st, y) l =
    let rest = subst (λ (k : Linked). Walk k.records.image.now j.link (suc (length xs))) st.0 (walked xs j t y l) in
    on st.1.0 (subst (λ (k : ℕ). Walk (of s) k (suc (length xs))) st.1.2 rest)

-- a link after n others shows that the chain is longer than n, and an end within n that it is not
pub longer : (s u : Rest) (n : ℕ) (r : Option ℕ) → SkipsThenYields Steps s n r u
    → MatchBool (is_some r) (Walk (of s) s.link (n + 1)) (¬ Walk (of s) s.link (n + 1))
longer s u n None (xs, (t, y, st), short) = λ w. let h = bounded (all_targets xs s t y st.1.0) w in omega arith
longer s u n (Some x) (xs, (t, y, st), full) =
    let e : suc (length xs) ≡ n + 1 = omega arith in
    subst (λ (k : ℕ). Walk (of s) s.link k) e (walked xs s t y st.1.0)

from_source : (xs : List ℕ) (w v : Take Rest) → Yields (take_steps Steps) w xs v
    → Yields Steps (take_source w) xs (take_source v) × (length xs + take_count v ≡ take_count w)
from_source [] w v y = let e = ap take_count y in (ap take_source y, omega arith)
from_source (x ∷ xs) w v (j, st, y) =
    let rest = from_source xs j v y in
    ((take_source j, st.0, rest.0), omega (arith, st.1, rest.1))

-- the first n targets are all, of a chain that has no more links than n
pub all_taken : (w : Take Rest) (xs : List ℕ) → DrainsIf (take_steps Steps) ⊤ w xs
    → ¬ Walk (of (take_source w)) (take_source w).link (suc (take_count w)) → Chain (of (take_source w)) (take_source w).link xs
all_taken w xs (v, y, over) short =
    let run = from_source xs w v y in
    all_targets xs (take_source w) (take_source v) run.0 (⊎_elim (λ h. absurd (goes_on h)) (λ h. omega arith) (cases_lt 0 (take_source v).link))
  where
    goes_on : ¬ 0 < (take_source v).link
    goes_on h =
        let run = from_source xs w v y in
        ⊎_elim (λ k. omega (arith, h, ((over tt).1 k).1.0))
        (λ k. let e : length xs ≡ take_count w = omega (arith, k, run.1) in
        short (subst (λ (n : ℕ). Walk (of (take_source w)) (take_source w).link (suc n)) e (walked xs (take_source w) (take_source v) run.0 (h, (take_source v).within))))
        (cases_lt 0 (take_count v))

-- places for as many targets as there can be hold all of the chain
module _ (w : Take Rest) (old items : List ℕ) (none : old ≡ []) (cap : ℕ) (fits : take_count w ≡ cap) (short : ¬ Walk (of (take_source w)) (take_source w).link (suc (take_count w))) where
  pub all_held : {E : Type 0} (r : Result (Unit {0}) E)
      → (it : Take Rest) × (xs : List ℕ) × (it ≡ w) × (items ≡ old ++ xs) × MatchResult r (λ _. Drains (take_steps Steps) it xs) (λ _. (t : Take Rest) × Yields (take_steps Steps) it xs t)
      → OnErr r (length items ≡ cap)
      → OnErr r ((it : Take Rest) × (xs : List ℕ) × (x : ℕ) × (rest : Take Rest) × (it ≡ w) × YieldsThen (take_steps Steps) it xs (Some x) rest × (items ≡ old ++ xs))
      → Chain (of (take_source w)) (take_source w).link items
  all_held (Ok u) (it, xs, is, has, (v, (t, y, last))) full one =
      subst (λ (l : List ℕ). Chain (of (take_source w)) (take_source w).link l) (sym (has ∙ ap (λ (l : List ℕ). l ++ xs) none))
      (all_taken w xs (subst (λ (k : Take Rest). DrainsIf (take_steps Steps) ⊤ k xs) is (t, y, λ _. (v, last))) short)
  all_held (Err e) ran full (it, xs, x, rest, is, (t, y, st), has) =
      let run = from_source xs it t y in
      absurd (omega (arith, run.1, st.1, full, fits, ap length (has ∙ ap (λ (l : List ℕ). l ++ xs) none), ap take_count is))
