-- The states that lead to each state.
use Rattle.std.specs.Prelude.{◌≡◌, ℕ, ◌<◌, ◌&&◌, ◌||◌, List, nat_eq, nat_lt, slice_index}
use Rattle.kripke.specs.Structure.{Kripke, successors}
use Rattle.refine.specs.Chains.{has, chain}
use Rattle.refine.specs.declared.sources.Sources.{Sources}

-- The list of state t.
abbrev pub leading : Sources → ℕ → List ℕ
leading w t = chain w.steps.items (slice_index w.last t) (slice_index w.last t)

-- Each of the lists has those of the first i states that have its state as a successor.
abbrev pub Leads : Kripke → Sources → ℕ → Type 0
Leads u w i = (t x : ℕ) → t < 512 → has x (leading w t) ≡ (nat_lt x i && has t (successors u x))

-- State s was written down at each of ts.
abbrev pub Entered : Sources → Sources → ℕ → List ℕ → Type 0
Entered v w s ts = (t x : ℕ) → t < 512 → has x (leading w t) ≡ ((nat_eq s x && has t ts) || has x (leading v t))
