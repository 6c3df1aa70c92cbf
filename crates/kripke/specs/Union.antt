-- Two structures side by side as one: the states of the second come after those of the first, and their successors are numbered on.
use Rattle.std.specs.Prelude.{ℕ, ◌+◌, ◌++◌, map}
use Rattle.kripke.specs.Structure.{Kripke, State, size}

abbrev pub moved : ℕ → State → State
moved n s = record { answers = s.answers; next = map (λ (t : ℕ). n + t) s.next }

abbrev pub both : Kripke → Kripke → Kripke
both a b = record { initial = a.initial; states = a.states ++ map (moved (size a)) b.states }
