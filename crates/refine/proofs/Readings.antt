-- What a structure that was read has from the law of its model.
use Rattle.std.proofs.Common.{◌≡◌, ℕ, ◌<◌, ◌≤◌, List, map, length, sym, subst, arith}
use Rattle.std.proofs.lemmas.List.{length-map}
use Rattle.kripke.specs.Structure.{Kripke, Member, Lawful, size, state, successors}
use Rattle.refine.specs.Rows.{state_of, structure}
use Rattle.refine.specs.declared.row.Row.{Row}

pub structure_is : (initial : ℕ) (rows : List Row) (k : Kripke) → initial ≡ k.initial → map state_of rows ≡ k.states → structure initial rows ≡ k
structure_is initial rows k p q = λ i. record { initial = p i; states = q i }

module _ (q initial : ℕ) (rows : List Row) (k : Kripke) (is : structure initial rows ≡ k) (law : Lawful q k) where
  abbrev u : Kripke
  u = structure initial rows

  lawful : Lawful q (structure initial rows)
  lawful = subst (λ (z : Kripke). Lawful q z) (sym is) law

  long : size (structure initial rows) ≡ length rows
  long = length-map rows state_of

  pub read_some : 1 ≤ length rows
  read_some = omega (arith, long, lawful.some)

  pub read_few : length rows ≤ 256
  read_few = omega (arith, long, lawful.few)

  pub read_begins : initial < length rows
  read_begins = omega (arith, long, lawful.begins)

  pub read_answered : (s : ℕ) → s < length rows → length (state (structure initial rows) s).answers ≡ q
  read_answered s l = lawful.answered s (omega (arith, long))

  pub read_onward : (s : ℕ) → s < length rows → 1 ≤ length (successors (structure initial rows) s)
  read_onward s l = lawful.closed.onward s (omega (arith, long))

  pub read_narrow : (s : ℕ) → s < length rows → length (successors (structure initial rows) s) ≤ 16
  read_narrow s l = lawful.narrow s (omega (arith, long))

  pub read_inside : (s t : ℕ) → s < length rows → Member t (successors (structure initial rows) s) → t < length rows
  read_inside s t l m = omega (arith, long, lawful.closed.inside s t (omega (arith, long)) m)
