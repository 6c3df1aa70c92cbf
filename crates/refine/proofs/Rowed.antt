-- A state read out of a table's rows, and a numbered state of both structures.
use Rattle.std.proofs.Common.{◌≡◌, ℕ, ◌+◌, ◌-◌, ◌<◌, ◌≤◌, List, [], ◌∷◌, map, length, get_or, sym, refl, ap, ◌∙◌, subst, ⊎_elim, zero-add, arith}
use Rattle.std.proofs.lemmas.Bool.{cases_lt}
use Rattle.std.proofs.lemmas.List.{get_or-map, length-map}
use Rattle.refine.specs.Tables.{structure_of}
use Rattle.refine.specs.declared.table.Table.{Table}
use Rattle.kripke.specs.Structure.{Kripke, State, Closed, Lawful, Member, size, state, successors}
use Rattle.kripke.specs.Rounds.{total}
use Rattle.kripke.specs.Union.{both, moved}
use Rattle.kripke.proofs.Unions.{both_size, both_closed, both_first, both_second}
use Rattle.refine.specs.Rows.{state_of, structure}
use Rattle.refine.specs.Pairs.{first_of, second_of, both_of}
use Rattle.refine.specs.declared.pair.Pair.{Pair}
use Rattle.refine.proofs.Somes.{member_at}
use Rattle.refine.specs.declared.row.Row.{Row}

pub row_state_lem : (start : ℕ) (rows : List Row) (s : ℕ) (r : Row) → s < length rows → r ≡ get_or rows s r → state (structure start rows) s ≡ state_of r
row_state_lem start rows s r l e = get_or-map state_of rows s r _ l ∙ ap state_of (sym e)

pub row_size : (start : ℕ) (rows : List Row) → size (structure start rows) ≡ length rows
row_size start rows = length-map rows state_of

-- The structure of a table is lawful.
pub table_lawful : (t : Table) → Lawful t.questions (structure_of t)
table_lawful t =
    let e : size (structure_of t) ≡ length t.rows.items = row_size t.initial t.rows.items in
    record {
      some = omega (arith, e, t.some);
      few = omega (arith, e, t.few);
      begins = omega (arith, e, t.begins);
      answered = λ s h. t.answered s (omega (arith, e, h));
      closed = record {
        onward = λ s h. t.onward s (omega (arith, e, h));
        inside = λ s v h m. omega (arith, e, t.inside s v (omega (arith, e, h)) m);
      };
      narrow = λ s h. t.narrow s (omega (arith, e, h));
    }

-- The states of both structures, by their rows.
plus_none : (l : List ℕ) → map (λ (t : ℕ). 0 + t) l ≡ l
plus_none [] = refl
plus_none (x ∷ l) = ap (λ (y : ℕ). y ∷ map (λ (t : ℕ). 0 + t) l) (zero-add x) ∙ ap (λ (m : List ℕ). x ∷ m) (plus_none l)

moved_none : (s : State) → moved 0 s ≡ s
moved_none s = λ i. record { answers = s.answers; next = plus_none s.next i }

pub row_first : (t : Table) (b : Kripke) (i : ℕ) (r : Row) → i < length t.rows.items → r ≡ get_or t.rows.items i r
    → state (both (structure_of t) b) i ≡ moved 0 (state_of r)
row_first t b i r l e =
    both_first (structure_of t) b i (omega (arith, l, row_size t.initial t.rows.items))
    ∙ row_state_lem t.initial t.rows.items i r l e ∙ sym (moved_none (state_of r))

pub row_second : (a : Kripke) (t : Table) (i n : ℕ) (r : Row) → n ≡ size a → n ≤ i → i - n < length t.rows.items → r ≡ get_or t.rows.items (i - n) r
    → state (both a (structure_of t)) i ≡ moved n (state_of r)
row_second a t i n r s f l e =
    ap (λ (j : ℕ). state (both a (structure_of t)) j) (let z : i ≡ size a + (i - n) = omega (arith, s, f) in z)
    ∙ both_second a (structure_of t) (i - n) (omega (arith, l, row_size t.initial t.rows.items))
    ∙ ap (λ (x : State). moved (size a) x) (row_state_lem t.initial t.rows.items (i - n) r l e)
    ∙ ap (λ (m : ℕ). moved m (state_of r)) (sym s)

pub pair_size : (p : Pair) → size (both_of p) ≡ total (first_of p) (second_of p)
pair_size p = both_size (first_of p) (second_of p)

pub pair_total : (p : Pair) → total (first_of p) (second_of p) ≡ length p.first.rows.items + length p.second.rows.items
pair_total p = omega (arith, row_size p.first.initial p.first.rows.items, row_size p.second.initial p.second.rows.items)

pub pair_closed : (p : Pair) → Closed (both_of p)
pair_closed p = both_closed (first_of p) (second_of p) (table_lawful p.first).closed (table_lawful p.second).closed

-- The row of a state of lawful structures has an answer to each question.
pub long_answers : (q : ℕ) (a b : Kripke) → Lawful q a → Lawful q b → (i : ℕ) → i < total a b → length (state (both a b) i).answers ≡ q
long_answers q a b la lb i h = ⊎_elim
    (λ (l : i < size a). ap (λ (x : State). length x.answers) (both_first a b i l) ∙ la.answered i l)
    (λ (l : size a ≤ i).
    let e : size a + (i - size a) ≡ i = omega arith in
    ap (λ (j : ℕ). length (state (both a b) j).answers) (sym e) ∙ ap (λ (x : State). length x.answers) (both_second a b (i - size a) (omega arith))
    ∙ lb.answered (i - size a) (omega arith))
    (cases_lt i (size a))

module _ (p : Pair) (i low : ℕ) (r : Row) (l : i < total (first_of p) (second_of p)) (e : state (both_of p) i ≡ moved low (state_of r)) where
  pub row_answers : length r.answers.items ≡ p.first.questions
  row_answers =
      sym (ap (λ (x : State). length x.answers) e)
      ∙ long_answers p.first.questions (first_of p) (second_of p) (table_lawful p.first) (subst (λ (n : ℕ). Lawful n (second_of p)) p.level (table_lawful p.second)) i l

-- The successors of a row, numbered on, are states of both structures.
pub row_inside : (a b : Table) (i low : ℕ) (r : Row) → i < total (structure_of a) (structure_of b) → state (both (structure_of a) (structure_of b)) i ≡ moved low (state_of r)
    → (k : ℕ) → k < length r.next.items → low + get_or r.next.items k 0 < total (structure_of a) (structure_of b)
row_inside a b i low r l e k h =
    let f : ℕ → ℕ = λ t. low + t in
    let u : Kripke = both (structure_of a) (structure_of b) in
    let m : Member (get_or (map f r.next.items) k 0) (successors u i) =
    subst (λ (s : State). Member (get_or (map f r.next.items) k 0) s.next) (sym e) (member_at (map f r.next.items) k (omega (arith, h, length-map r.next.items f))) in
    let size_is : size u ≡ total (structure_of a) (structure_of b) = both_size (structure_of a) (structure_of b) in
    omega (arith, (both_closed (structure_of a) (structure_of b) (table_lawful a).closed (table_lawful b).closed).inside i _ (omega (arith, l, size_is)) m, get_or-map f r.next.items k 0 0 h, size_is)
