-- Rows, and the structure that they mean.
use Rattle.std.specs.Prelude.{◌≡◌, ℕ, ◌<◌, ◌≤◌, Bool, List, [], ◌∷◌, map, length, slice_index_or}
use Rattle.std.proofs.Common.{sym, ap, subst, ◌∙◌, ⊎_elim, arith}
use Rattle.std.proofs.lemmas.List.{get_or-map, get_or_past, length-map}
use Rattle.std.proofs.lemmas.Bool.{cases_lt}
use Rattle.kripke.specs.Structure.{Kripke, Member, State, Lawful, or_first, blank_state, size, state, successors}
use Rattle.image.specs.Image.{most_states, most_successors}
use Rattle.image.specs.Stored.{nexts, Inside, row_state, rows_mean}
use Rattle.image.specs.declared.stored.row.Row.{Row}

-- what a function makes of what stands at a place or first
pub or_first-map : {X Y : Type 0} (f : X → Y) (xs : List X) (i : ℕ) (d : X) (e : Y) → 1 ≤ length xs → or_first (map f xs) i e ≡ f (or_first xs i d)
or_first-map f xs i d e some = ⊎_elim within past (cases_lt i (length xs))
  where
    within : i < length xs → or_first (map f xs) i e ≡ f (or_first xs i d)
    within h = get_or-map f xs i (slice_index_or xs 0 d) (slice_index_or (map f xs) 0 e) h

    past : length xs ≤ i → or_first (map f xs) i e ≡ f (or_first xs i d)
    past h =
        get_or_past (map f xs) i (slice_index_or (map f xs) 0 e) (omega (arith, length-map xs f))
        ∙ (get_or-map f xs 0 d e (omega arith) ∙ ap f (sym (get_or_past xs i (slice_index_or xs 0 d) h)))

-- a list of states means a size
pub size_is : {L : Type 0} (answers : L → List Bool) (rows : List (Row L)) (start : ℕ) → size (rows_mean answers rows start) ≡ length rows
size_is answers rows start = length-map rows (row_state answers)

-- the successors of a state that there is
pub next_is : {L : Type 0} (answers : L → List Bool) (rows : List (Row L)) (start s : ℕ) → s < length rows
    → successors (rows_mean answers rows start) s ≡ slice_index_or (nexts rows) s []
next_is answers [] start s h = absurd (none h)
  where
    none : ¬ s < 0
    none h = omega arith
next_is answers (r ∷ rs) start s h =
    ap (λ x. x.next) (or_first-map (row_state answers) (r ∷ rs) s r blank_state (omega arith))
    ∙ sym (get_or-map (λ row. row.next.items) (r ∷ rs) s r [] h)

-- what every row's state keeps to, every state of the structure keeps to
every_state : {L : Type 0} (answers : L → List Bool) (rows : List (Row L)) (start : ℕ) (P : State → Type 0)
    → 1 ≤ length rows → ((r : Row L) → P (row_state answers r)) → (s : ℕ) → P (state (rows_mean answers rows start) s)
every_state answers [] start P some h s = absurd (omega arith)
every_state answers (r ∷ rs) start P some h s =
    subst P (sym (or_first-map (row_state answers) (r ∷ rs) s r blank_state some)) (h (or_first (r ∷ rs) s r))

-- rows that keep to their bounds mean a lawful structure
module _ {L : Type 0} (answers : L → List Bool) (q : ℕ) (counted : (l : L) → length (answers l) ≡ q) (rows : List (Row L)) (start : ℕ) where
  abbrev mean : Kripke
  mean = rows_mean answers rows start

  pub lawful : 1 ≤ length rows → length rows ≤ most_states → start < length rows → Inside rows → Lawful q mean
  lawful some few begins inside =
      let n = size_is answers rows start in
      record {
        some = omega arith;
        few = omega arith;
        begins = omega arith;
        answered = λ s h. every_state answers rows start (λ x. length x.answers ≡ q) some (λ r. counted r.label) s;
        closed = record {
          onward = λ s h. every_state answers rows start (λ x. 1 ≤ length x.next) some (λ r. r.some) s;
          inside = λ s t h m.
              subst (λ (l : ℕ). t < l) (sym n)
              (inside s t (omega arith) (subst (λ (l : List ℕ). Member t l) (next_is answers rows start s (omega arith)) m));
        };
        narrow = λ s h. every_state answers rows start (λ x. length x.next ≤ most_successors) some (λ r. r.narrow) s;
      }
