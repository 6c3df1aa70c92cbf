-- Rows that are filled in one by one, and the model that they describe at the end.
use Rattle.std.proofs.Common.{◌≡◌, ℕ, ◌+◌, ◌<◌, Bool, List, [], ◌∷◌, ◌++◌, length, get_or, sym, ap, ◌∙◌, subst, arith, below_more}
use Rattle.std.proofs.lemmas.List.{length_push, get_or_append_left, get_or_push, get_or-map, length-map}
use Rattle.kripke.specs.Structure.{Kripke, Member, State, state}
use Rattle.image.specs.Checks.{Links, Shown}
use Rattle.image.specs.Held.{Filled}
use Rattle.image.specs.Image.{label_bytes, states, initial}
use Rattle.labels.specs.Kinds.{Coding}
use Rattle.image.specs.Loading.{Describes}
use Rattle.image.specs.Stored.{row_state, rows_mean, Inside}
use Rattle.image.specs.declared.stored.row.Row.{Row}
use Rattle.image.specs.Rows.{next_is}
use Rattle.image.proofs.Walks.{targets}

module _ {L : Type 0} (answers : L → List Bool) (codes : List ℕ → L → Type 0) (c : Coding) (img : List ℕ) where
  pub filled_none : (n : ℕ) (rows : List (Row L)) → n ≡ 0 → rows ≡ [] → Filled answers codes c img n rows
  filled_none n rows e f = record { count = omega (arith, e, ap length f); each = λ s d l. absurd (omega arith); coded = λ s d l. absurd (omega arith) }

  pub filled_more : (n : ℕ) (rows then : List (Row L)) (r : Row L)
      → Filled answers codes c img n rows → Shown c img n (row_state answers r) → codes (label_bytes img n) r.label → then ≡ rows ++ r ∷ []
      → Filled answers codes c img (n + 1) then
  filled_more n rows then r f h g e =
      subst (λ (xs : List (Row L)). Filled answers codes c img (n + 1) xs) (sym e)
      record {
        count = let k = f.count in omega (arith, length_push rows r);
        each = λ s d.
            below_more (λ k. Shown c img k (row_state answers (get_or (rows ++ r ∷ []) k d))) n
            (λ k l. let m = f.count in subst (λ (x : Row L). Shown c img k (row_state answers x)) (sym (get_or_append_left rows (r ∷ []) d k (omega arith))) (f.each k d l))
            (subst (λ (x : Row L). Shown c img n (row_state answers x)) (sym (get_or_push rows r d n f.count)) h) s;
        coded = λ s d.
            below_more (λ k. codes (label_bytes img k) (get_or (rows ++ r ∷ []) k d).label) n
            (λ k l. let m = f.count in subst (λ (x : Row L). codes (label_bytes img k) x.label) (sym (get_or_append_left rows (r ∷ []) d k (omega arith))) (f.coded k d l))
            (subst (λ (x : Row L). codes (label_bytes img n) x.label) (sym (get_or_push rows r d n f.count)) g) s;
      }

-- what holds of the row at a place holds of the state that it means
state_of : {L : Type 0} (answers : L → List Bool) (rows : List (Row L)) (start s : ℕ) (P : State → Type 0)
    → s < length rows → ((d : Row L) → P (row_state answers (get_or rows s d))) → P (state (rows_mean answers rows start) s)
state_of answers [] start s P l h = absurd (omega arith)
state_of answers (r ∷ rs) start s P l h = subst P (sym (get_or-map (row_state answers) (r ∷ rs) s r _ l)) (h r)

-- all rows, and the header's initial state
module _ {L : Type 0} (answers : L → List Bool) {codes : List ℕ → L → Type 0} {c : Coding} {img : List ℕ} (rows : List (Row L)) (start : ℕ) (f : Filled answers codes c img (states img) rows) where
  abbrev mean : Kripke
  mean = rows_mean answers rows start

  shown : (s : ℕ) → s < states img → Shown c img s (state mean s)
  shown s l = let n = f.count in state_of answers rows start s (Shown c img s) (omega arith) (λ d. f.each s d l)

  pub describes : start ≡ initial img → Describes c img mean
  describes e =
      record {
        begins = e;
        counted = length-map rows (row_state answers) ∙ f.count;
        labelled = λ s l. (shown s l).0;
        linked = λ s l. (shown s l).1;
      }

  pub rows_inside : Links img → Inside rows
  rows_inside links s t l m =
      let n = f.count in
      let k = targets links (shown s (omega arith)).1 t (subst (λ (ts : List ℕ). Member t ts) (sym (next_is answers rows start s l)) m) in
      omega arith
