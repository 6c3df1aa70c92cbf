-- An image that breaks no rule describes a model.
use Rattle.std.proofs.Common.{◌≡◌, ℕ, zero, suc, ◌+◌, ◌<◌, ◌≤◌, Bool, true, List, [], ◌∷◌, map, Option, Some, None, unwrap_or, refl, sym, ap, subst, ◌∙◌, ⊎_elim, arith}
use Rattle.std.specs.List.{range_with_len}
use Rattle.std.specs.Option.{is_some}
use Rattle.std.proofs.lemmas.Bool.{cases_Bool, cases_eq, cases_lt}
use Rattle.std.proofs.lemmas.List.FromFn.{length-map-range_with_len, get_or-map-range_with_len}
use Rattle.kripke.specs.Refusals.{Clean}
use Rattle.kripke.specs.Structure.{Kripke, Lawful, State, state}
use Rattle.kripke.specs.declared.refusal.Cause.TheVariants as cause
use Rattle.labels.specs.Kinds.{Coding}
use Rattle.image.proofs.Walks.{at_most, not_empty, targets}
use Rattle.image.specs.Checks.{Links, States}
use Rattle.image.specs.Image.{Chain, Link, Walk, after, byte_at, end, first, here, initial, label_bytes, link_at, links, more, most_states, most_successors, on, state_at, states, target}
use Rattle.image.specs.Loading.{Describes, GoodLink, GoodState, ImageBreach, begins, chain, entry, field, link, state_count}
use Rattle.image.specs.Theorems.{Answered, SomeModel}

-- The targets of a chain, at most n of them, and that they are all where the walk ends.
run : List ℕ → ℕ → ℕ → List ℕ
run img zero l = []
run img (suc n) zero = []
run img (suc n) (suc l) = target img (suc l) ∷ run img n (after img (suc l))

runs : {img : List ℕ} (n l : ℕ) → Links img → l ≤ links img → ¬ Walk img l n → Chain img l (run img n l)
unfolding run
runs zero l good in_range short = absurd (short here)
runs (suc n) zero good in_range short = end
runs (suc n) (suc l) good in_range short =
    let this : Link _ (suc l) = (omega arith, in_range) in
    let sound = good (suc l) this in
    more this (runs n _ good (omega arith) (λ w. short (on this w)))

-- a label that is there, and the answers of none
label_of : (o : Option (List Bool)) → is_some o ≡ true → o ≡ Some (unwrap_or o [])
label_of (Some x) e = refl
label_of None e = cc

module _ (c : Coding) (img : List ℕ) (clean : Clean (ImageBreach c img)) where
  -- each rule is kept, since a number or a test that breaks none keeps it
  counted : (1 ≤ states img) × (states img ≤ most_states)
  counted =
      let broken : ¬ ¬ ((1 ≤ states img) × (states img ≤ most_states)) = λ h. clean cause.HeaderField 2 (field (state_count h)) in (
        ⊎_elim (λ l. absurd (broken (λ h. omega arith))) (λ l. l) (cases_lt (states img) 1),
        ⊎_elim (λ l. absurd (broken (λ h. omega arith))) (λ l. l) (cases_lt most_states (states img)),
      )

  starts : initial img < states img
  starts = ⊎_elim (λ l. l) (λ l. absurd (clean cause.HeaderField 6 (field (begins (λ h. omega arith))))) (cases_lt (initial img) (states img))

  every_state : States c img
  every_state s l = record {
    coded = ⊎_elim (λ e. e) (λ e. absurd (broken (λ g. let h = g.coded in cc))) (cases_Bool (is_some (c.decoded (label_bytes img s))));
    linked = (
      ⊎_elim (λ h. absurd (broken (λ g. let k = g.linked in omega arith))) (λ h. h) (cases_lt (first img s) 1),
      ⊎_elim (λ h. absurd (broken (λ g. let k = g.linked in omega arith))) (λ h. h) (cases_lt (links img) (first img s)),
    );
    low = ⊎_elim (λ e. e) (λ e. absurd (broken (λ g. e g.low))) (cases_eq (byte_at img (state_at s + 6)) 0);
    high = ⊎_elim (λ e. e) (λ e. absurd (broken (λ g. e g.high))) (cases_eq (byte_at img (state_at s + 7)) 0);
  }
    where
      broken : ¬ ¬ GoodState c img s
      broken h = clean cause.StateRecord (state_at s) (entry l h)

  every_link : Links img
  every_link l h = record {
    leads = ⊎_elim (λ k. k) (λ k. absurd (broken (λ g. let m = g.leads in omega arith))) (cases_lt (target img l) (states img));
    goes = ⊎_elim (λ k. absurd (broken (λ g. let m = g.goes in omega arith))) (λ k. k) (cases_lt (links img) (after img l));
  }
    where
      broken : ¬ ¬ GoodLink img l
      broken k = clean cause.LinkRecord (link_at img l) (link h k)

  ends : (s : ℕ) → s < states img → ¬ Walk img (first img s) (suc most_successors)
  ends s l w = clean cause.LongChain (state_at s) (chain l w)

  -- the model of the labels and the targets, and that the image describes it
  abbrev shown : ℕ → State
  shown s = record { answers = unwrap_or (c.decoded (label_bytes img s)) []; next = run img (suc most_successors) (first img s) }

  abbrev model : Kripke
  model = record { initial = initial img; states = map shown (range_with_len 0 (states img)) }

  shows : (s : ℕ) → s < states img → state model s ≡ shown s
  shows s l = get_or-map-range_with_len shown 0 (states img) s s _ l (omega arith)

  described : Describes c img model
  described = record {
    begins = refl;
    counted = length-map-range_with_len shown 0 (states img);
    labelled = λ s l. label_of (c.decoded (label_bytes img s)) (every_state s l).coded ∙ ap (λ (x : State). Some x.answers) (sym (shows s l));
    linked = λ s l.
        subst (λ (x : State). Chain img (first img s) x.next) (sym (shows s l))
        (runs (suc most_successors) (first img s) every_link (every_state s l).linked.1 (ends s l));
  }

  -- what is described is lawful
  lawful : (k : Kripke) → Describes c img k → (q : ℕ) → Answered q k → Lawful q k
  lawful k d q answered = record {
    some = omega (arith, d.counted, counted.0);
    few = omega (arith, d.counted, counted.1);
    begins = omega (arith, d.begins, d.counted, starts);
    answered = answered;
    closed = record {
      onward = λ s h. let l : s < states img = omega (arith, d.counted) in not_empty (d.linked s l) (every_state s l).linked.0;
      inside = λ s t h m.
          let l : s < states img = omega (arith, d.counted) in
          let k = targets every_link (d.linked s l) t m in
          omega (arith, d.counted);
    };
    narrow = λ s h. let l : s < states img = omega (arith, d.counted) in at_most most_successors (ends s l) (d.linked s l);
  }

pub models_some : SomeModel
models_some c img clean = (model c img clean, described c img clean, lawful c img clean (model c img clean) (described c img clean))
