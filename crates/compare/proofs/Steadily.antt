-- A comparison without an accepted round stays as it is, so that a formula that it told is the one that it keeps.
use Rattle.std.proofs.Common.{◌≡◌, ℕ, suc, ◌+◌, ◌<◌, ◌≤◌, arith, ◌⊎◌, List, [], length, get_or, take, set, sym, refl, ap, ◌∙◌, subst, inl, inr, ⊎_elim, Ok}
use Rattle.kripke.specs.Refusals.{Clean}
use Rattle.kripke.specs.Rounds.{ClosedAfter}
use Rattle.kripke.specs.declared.node.Node.{Node}
use Rattle.kripke.specs.declared.refusal.Cause.TheVariants.{ClosedComparison, NotDifferent}
use Rattle.compare.specs.Answers.{Separating}
use Rattle.compare.specs.Breaches.{RoundBreach, FormulaBreach, closed, no_difference}
use Rattle.compare.specs.Calls.{SameModels, Rounded, Lent, first, second, questions, rounds, table}
use Rattle.compare.specs.Law.{Answered, Obeys, Run, Steady, Did, DidAll, rounded, formulated, none}
use Rattle.compare.specs.declared.comparison.Comparison.{Comparison}
use Rattle.compare.specs.declared.requests.Request.{Request}
use Rattle.compare.specs.declared.requests.Request.TheVariants as request
use Rattle.compare.specs.declared.requests.Answer.TheVariants as answer
use Rattle.compare.proofs.Lists.{run_step, law_at, law_from}

abbrev Closed : Comparison → Type 0
Closed c = ClosedAfter (first c) (second c) (rounds c)

pub steady_same : (c d : Comparison) → d ≡ c → Steady c d
steady_same c d e = record { still = λ h. e; unmoved = λ h. e; grows = subst (λ (x : Comparison). rounds c ≤ rounds x) (sym e) (omega arith) }

-- an accepted round, of an open comparison
pub steady_round : (c d : Comparison) → rounds d ≡ suc (rounds c) → Clean (RoundBreach (first c) (second c) (rounds c)) → Steady c d
steady_round c d more clean =
    record { still = λ h. absurd (clean ClosedComparison (rounds c) (closed h)); unmoved = λ h. absurd (apart h); grows = omega (arith, more) }
  where
    apart : ¬ rounds d ≡ rounds c
    apart h = omega (arith, more, h)

pub steady_trans : (c d e : Comparison) → Steady c d → Steady d e → Steady c e
steady_trans c d e old new = record { still = held; unmoved = unmoved; grows = omega (arith, old.grows, new.grows) }
  where
    unmoved : rounds e ≡ rounds c → e ≡ c
    unmoved h =
        let p : rounds c ≤ rounds d = old.grows in
        let q : rounds d ≤ rounds e = new.grows in
        let x : rounds d ≡ rounds c = omega arith in
        let y : rounds e ≡ rounds d = omega arith in
        new.unmoved y ∙ old.unmoved x

    held : Closed c → e ≡ c
    held h = let z = old.still h in new.still (subst (λ (x : Comparison). Closed x) (sym z) h) ∙ z

-- A formula is told by a comparison that is closed as different.
pub closed_formulated : (c : Comparison) (p : ℕ) → Clean (FormulaBreach (first c) (second c) (rounds c) p) → Closed c
closed_formulated c p clean = inl (λ same. clean NotDifferent (rounds c) (no_difference (λ different. different same)))

abbrev Runs : Comparison → List Node → List Request → List Answered → ℕ → Type 0
Runs c ns xs ys n = Run (first c) (second c) (questions c) (rounds c) ns xs ys n

abbrev Asked : Comparison → Comparison → Request → Answered → List Node → Type 0
Asked d e r s ns = Obeys (first d) (second d) (questions d) (rounds d) ns r s (rounds e)

-- a request that leaves the comparison as it is, and tells no formula
pub did_same : (c d : Comparison) (r r' : Request) (s : Answered) → r ≡ r' → d ≡ c → ((ns : List Node) → Obeys (first c) (second c) (questions c) (rounds c) ns r' s (rounds c)) → Did c r s d
did_same c d r r' s q e o = record { steady = steady_same c d e; law = inl (λ ns. law_at c d ns r r' s (rounds c) q (ap rounds e) (o ns)) }

-- an accepted round
pub did_round : (c d : Comparison) (r : Request) (n : ℕ) → r ≡ request.Round → Clean (RoundBreach (first c) (second c) (rounds c)) → Rounded c d n → Did c r (Ok (answer.Round n)) d
did_round c d r n q clean h = record {
  steady = steady_round c d h.one_more clean;
  law = inl (λ ns. law_at c d ns r request.Round (Ok (answer.Round n)) (suc (rounds c)) q h.one_more (rounded n clean h.soon h.classes));
}

-- a formula
pub did_formulate : (c : Comparison) (r : Request) (p n : ℕ) (nodes : List Node) → r ≡ request.Formula p → Clean (FormulaBreach (first c) (second c) (rounds c) p) → Lent c nodes → n ≡ length nodes
    → Did c r (Ok (answer.Formula n)) c
did_formulate c r p n nodes q clean h l = record {
  steady = steady_same c c refl;
  law = inr (
    closed_formulated c p clean,
    law_at c c (table c) r (request.Formula p) (Ok (answer.Formula n)) (rounds c) q refl
        (formulated p n clean (subst (λ (ns : List Node). Separating (first c) (second c) (questions c) (rounds c) ns) h.kept h.separating) (l ∙ ap length h.kept)),
  );
}

pub all_none : (c : Comparison) → DidAll c [] [] c
all_none c = record { steady = steady_same c c refl; law = inl (λ ns. none) }

-- one answer more
pub all_more : (c d e : Comparison) (rs : List Request) (i : ℕ) (ss : List Answered) (s : Answered) → i < length rs → i < length ss → SameModels c d
    → DidAll c (take i rs) (take i ss) d → Did d (get_or rs i request.Round) s e → DidAll c (take (i + 1) rs) (take (i + 1) (set ss i s)) e
all_more c d e rs i ss s l h same old new = record { steady = steady_trans c d e old.steady new.steady; law = ⊎_elim unformed formed old.law }
  where
    step : (ns : List Node) → Runs c ns (take i rs) (take i ss) (rounds d) → Asked d e (get_or rs i request.Round) s ns → Runs c ns (take (i + 1) rs) (take (i + 1) (set ss i s)) (rounds e)
    step ns r o = run_step (first c) (second c) (questions c) (rounds c) ns rs i ss s (rounds d) (rounds e) l h r (law_from c d ns _ s (rounds e) same o)

    unformed : ((ns : List Node) → Runs c ns (take i rs) (take i ss) (rounds d))
        → ((ns : List Node) → Runs c ns (take (i + 1) rs) (take (i + 1) (set ss i s)) (rounds e)) ⊎ (Closed e × Runs c (table e) (take (i + 1) rs) (take (i + 1) (set ss i s)) (rounds e))
    unformed r = ⊎_elim (λ (o : (ns : List Node) → Asked d e (get_or rs i request.Round) s ns). inl (λ ns. step ns (r ns) (o ns))) (λ (o : Closed e × Asked d e (get_or rs i request.Round) s (table e)). inr (o.0, step (table e) (r (table e)) o.1)) new.law

    formed : Closed d × Runs c (table d) (take i rs) (take i ss) (rounds d)
        → ((ns : List Node) → Runs c ns (take (i + 1) rs) (take (i + 1) (set ss i s)) (rounds e)) ⊎ (Closed e × Runs c (table e) (take (i + 1) rs) (take (i + 1) (set ss i s)) (rounds e))
    formed r =
        let z : e ≡ d = new.steady.still r.0 in
        inr (
          subst (λ (x : Comparison). Closed x) (sym z) r.0,
          step (table e) (subst (λ (x : Comparison). Runs c (table x) (take i rs) (take i ss) (rounds d)) (sym z) r.1) (⊎_elim (λ (o : (ns : List Node) → Asked d e (get_or rs i request.Round) s ns). o (table e)) (λ (o : Closed e × Asked d e (get_or rs i request.Round) s (table e)). o.1) new.law),
        )

pub all_law : (c : Comparison) (rs : List Request) (ss : List Answered) (d : Comparison) → DidAll c rs ss d → Run (first c) (second c) (questions c) (rounds c) (table d) rs ss (rounds d)
all_law c rs ss d k = ⊎_elim
    (λ (r : (ns : List Node) → Run (first c) (second c) (questions c) (rounds c) ns rs ss (rounds d)). r (table d))
    (λ (r : Closed d × Run (first c) (second c) (questions c) (rounds c) (table d) rs ss (rounds d)). r.1)
    k.law
