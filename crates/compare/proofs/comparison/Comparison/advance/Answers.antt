use Rattle.std.proofs.Common.{◌≡◌, ℕ, suc, sym, ap, ◌∙◌, subst}
use Rattle.kripke.specs.Classes.{Classes}
use Rattle.kripke.specs.Rounds.{ClosedAfter}
use Rattle.refine.specs.declared.pair.Pair.{Pair}
use Rattle.refine.specs.declared.refinement.Refinement.{Refinement}
use Rattle.refine.specs.Refinements.{Advanced}
use Rattle.refine.specs.Pairs.{first_of, second_of}
use Rattle.compare.specs.Calls.{first, second, questions, rounds}
use Rattle.compare.proofs.Levels.{first_lawful, second_lawful}
use Rattle.compare.proofs.Rulings.{Fresh, open_moves, fresh_more, open_soon}
use Rattle.compare.proofs.comparison.Comparison.advance.Goals as goal

-- A round of an open refinement is a round more.
went : (r s : Refinement) (n : ℕ) → Advanced r s n → (¬ ClosedAfter (first_of r.pair) (second_of r.pair) r.rounds) → (s.pair ≡ r.pair) × (s.rounds ≡ suc r.rounds)
went r s n d e = d.goes_on (r.last ∙ open_moves (first_of r.pair) (second_of r.pair) r.rounds e)

fresh : (r s : Refinement) → (s.pair ≡ r.pair) × (s.rounds ≡ suc r.rounds) → (¬ ClosedAfter (first_of r.pair) (second_of r.pair) r.rounds)
    → Fresh (first_of r.pair) (second_of r.pair) r.rounds → Fresh (first_of s.pair) (second_of s.pair) s.rounds
fresh r s w e h =
    subst (λ (p : Pair). Fresh (first_of p) (second_of p) s.rounds) (sym w.0)
    (subst (λ (k : ℕ). Fresh (first_of r.pair) (second_of r.pair) k) (sym w.1) (fresh_more (first_of r.pair) (second_of r.pair) r.rounds h e))

counted : (r s : Refinement) (n : ℕ) → Advanced r s n → (s.pair ≡ r.pair) × (s.rounds ≡ suc r.rounds) → Classes (first_of r.pair) (second_of r.pair) (suc r.rounds) n
counted r s n d w =
    subst (λ (k : ℕ). Classes (first_of r.pair) (second_of r.pair) k n) w.1
    (subst (λ (p : Pair). Classes (first_of p) (second_of p) s.rounds n) w.0 d.classes)

pub invariant_of-self : goal.invariant_of-self
invariant_of-self c =
    let s = c.args.self.now in
    let w = went s.stages c.round-count.new.self c.round-count.result c.round-count.ensures c.requires in
    record { «open» = fresh s.stages c.round-count.new.self w c.requires s.open; kept = c.keep.ensures }

pub returns : goal.returns
returns c =
    let s = c.args.self.now in
    let w = went s.stages c.round-count.new.self c.round-count.result c.round-count.ensures c.requires in
    record {
      same = record { first_is = ap first_of w.0; second_is = ap second_of w.0; questions_is = ap (λ (p : Pair). p.first.questions) w.0 };
      one_more = w.1;
      soon = open_soon (questions s) (first s) (second s) (first_lawful s.stages) (second_lawful s.stages) (rounds s) s.open c.requires;
      classes = counted s.stages c.round-count.new.self c.round-count.result c.round-count.ensures w;
    }
