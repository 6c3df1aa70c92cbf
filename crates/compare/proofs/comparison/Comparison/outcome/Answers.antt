use Rattle.std.proofs.Common.{sym, ◌∙◌}
use Rattle.std.proofs.lemmas.Bool.{not-true, not-false}
use Rattle.compare.specs.Calls.{first, second, rounds}
use Rattle.compare.proofs.Rulings.{different_T, alike_T, reached_none}
use Rattle.compare.proofs.comparison.Comparison.outcome.Goals as goal

pub returns-then-differs : goal.returns-then-differs
returns-then-differs c =
    let s = c.args.self.now in
    different_T (first s) (second s) (rounds s) (not-true _ (sym c.differs.ensures ∙ c.if-differs.true))

pub returns-then-self : goal.returns-then-self
returns-then-self c =
    let s = c.args.self.now in
    alike_T (first s) (second s) (rounds s) (not-false _ (sym c.differs.ensures ∙ c.if-differs.false)) (sym s.stages.last ∙ c.if-self.true)

pub returns-else-self : goal.returns-else-self
returns-else-self c =
    let s = c.args.self.now in
    reached_none (first s) (second s) (rounds s) (not-false _ (sym c.differs.ensures ∙ c.if-differs.false)) (sym s.stages.last ∙ c.if-self.false)
