use Rattle.std.proofs.Common.{refl}
use Rattle.std.proofs.lemmas.Result.{err_from_is_err_and}
use Rattle.compare.specs.Law.{no_round, classed, no_class, decided, no_verdict, no_formula}
use Rattle.compare.proofs.Steadily.{did_same, did_round, did_formulate}
use Rattle.compare.proofs.comparison.Comparison.answer.Goals as goal

pub returns-in_err-round-in-Round-clause-did : goal.returns-in_err-round-in-Round-clause-did
returns-in_err-round-in-Round-clause-did c =
    let h = c.in_err-round-in-Round.ensures in
    let p = err_from_is_err_and c.from_residual.result c.from_residual.ensures.1 in
    rw (p.1, p.2) (did_same c.args.self.now c.round.new.self _ _ _ c.in-Round.is h.1 (λ ns. no_round _ h.0))

pub returns-in_err-class-in-Class-clause-did : goal.returns-in_err-class-in-Class-clause-did
returns-in_err-class-in-Class-clause-did c =
    let s = c.args.self.now in
    let p = err_from_is_err_and c.from_residual-in_err-class-in-Class.result c.from_residual-in_err-class-in-Class.ensures.1 in
    rw (p.1, p.2) (did_same s s _ _ _ c.in-Class.is refl (λ ns. no_class _ _ c.in_err-class-in-Class.ensures.0))

pub returns-in_err-verdict-in-Verdict-clause-did : goal.returns-in_err-verdict-in-Verdict-clause-did
returns-in_err-verdict-in-Verdict-clause-did c =
    let s = c.args.self.now in
    let p = err_from_is_err_and c.from_residual-in_err-verdict-in-Verdict.result c.from_residual-in_err-verdict-in-Verdict.ensures.1 in
    rw (p.1, p.2) (did_same s s _ _ _ c.in-Verdict.is refl (λ ns. no_verdict _ c.in_err-verdict-in-Verdict.ensures.0))

pub returns-in_err-table_for-in-Formula-clause-did : goal.returns-in_err-table_for-in-Formula-clause-did
returns-in_err-table_for-in-Formula-clause-did c =
    let s = c.args.self.now in
    let p = err_from_is_err_and c.from_residual-in_err-table_for-in-Formula.result c.from_residual-in_err-table_for-in-Formula.ensures.1 in
    rw (p.1, p.2) (did_same s s _ _ _ c.in-Formula.is refl (λ ns. no_formula _ _ c.in_err-table_for-in-Formula.ensures.0))

pub returns-in_ok-round-in-Round-clause-did : goal.returns-in_ok-round-in-Round-clause-did
returns-in_ok-round-in-Round-clause-did c = let h = c.in_ok-round-in-Round.ensures in did_round c.args.self.now c.round.new.self _ _ c.in-Round.is h.0 h.1

pub returns-in_ok-class-in-Class-clause-did : goal.returns-in_ok-class-in-Class-clause-did
returns-in_ok-class-in-Class-clause-did c =
    let s = c.args.self.now in
    let h = c.in_ok-class-in-Class.ensures in
    did_same s s _ _ _ c.in-Class.is refl (λ ns. classed _ _ h.0 h.1)

pub returns-in_ok-verdict-in-Verdict-clause-did : goal.returns-in_ok-verdict-in-Verdict-clause-did
returns-in_ok-verdict-in-Verdict-clause-did c =
    let s = c.args.self.now in
    let h = c.in_ok-verdict-in-Verdict.ensures in
    did_same s s _ _ _ c.in-Verdict.is refl (λ ns. decided _ h.0 h.1)

pub returns-in_ok-table_for-in-Formula-clause-did : goal.returns-in_ok-table_for-in-Formula-clause-did
returns-in_ok-table_for-in-Formula-clause-did c =
    let h = c.in_ok-table_for-in-Formula.ensures in
    did_formulate c.args.self.now _ _ _ _ c.in-Formula.is h.0 h.1.0 refl
