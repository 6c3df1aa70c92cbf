use Rattle.std.proofs.Common.{Result, sym, subst, MatchResult}
use Rattle.std.proofs.lemmas.Result.{err_from_is_err_and}
use Rattle.kripke.specs.Ctl.{Formula}
use Rattle.kripke.specs.declared.refusal.Refusal.{Refusal}
use Rattle.reader.specs.Breaches.{Readable, Refuses}
use Rattle.reader.proofs.passes.check_text.Goals as goal

pub returns-in_err-check_limits : goal.returns-in_err-check_limits
returns-in_err-check_limits c =
    let p = err_from_is_err_and c.from_residual.result c.from_residual.ensures.1 in
    subst (λ (r : Result (Unit {0}) Refusal). MatchResult r (λ _. (f : Formula) × Readable c.args.text.now c.args.questions c.args.room f) (λ e. Refuses c.args.text.now c.args.questions c.args.room e)) (sym p.1)
    (subst (Refuses c.args.text.now c.args.questions c.args.room) (sym p.2) (c.in_err-check_limits.ensures c.args.room))
