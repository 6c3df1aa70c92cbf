use Rattle.std.proofs.Common.{◌≡◌, ℕ, Result, sym, subst, inl, inr, ⊎_elim, arith, MatchResult}
use Rattle.std.proofs.lemmas.Result.{err_from_is_err_and}
use Rattle.kripke.specs.Ctl.{Formula}
use Rattle.kripke.specs.declared.refusal.Refusal.{Refusal}
use Rattle.kripke.specs.declared.refusal.Cause.TheVariants as cause
use Rattle.kripke.specs.declared.refusal.Layer.TheVariants as layer
use Rattle.reader.specs.Breaches.{Readable, Refuses}
use Rattle.reader.proofs.Verdicts.{first_breach}
use Rattle.reader.proofs.Judgements.{many_told, refuses}
use Rattle.reader.proofs.passes.check_nodes.Goals as goal

pub returns-in_err-count : goal.returns-in_err-count
returns-in_err-count c =
    let p = err_from_is_err_and c.from_residual.result c.from_residual.ensures.1 in
    subst (λ (r : Result (Unit {0}) Refusal). MatchResult r (λ _. (f : Formula) × Readable c.args.text.now c.args.questions c.args.room f) (λ e. Refuses c.args.text.now c.args.questions c.args.room e)) (sym p.1)
    (subst (Refuses c.args.text.now c.args.questions c.args.room) (sym p.2)
    (refuses c.args.text.now c.args.questions c.args.room _ (first_breach c.args.text.now c.args.questions c.args.room c.requires _ c.in_err-count.ensures)))

pub returns-then-count-room : goal.returns-then-count-room
returns-then-count-room c =
    let w = c.in_ok-count.ensures in
    let r = c.refusal.ensures in
    refuses c.args.text.now c.args.questions c.args.room c.refusal.result
    (many_told c.args.text.now c.args.questions c.args.room c.requires w.formula w.sentence w.within c.refusal.result
    (⊎_elim (λ h. inl (omega (arith, w.counted))) (λ h. inr (omega (arith, w.counted, h.1))) c.then-count-room.either) (subst (λ (n : ℕ). c.refusal.result ≡ record { cause = cause.ManyNodes; layer = layer.Text; place = n }) w.counted r))
