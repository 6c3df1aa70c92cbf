use Rattle.std.proofs.Common.{inl, inr, ⊎_elim, arith}
use Rattle.reader.proofs.Judgements.{limits_told, refuses}
use Rattle.reader.proofs.passes.check_limits.Goals as goal

pub returns-then-text-gt-TEXT_BYTES : goal.returns-then-text-gt-TEXT_BYTES
returns-then-text-gt-TEXT_BYTES c = λ places.
    refuses c.args.text.now c.args.questions places c.refusal.result (limits_told c.args.text.now c.args.questions places c.refusal.result
    (⊎_elim inl (λ h. inr (⊎_elim (λ g. inl (omega (arith, g.1))) (λ g. inr g.2) h)) c.then-text-gt-TEXT_BYTES.either) c.refusal.ensures)
