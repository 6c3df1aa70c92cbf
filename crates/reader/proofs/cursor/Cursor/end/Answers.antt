use Rattle.std.proofs.Common.{sym, ◌∙◌}
use Rattle.reader.proofs.Phrases.{told_at}
use Rattle.reader.proofs.Steps.{end_refused}
use Rattle.reader.proofs.cursor.Cursor.end.Goals as goal

pub returns-in_default : goal.returns-in_default
returns-in_default c = λ n.
    let z = c.token-part.ensures.passed in
    told_at _ n _ _ _ _ _ z.here c.refusal.ensures (end_refused _ (λ e. c.in_default.not-End (c.of.ensures ∙ sym z.is ∙ e)) n)
