use Rattle.std.proofs.Common.{◌≡◌, sym, ◌∙◌, rules}
use Rattle.reader.specs.declared.token.Token.TheVariants.{Sign}
use Rattle.reader.proofs.Phrases.{told_at}
use Rattle.reader.proofs.Steps.{sign_refused}
use Rattle.reader.proofs.cursor.Cursor.expect.Goals as goal

pub returns-else-eq : goal.returns-else-eq
returns-else-eq c = λ n.
    let z = c.token-part.ensures.passed in
    told_at _ n _ _ _ _ _ z.here c.refusal.ensures (sign_refused _ c.args.sign (λ e. let same : c.of.result ≡ Sign c.args.sign = c.of.ensures ∙ sym z.is ∙ e in search rules) n)
