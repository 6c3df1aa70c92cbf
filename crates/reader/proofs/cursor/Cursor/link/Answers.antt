use Rattle.std.proofs.Common.{◌≡◌, sym, ◌∙◌, rules}
use Rattle.reader.specs.declared.token.Token.TheVariants.{Sign}
use Rattle.reader.specs.declared.token.Sign.TheVariants.{And, Or}
use Rattle.reader.proofs.Phrases.{told_at}
use Rattle.reader.proofs.Steps.{link_refused}
use Rattle.reader.proofs.cursor.Cursor.link.Goals as goal

pub returns-else-eq-2 : goal.returns-else-eq-2
returns-else-eq-2 c = λ n.
    let z = c.token-part.ensures.passed in
    told_at _ n _ _ _ _ _ z.here c.refusal.ensures
    (link_refused _ (λ e. let is : c.of-token.result ≡ Sign And = c.of-token.ensures ∙ sym z.is ∙ e in search rules) (λ e. let is : c.of-token.result ≡ Sign Or = c.of-token.ensures ∙ sym z.is ∙ e in search rules) n)
