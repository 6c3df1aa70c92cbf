use Rattle.std.proofs.Common.{refl, ◌∙◌, subst, arith}
use Rattle.std.proofs.lemmas.Grind.{common_steps}
use Rattle.std.proofs.lemmas.Result.{err_from_is_err_and}
use Rattle.reader.specs.declared.token.Token.TheVariants as token
use Rattle.reader.specs.Tokens.{Stream, tokens, After}
use Rattle.reader.specs.Grammar.{marks, toks}
use Rattle.reader.specs.Phrases.{Exact, Form, Refused}
use Rattle.reader.specs.Reading.{ahead}
use Rattle.reader.proofs.Phrases.{in_first}
use Rattle.reader.proofs.Verdicts.{sentence, goes_past}
use Rattle.reader.proofs.reader.read_whole.Goals as goal

pub returns-in_err-formula : goal.returns-in_err-formula
returns-in_err-formula c =
    let p = err_from_is_err_and c.from_residual.result c.from_residual.ensures.1 in
    rw p.1 (rw p.2 (in_first (Form 1) (Exact token.End) c.args.questions (tokens 0 0 c.args.text.now) _ (subst (λ (s : Stream). Refused (Form 1) c.args.questions s c.in_err-formula.field-0.0) c.new.ensures.whole (c.in_err-formula.ensures.owes 1 refl))))

pub returns-in_err-end : goal.returns-in_err-end
returns-in_err-end c =
    let p = err_from_is_err_and c.from_residual-in_err-end.result c.from_residual-in_err-end.ensures.1 in
    let z = c.in_ok-formula.ensures.owes 1 refl in
    let after = subst (λ (s : Stream). After s (toks (marks 1 z.value)) (ahead c.formula.new.self.cursor)) c.new.ensures.whole z.after in
    rw p.1 (rw p.2 (goes_past c.args.text.now c.args.questions z.value (ahead c.formula.new.self.cursor) _ after z.good (c.in_err-end.ensures c.args.questions)))

pub returns : goal.returns
returns c =
    let z = c.in_ok-formula.ensures.owes 1 refl in
    let after = subst (λ (s : Stream). After s (toks (marks 1 z.value)) (ahead c.formula.new.self.cursor)) c.new.ensures.whole z.after in
    record {
      formula = z.value;
      sentence = sentence c.args.text.now z.value (ahead c.formula.new.self.cursor) after c.in_ok-end.ensures;
      within = z.good;
      counted = z.is.counted ∙ (omega arith);
      written = (let w = z.is.written in grind (arith, common_steps));
    }
