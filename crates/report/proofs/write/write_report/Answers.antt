use Rattle.std.proofs.Common.{refl, inl, inr, arith, rules}
use Rattle.std.proofs.lemmas.Result.{err_from_is_err_and}
use Rattle.report.proofs.Refused.{refused}
use Rattle.report.proofs.write.write_report.Goals as goal

pub returns-in_err-text_length : goal.returns-in_err-text_length
returns-in_err-text_length c =
    let p = err_from_is_err_and c.from_residual.result c.from_residual.ensures.1 in
    let (many, is) = c.in_err-text_length.ensures in
    rw (p.1, p.2) (refused _ _ _ is (inl many), refl)

pub returns-then-branch-out : goal.returns-then-branch-out
returns-then-branch-out c =
    let (few, long) = c.in_ok-text_length.ensures in
    (refused _ _ _ (search rules) (inr (omega (arith, long, c.if-branch-out.true))), refl)
