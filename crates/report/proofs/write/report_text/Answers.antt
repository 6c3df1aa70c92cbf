use Rattle.std.proofs.Common.{◌≡◌, ℕ, List, ◌++◌, length, take, drop, ap, ◌∙◌, inl, arith}
use Rattle.std.proofs.lemmas.Result.{err_from_is_err_and}
use Rattle.std.proofs.lemmas.List.{append-nil, take_all, take-append-le, drop_all}
use Rattle.report.specs.Puts.{Written}
use Rattle.report.specs.Text.{report_text}
use Rattle.report.proofs.Refused.{refused, accepted}
use Rattle.report.proofs.write.report_text.Goals as goal

-- A text that fills all bytes of a vector.
filled : (text items a b : List ℕ) (n len : ℕ) → length a ≡ length text → len ≡ length text → Written text a n b → take len (b ++ drop (length b) items) ≡ text
filled text items a b n len e l w =
    let is : b ≡ text = w.holds ∙ ap (λ z. text ++ z) (drop_all n a (omega (arith, e, w.long))) ∙ append-nil text in
    let k : length b ≡ length text = ap length is in
    take-append-le len b (drop (length b) items) (omega (arith, l, k)) ∙ take_all len b (omega (arith, l, k)) ∙ is

pub returns-in_err-length : goal.returns-in_err-length
returns-in_err-length c =
    let p = err_from_is_err_and c.from_residual.result c.from_residual.ensures.1 in
    let (many, is) = c.in_err-length.ensures in
    rw (p.1, p.2) (refused _ _ _ is (inl many), tt)

-- Want of memory is met only by a report that breaks no rule.
pub returns-in_err-text : goal.returns-in_err-text
returns-in_err-text c =
    let p = err_from_is_err_and c.from_residual-in_err-text.result c.from_residual-in_err-text.ensures.1 in
    let (few, long) = c.in_ok-length.ensures in
    rw (p.1, p.2) (accepted _ _ few (omega arith), tt)

pub returns : goal.returns
returns c =
    let (few, long) = c.in_ok-length.ensures in
    let n : c.in_ok-text.text.len ≡ length (report_text c.args.report) = omega (arith, c.in_ok-text.ensures.len, long) in
    (accepted _ _ few (omega arith), filled _ _ _ _ _ _ (c.as_mut_slice.ensures.len ∙ n) n (c.write_text.ensures.written (omega (arith, c.write_text.ensures.long, c.as_mut_slice.ensures.len, n))))
