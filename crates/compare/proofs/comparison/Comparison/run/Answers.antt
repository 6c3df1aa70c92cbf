use Rattle.std.proofs.Common.{◌≡◌, ℕ, ◌<◌, length, take, drop, refl, ◌∙◌, subst, arith, length-set}
use Rattle.compare.specs.Calls.{first, second, questions, rounds, table}
use Rattle.compare.specs.Law.{Run, served}
use Rattle.compare.proofs.Lists.{rest_step, same_still, same_trans}
use Rattle.compare.proofs.Steadily.{all_none, all_more, all_law}
use Rattle.compare.proofs.comparison.Comparison.run.Goals as goal

pub loop-i-init : goal.loop-i-init
loop-i-init c = let s = c.args.self.now in (c.min-i-end.ensures, refl, refl, same_still s s refl, all_none s)

pub loop-i-preserved : goal.loop-i-preserved
loop-i-preserved c =
    let s = c.args.self.now in
    let t = c.loop-i.self in
    let i : ℕ = c.loop-i.i in
    let inv = c.loop-i.invariant in
    let l : i < length c.args.requests.now = omega (arith, c.loop-i-test.true, c.min-i-end.ensures) in
    let h : i < length c.args.answers.now = omega (arith, c.loop-i-test.true, c.min-i-end.ensures) in
    let k : i < length c.loop-i.answers = omega (arith, h, inv.1) in (
      inv.0,
      length-set c.loop-i.answers i c.answer.result ∙ inv.1,
      rest_step c.loop-i.answers c.args.answers.now i c.answer.result k h inv.2,
      same_trans s t c.answer.new.self inv.3 c.answer.ensures.same,
      all_more s t c.answer.new.self c.args.requests.now i c.loop-i.answers c.answer.result l k inv.3 inv.4 c.answer.ensures.did,
    )

pub returns-clause-law : goal.returns-clause-law
returns-clause-law c =
    let s = c.args.self.now in
    let t = c.loop-i.self in
    let all : c.loop-i.i ≡ served c.args.requests.now c.args.answers.now = omega (arith, c.loop-i-test.false, c.loop-i.auto.i-end, c.loop-i.invariant.0) in
    subst (λ (n : ℕ). Run (first s) (second s) (questions s) (rounds s) (table t) (take n c.args.requests.now) (take n c.loop-i.answers) (rounds t)) all
    (all_law s _ _ t c.loop-i.invariant.4)

pub returns-clause-rest : goal.returns-clause-rest
returns-clause-rest c =
    let all : c.loop-i.i ≡ served c.args.requests.now c.args.answers.now = omega (arith, c.loop-i-test.false, c.loop-i.auto.i-end, c.loop-i.invariant.0) in
    subst (λ (n : ℕ). drop n c.loop-i.answers ≡ drop n c.args.answers.now) all c.loop-i.invariant.2
