use Rattle.std.proofs.Common.{ℕ, List, sym, subst, arith}
use Rattle.kripke.specs.declared.node.Node.{Node}
use Rattle.compare.specs.Calls.{first, questions, rounds, second}
use Rattle.report.specs.Text.{alike_text, differ_text}
use Rattle.pair_job.specs.Reports.{Reports, alike, different}
use Rattle.pair_job.proofs.Reporting.{has_table, has_verdict}
use Rattle.pair_job.proofs.closing.report.Goals as goal

pub returns-in_err-verdict : goal.returns-in_err-verdict
returns-in_err-verdict c = absurd (has_verdict c.requires.closed.0 c.in_err-verdict.ensures.0.broken)

pub returns-in_err-nodes-in-Different : goal.returns-in_err-nodes-in-Different
returns-in_err-nodes-in-Different c =
    let o = c.args.comparison.now in
    let apart = c.in_ok-verdict.ensures.1.different.0 c.in-Different.is in
    absurd (has_table (questions o) (first o) (second o) c.requires.first_lawful c.requires.second_lawful (rounds o) c.requires.closed.0 apart c.in_err-nodes-in-Different.ensures.0.broken)

pub returns-in-Alike : goal.returns-in-Alike
returns-in-Alike c =
    let o = c.args.comparison.now in
    let decides = c.in_ok-verdict.ensures.1 in (
      subst (λ (k : ℕ). Reports (questions o) (first o) (second o) (alike_text k)) (sym decides.rounds)
          (alike (rounds o) decides.soon c.requires.closed (decides.alike.0 c.in-Alike.is)),
      omega arith,
    )

pub returns-in_ok-nodes-in-Different : goal.returns-in_ok-nodes-in-Different
returns-in_ok-nodes-in-Different c =
    let o = c.args.comparison.now in
    let decides = c.in_ok-verdict.ensures.1 in
    let lent = c.in_ok-nodes-in-Different.ensures.1 in
    let nodes : List Node = c.in_ok-nodes-in-Different.nodes.now in (
      subst (λ (k : ℕ). Reports (questions o) (first o) (second o) (differ_text k nodes)) (sym decides.rounds)
          (different (rounds o) nodes decides.soon c.requires.closed lent.separating),
      lent.short,
    )
