use Rattle.std.proofs.Common.{ℕ, length, rules, subst}
use Rattle.evaluator.specs.Marks.{Ready, marks}
use Rattle.evaluator.proofs.Breaches.{clean}
use Rattle.evaluator.proofs.Numbers.{evaluated}
use Rattle.evaluator.proofs.evaluate.Goals as goal

pub returns : goal.returns
returns g c =
    let ready : Ready g.M.Label.Label.count c.args.nodes.now (length c.args.words.now) =
    subst (λ (q : ℕ). Ready q c.args.nodes.now (length c.args.words.now)) c.questions.ensures c.in_ok-check.ensures.1 in (
      clean _ _ _ ready,
      evaluated _ _ (g.met.M.Model.lawful c.args.model.now) _ _ _ (marks c.read-root.result) c.initial.result _
          ready.some (search rules) (search rules) (search rules) (search rules) (search rules),
    )
