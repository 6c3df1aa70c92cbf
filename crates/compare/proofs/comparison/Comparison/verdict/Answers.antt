use Rattle.compare.specs.Calls.{first, second, questions, rounds}
use Rattle.compare.proofs.Levels.{first_lawful, second_lawful}
use Rattle.compare.proofs.Rulings.{decides, reached_closed, verdict_refused, verdict_clean}
use Rattle.compare.proofs.comparison.Comparison.verdict.Goals as goal

pub returns-in-Some : goal.returns-in-Some
returns-in-Some c =
    let s = c.args.self.now in (
      verdict_clean (first s) (second s) (rounds s) (reached_closed (first s) (second s) (rounds s) _ c.in-Some.ensures),
      decides (questions s) (first s) (second s) (first_lawful s.stages) (second_lawful s.stages) (rounds s) s.open _ c.in-Some.ensures,
    )

pub returns-in-None : goal.returns-in-None
returns-in-None c =
    let s = c.args.self.now in
    (verdict_refused (first s) (second s) (rounds s) c.in-None.ensures _ c.refusal.ensures, tt)
