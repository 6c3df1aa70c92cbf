use Rattle.std.proofs.Common.{refl}
use Rattle.compare.specs.Calls.{first, second, rounds}
use Rattle.compare.proofs.Rulings.{reached_closed, round_refused, round_clean}
use Rattle.compare.proofs.comparison.Comparison.round.Goals as goal

pub returns-in-Some : goal.returns-in-Some
returns-in-Some c =
    let s = c.args.self.now in
    (round_refused (first s) (second s) (rounds s) (reached_closed (first s) (second s) (rounds s) _ c.in-Some.ensures) _ c.refusal.ensures, refl)

pub returns-in-None : goal.returns-in-None
returns-in-None c =
    let s = c.args.self.now in
    (round_clean (first s) (second s) (rounds s) c.in-None.ensures, c.advance.ensures)
