use Rattle.std.proofs.Common.{◌+◌, ◌*◌, ◌≤◌, arith}
use Rattle.std.proofs.lemmas.Result.{err_from_is_err_and}
use Rattle.kripke.specs.Rounds.{total}
use Rattle.compare.specs.Calls.{first, second, rounds}
use Rattle.compare.proofs.Rulings.{formula_refused, places_refused, formula_clean}
use Rattle.compare.proofs.comparison.Comparison.table_for.Goals as goal

pub returns-in_err-nodes : goal.returns-in_err-nodes
returns-in_err-nodes c =
    let s = c.args.self.now in
    let p = err_from_is_err_and c.from_residual.result c.from_residual.ensures.1 in
    rw (p.1, p.2) ((formula_refused (first s) (second s) (rounds s) c.args.places _ c.in_err-nodes.ensures.0, tt))

pub returns-then-places-enough : goal.returns-then-places-enough
returns-then-places-enough c =
    let s = c.args.self.now in (
      places_refused (first s) (second s) (rounds s) c.args.places c.in_ok-nodes.ensures.0 (omega (arith, c.if-places-enough.true, c.enough.ensures)) _ c.refusal.ensures,
      tt,
    )

pub returns : goal.returns
returns c =
    let s = c.args.self.now in
    let l : 4 * total (first s) (second s) ≤ c.args.places + 3 = omega (arith, c.if-places-enough.false, c.enough.ensures) in
    let h = c.in_ok-nodes.ensures in
    (formula_clean (first s) (second s) (rounds s) c.args.places h.0 l, (h.1, omega (arith, l, h.1.separating.few)))
