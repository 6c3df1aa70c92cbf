use Rattle.std.proofs.Common.{ℕ, ◌<◌, get_or, subst, arith}
use Rattle.kripke.specs.Structure.{Kripke}
use Rattle.kripke.specs.Classes.{Low, Led}
use Rattle.kripke.specs.Rounds.{total}
use Rattle.kripke.proofs.Classing.{class_of}
use Rattle.kripke.proofs.Closing.{class_by_formulas}
use Rattle.compare.specs.Answers.{ClassNumber}
use Rattle.compare.specs.Calls.{first, second, rounds}
use Rattle.compare.specs.declared.comparison.Comparison.{Comparison}
use Rattle.compare.proofs.Levels.{first_lawful, second_lawful}
use Rattle.compare.proofs.Rulings.{class_refused, class_clean}
use Rattle.compare.proofs.comparison.Comparison.class.Goals as goal

-- The number that the partition has for a state.
numbered : (s : Comparison) (i : ℕ) → i < total (first s) (second s) → ClassNumber (first s) (second s) (rounds s) i (get_or s.stages.parts.class i 0)
numbered s i l =
    let a : Kripke = first s in
    let b : Kripke = second s in
    let r = s.stages in
    let low : Low (total a b) r.parts.class = subst (λ (n : ℕ). Low n r.parts.class) r.long r.parts.low in
    let led : Led (total a b) r.parts.class = subst (λ (n : ℕ). Led n r.parts.class) r.long r.parts.led in
    let h : get_or r.parts.class i 0 < total a b = omega (arith, low i l, l) in
    let z = (class_by_formulas a b (first_lawful r).closed (second_lawful r).closed r.rounds i (get_or r.parts.class i 0) l h).0
    (class_of a b r.rounds r.parts.class r.numbered low led i l) in
    record { inside = h; inseparable = z.0; least = z.1 }

pub returns-then-i-self : goal.returns-then-i-self
returns-then-i-self c =
    let s = c.args.self.now in
    (class_refused (first s) (second s) c.args.i (omega (arith, c.if-i-self.true, s.stages.long)) _ c.refusal.ensures, tt)

pub returns : goal.returns
returns c =
    let s = c.args.self.now in
    let l : c.args.i < total (first s) (second s) = omega (arith, c.if-i-self.false, s.stages.long) in
    (class_clean (first s) (second s) c.args.i l, numbered s c.args.i l)
