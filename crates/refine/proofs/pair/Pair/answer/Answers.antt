use Rattle.std.proofs.Common.{Bool, List, length, false, get_or, sym, ap, ◌∙◌, arith}
use Rattle.kripke.specs.Structure.{State}
use Rattle.refine.proofs.Rowed.{row_answers}
use Rattle.refine.proofs.pair.Pair.answer.Goals as goal

pub bounds-deref-q : goal.bounds-deref-q
bounds-deref-q c =
    let r = c.row.result.0.now in
    omega (arith, row_answers c.args.self.now c.args.i c.row.result.1 r c.requires.state c.row.ensures, c.requires.question, ap (λ (l : List Bool). length l) c.deref.ensures.0)

pub returns : goal.returns
returns c = ap (λ (l : List Bool). get_or l c.args.q false) c.deref.ensures.0 ∙ sym (ap (λ (x : State). get_or x.answers c.args.q false) c.row.ensures)
