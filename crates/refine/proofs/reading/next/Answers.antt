use Rattle.std.proofs.Common.{ℕ, ◌<◌, List, ◌∙◌, length, get_or, arith, rules}
use Rattle.std.proofs.lemmas.List.{get_or_default}
use Rattle.kripke.specs.Structure.{Kripke, Lawful, size, successors}
use Rattle.refine.proofs.Somes.{member_at}
use Rattle.refine.proofs.reading.next.Goals as goal

pub overflow_cast-successor : goal.overflow_cast-successor
overflow_cast-successor g c =
    let k : Kripke = g.M.Model.meaning c.args.model.now in
    let law : Lawful _ k = g.met.M.Model.lawful c.args.model.now in
    let xs : List ℕ = successors k c.args.s in
    let i : ℕ = c.loop-i.i in
    let l : i < length xs = omega (arith, c.loop-i-test.true, c.loop-i.invariant.0) in
    let x : get_or xs i 0 < size k = law.closed.inside c.args.s (get_or xs i 0) c.requires (member_at xs i l) in
    let b : c.successor.result < 65536 = omega (arith, c.successor.ensures ∙ get_or_default xs i (get_or xs 0 0) 0 l, x, law.few) in
    search rules
