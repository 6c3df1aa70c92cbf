use Rattle.std.proofs.Common.{◌≡◌, ◌-◌, List, ◌∙◌, sym, subst, length, get_or, arith, rules}
use Rattle.refine.specs.declared.row.Row.{Row}
use Rattle.refine.specs.Tables.{structure_of}
use Rattle.refine.proofs.Rowed.{row_first, row_second, row_size}
use Rattle.refine.proofs.turning.row.Goals as goal

pub returns-then-i-n : goal.returns-then-i-n
returns-then-i-n c =
    let a = c.args.first.now in
    let b = c.args.second.now in
    let n : c.len-n.result ≡ length a.rows.items = search rules in
    row_first a (structure_of b) c.args.i c.index-deref-i.result (omega (arith, n, c.if-i-n.true))
    (subst (λ (l : List Row). c.index-deref-i.result ≡ get_or l c.args.i c.index-deref-i.result) c.deref.ensures.0 c.index-deref-i.is)

pub returns-else-i-n : goal.returns-else-i-n
returns-else-i-n c =
    let a = c.args.first.now in
    let b = c.args.second.now in
    let n : c.len-n.result ≡ length a.rows.items = search rules in
    row_second (structure_of a) b c.args.i c.len-n.result c.index-deref-i-else-i-n.result (n ∙ sym (row_size a.initial a.rows.items)) c.if-i-n.false
    (omega (arith, n, c.if-i-n.false, c.requires, row_size a.initial a.rows.items, row_size b.initial b.rows.items))
    (subst (λ (l : List Row). c.index-deref-i-else-i-n.result ≡ get_or l (c.args.i - c.len-n.result) c.index-deref-i-else-i-n.result) c.deref-else-i-n.ensures.0 c.index-deref-i-else-i-n.is)
