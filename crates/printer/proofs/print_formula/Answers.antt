use Rattle.std.proofs.Common.{length, Err, string_bytes, sym, subst, arith}
use borrow.Author.Tests.{eqb-false}
use Rattle.kripke.specs.Nodes.{root}
use Rattle.reader.specs.Grammar.{marks}
use Rattle.printer.specs.declared.writer.Stop.{Stop}
use Rattle.printer.specs.Writing.{Spells}
use Rattle.printer.proofs.Reading.{printed, unprintable}
use Rattle.printer.proofs.print_formula.Goals as goal

pub returns-in-Ok : goal.returns-in-Ok
returns-in-Ok c =
    let some = eqb-false (length c.args.nodes.now) 0 (sym c.if-is_empty.ensures) in
    printed c.args.questions c.args.nodes.now c.new-writer.result (string_bytes c.into_text.result)
    (record { some = omega arith; few = omega arith; rooted = omega (arith, some); ordered = search c.in-None.ensures }) c.new-writer.ensures
    (rw c.into_text.ensures (search (c.in-Ok.ensures, c.in-None.ensures)))

pub returns-in-Err-Limit : goal.returns-in-Err-Limit
returns-in-Err-Limit c =
    unprintable c.args.questions c.args.nodes.now c.new-writer.result c.new-writer.ensures
    (subst (λ (s : Stop). Spells c.args.questions c.new-writer.result (marks 1 (root c.args.nodes.now)) c.put_formula.new.self (Err s))
    c.in-Err-Limit.field-0-is (search (c.in-Err-Limit.ensures, c.in-None.ensures)))
