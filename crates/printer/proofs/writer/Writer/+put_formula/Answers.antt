use Rattle.std.proofs.Common.{◌≡◌, suc, ◌+◌, ◌-◌, arith}
use Rattle.std.proofs.lemmas.Result.{err_from_is_err_and}
use Rattle.kripke.specs.Nodes.{formula}
use Rattle.printer.proofs.Writings.{level}
use Rattle.printer.proofs.Parts.{one_at, two_at, truth_spells, question_spells}
use Rattle.printer.proofs.Operators.{at_code}
use Rattle.printer.proofs.Arms.{one_stops, one_ends, two_stops_1, two_stops_2, two_stops_3, two_stops_4, two_ends}
use Rattle.printer.proofs.writer.Writer.+put_formula.Goals as goal

pub returns-then-levels-eq0 : goal.returns-then-levels-eq0
returns-then-levels-eq0 t c q l w e fits = omega (arith, level q l (formula c.args.nodes.now c.args.i) fits.0)

pub returns-in-Truth : goal.returns-in-Truth
returns-in-Truth t c q l w e =
    truth_spells q c.args.nodes.now w c.args.i c.requires.node l (omega arith) (at_code _ _ _ c.in-Ok.ensures c.in-Truth.ensures) c.args.self.now c.put.new.self c.put.result c.put.ensures

pub returns-in-Question : goal.returns-in-Question
returns-in-Question t c q l w e =
    question_spells q c.args.nodes.now w c.args.i c.requires.node l (omega arith) (at_code _ _ _ c.in-Ok.ensures c.in-Question.ensures)
    c.args.self.now c.put_question.new.self c.put_question.result c.put_question.ensures

-- A sign, and the argument.
pub returns-in_err-put-in-Before : goal.returns-in_err-put-in-Before
returns-in_err-put-in-Before t c q l w e =
    let p = err_from_is_err_and c.from_residual.result c.from_residual.ensures.1 in
    let z = one_at q c.args.nodes.now w c.args.i c.requires.node l (omega arith) c.in-Before.sign (at_code _ _ _ c.in-Ok.ensures c.in-Before.ensures) in
    rw (p.1, p.2)
    (one_stops q z _ c.put-in-Before.new.self _ c.in_err-put-in-Before.ensures)

pub returns-in_ok-put-in-Before : goal.returns-in_ok-put-in-Before
returns-in_ok-put-in-Before t c q l w e =
    let z = one_at q c.args.nodes.now w c.args.i c.requires.node l (omega arith) c.in-Before.sign (at_code _ _ _ c.in-Ok.ensures c.in-Before.ensures) in
    one_ends q z _ _ c.in_ok-put-in-Before.ensures _ _ (c.put_formula.ensures q (suc l) w (omega arith))

-- Three signs, and the two arguments.
pub returns-in_err-put-in-Around : goal.returns-in_err-put-in-Around
returns-in_err-put-in-Around t c q l w e =
    let p = err_from_is_err_and c.from_residual-in_err-put-in-Around.result c.from_residual-in_err-put-in-Around.ensures.1 in
    let z = two_at q c.args.nodes.now w c.args.i c.requires.node l (omega arith) c.in-Around.before c.in-Around.between c.in-Around.after (at_code _ _ _ c.in-Ok.ensures c.in-Around.ensures) in
    rw (p.1, p.2)
    (two_stops_1 q z _ c.put-in-Around.new.self _ c.in_err-put-in-Around.ensures)

pub returns-in_err-put_formula-in-Around : goal.returns-in_err-put_formula-in-Around
returns-in_err-put_formula-in-Around t c q l w e =
    let p = err_from_is_err_and c.from_residual-in_err-put_formula-in-Around.result c.from_residual-in_err-put_formula-in-Around.ensures.1 in
    let z = two_at q c.args.nodes.now w c.args.i c.requires.node l (omega arith) c.in-Around.before c.in-Around.between c.in-Around.after (at_code _ _ _ c.in-Ok.ensures c.in-Around.ensures) in
    rw (p.1, p.2)
    (two_stops_2 q z _ _ c.in_ok-put-in-Around.ensures c.put_formula-in-Around.new.self _ (c.in_err-put_formula-in-Around.ensures q (suc l) w (omega arith)))

pub returns-in_err-put-in-Around-2 : goal.returns-in_err-put-in-Around-2
returns-in_err-put-in-Around-2 t c q l w e =
    let p = err_from_is_err_and c.from_residual-in_err-put-in-Around-2.result c.from_residual-in_err-put-in-Around-2.ensures.1 in
    let z = two_at q c.args.nodes.now w c.args.i c.requires.node l (omega arith) c.in-Around.before c.in-Around.between c.in-Around.after (at_code _ _ _ c.in-Ok.ensures c.in-Around.ensures) in
    rw (p.1, p.2)
    (two_stops_3 q z _ _ c.in_ok-put-in-Around.ensures _ (c.in_ok-put_formula-in-Around.ensures q (suc l) w (omega arith)) c.put-in-Around-2.new.self _ c.in_err-put-in-Around-2.ensures)

pub returns-in_err-put_formula-in-Around-2 : goal.returns-in_err-put_formula-in-Around-2
returns-in_err-put_formula-in-Around-2 t c q l w e =
    let d : suc l + (c.args.levels - 1) ≡ 65 = omega arith in
    let p = err_from_is_err_and c.from_residual-in_err-put_formula-in-Around-2.result c.from_residual-in_err-put_formula-in-Around-2.ensures.1 in
    let z = two_at q c.args.nodes.now w c.args.i c.requires.node l (omega arith) c.in-Around.before c.in-Around.between c.in-Around.after (at_code _ _ _ c.in-Ok.ensures c.in-Around.ensures) in
    rw (p.1, p.2)
    (two_stops_4 q z _ _ c.in_ok-put-in-Around.ensures _ (c.in_ok-put_formula-in-Around.ensures q (suc l) w (omega arith)) _ c.in_ok-put-in-Around-2.ensures c.put_formula-in-Around-2.new.self _ (search (c.in_err-put_formula-in-Around-2.ensures, w, d)))

pub returns-in_ok-put_formula-in-Around-2 : goal.returns-in_ok-put_formula-in-Around-2
returns-in_ok-put_formula-in-Around-2 t c q l w e =
    let d : suc l + (c.args.levels - 1) ≡ 65 = omega arith in
    let z = two_at q c.args.nodes.now w c.args.i c.requires.node l (omega arith) c.in-Around.before c.in-Around.between c.in-Around.after (at_code _ _ _ c.in-Ok.ensures c.in-Around.ensures) in
    two_ends q z _ _ c.in_ok-put-in-Around.ensures _ (c.in_ok-put_formula-in-Around.ensures q (suc l) w (omega arith)) _ c.in_ok-put-in-Around-2.ensures _ (search (c.in_ok-put_formula-in-Around-2.ensures, w, d)) _ _ c.put-in-Around-3.ensures
