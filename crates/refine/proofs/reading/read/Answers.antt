use Rattle.std.proofs.Common.{◌≡◌, ℕ, ◌≤◌, List, sym, subst}
use Rattle.kripke.specs.Structure.{Kripke, Lawful}
use Rattle.refine.specs.Rows.{structure}
use Rattle.refine.specs.declared.row.Row.{Row}
use Rattle.refine.proofs.Readings.{structure_is, read_some, read_few, read_begins, read_answered, read_onward, read_narrow, read_inside}
use Rattle.refine.proofs.reading.read.Goals as goal

pub invariant_of-result : goal.invariant_of-result
invariant_of-result g c =
    let k : Kripke = g.M.Model.meaning c.args.model.now in
    let rows : List Row = c.rows-rows.result.items in
    let i : ℕ = c.initial-initial.result in
    let q : ℕ = c.questions-questions.result in
    let e : structure i rows ≡ k = structure_is i rows k c.initial-initial.ensures c.rows-rows.ensures in
    let law : Lawful q k = subst (λ (n : ℕ). Lawful n k) (sym c.questions-questions.ensures) (g.met.M.Model.lawful c.args.model.now) in
    record {
      asks = subst (λ (n : ℕ). n ≤ 32) (sym c.questions-questions.ensures) g.met.L.Label.few;
      some = read_some q i rows k e law;
      few = read_few q i rows k e law;
      begins = read_begins q i rows k e law;
      answered = read_answered q i rows k e law;
      onward = read_onward q i rows k e law;
      narrow = read_narrow q i rows k e law;
      inside = read_inside q i rows k e law;
    }

pub returns-clause-structure : goal.returns-clause-structure
returns-clause-structure g c =
    let k : Kripke = g.M.Model.meaning c.args.model.now in
    let rows : List Row = c.rows-rows.result.items in
    structure_is c.initial-initial.result rows k c.initial-initial.ensures c.rows-rows.ensures
