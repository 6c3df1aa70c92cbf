use Rattle.std.proofs.Common.{ℕ, refl, ◌∙◌, subst, arith}
use Rattle.kripke.specs.Structure.{Kripke, Lawful}
use Rattle.kripke.specs.Union.{both}
use Rattle.refine.specs.Tests.{test}
use Rattle.refine.specs.Tables.{structure_of}
use Rattle.refine.specs.declared.table.Table.{Table}
use Rattle.refine.specs.declared.pair.Pair.{Pair}
use Rattle.refine.specs.declared.partition.Partition.{Partition}
use Rattle.refine.proofs.Rowed.{table_lawful}
use Rattle.refine.proofs.Begins.{test_boolean}
use Rattle.refine.proofs.Staging.{exact_test, opening_numbered}
use Rattle.kripke.proofs.Unions.{both_size, both_closed}
use Rattle.refine.proofs.Rounding.{open_tried}
use Rattle.refine.proofs.refinement.Refinement.open.Goals as goal

pub invariant_of-result : goal.invariant_of-result
invariant_of-result g c =
    let pair : Pair = c.new-pair.result in
    let f : Table = pair.first in
    let s : Table = pair.second in
    let a : Kripke = structure_of f in
    let b : Kripke = structure_of s in
    let q : ℕ = f.questions in
    let o : Partition = c.whole-parts.result in
    let p : Partition = c.ask_all.new.self in
    let one = c.whole-parts.ensures in
    let ask = c.ask_all.ensures in
    let law : Lawful q b = subst (λ (n : ℕ). Lawful n b) pair.level (table_lawful s) in
    record {
      long = ask.keeps.states ∙ one.states_is ∙ c.states.ensures.value;
      asks = ask.keeps.questions ∙ one.questions_is;
      exact = exact_test (both a b) p (ask.exact (one.exact (test (both a b)) (test_boolean (both a b))));
      shallow = ask.shallow 0 one.shallow;
      numbered = opening_numbered q a b (table_lawful f) law c.states.result o p c.states.ensures.value one ask;
      low = λ s h. o.low s (omega (arith, h, ask.keeps.states));
      tried = open_tried (both a b) p.states o.class p.class one.class (λ s h. (both_closed a b (table_lawful f).closed law.closed).onward s (omega (arith, h, ask.keeps.states, one.states_is, c.states.ensures.value, both_size a b)));
      last = refl;
      pace = omega (arith, p.spare);
    }
