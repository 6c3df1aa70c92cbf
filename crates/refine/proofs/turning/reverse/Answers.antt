use Rattle.std.proofs.Common.{◌≡◌, ℕ, ◌+◌, ◌<◌, List, length, map, get_or, sym, ap, ◌∙◌, subst, arith}
use Rattle.kripke.specs.Structure.{Kripke, State, successors}
use Rattle.kripke.specs.Rounds.{total}
use Rattle.kripke.specs.Union.{both}
use Rattle.refine.specs.Tables.{structure_of}
use Rattle.refine.specs.Sources.{Leads}
use Rattle.refine.specs.declared.table.Table.{Table}
use Rattle.refine.proofs.Rowed.{row_size, row_inside}
use Rattle.refine.proofs.Turned.{leads_none, leads_more}
use Rattle.refine.proofs.turning.reverse.Goals as goal

pub enter_all-requires-clause-targets : goal.enter_all-requires-clause-targets
enter_all-requires-clause-targets c =
    let a : Table = c.args.first.now in
    let b : Table = c.args.second.now in
    subst (λ (xs : List ℕ). (i : ℕ) → i < length xs → c.row-low.result.1 + get_or xs i 0 < 512) (sym c.deref.ensures.0) (λ i l.
    omega (
      arith,
      row_inside a b c.loop-s.s c.row-low.result.1 c.row-low.result.0.now (omega (arith, c.loop-s-test.true, c.loop-s.invariant.0)) c.row-low.ensures i l,
      row_size a.initial a.rows.items,
      row_size b.initial b.rows.items,
      a.few,
      b.few,
    ))

pub loop-s-init : goal.loop-s-init
loop-s-init c =
    let a : Table = c.args.first.now in
    let b : Table = c.args.second.now in (
      omega (arith, c.len.ensures.value, c.len-2.ensures.value, row_size a.initial a.rows.items, row_size b.initial b.rows.items),
      omega (arith, ap length c.new-sources.ensures.steps),
      leads_none (both (structure_of a) (structure_of b)) c.new-sources.result c.new-sources.ensures.none,
    )

pub loop-s-preserved : goal.loop-s-preserved
loop-s-preserved c =
    let a : Table = c.args.first.now in
    let b : Table = c.args.second.now in
    let u : Kripke = both (structure_of a) (structure_of b) in
    let next : List ℕ = c.deref.result.now in
    let low : ℕ = c.row-low.result.1 in
    let succ : map (λ v. low + v) next ≡ successors u c.loop-s.s = ap (λ (xs : List ℕ). map (λ v. low + v) xs) c.deref.ensures.0 ∙ sym (ap (λ (s : State). s.next) c.row-low.ensures) in (
      c.loop-s.invariant.0,
      omega (arith, c.enter_all.ensures.long, c.loop-s.invariant.1, c.deref.ensures.1),
      leads_more u c.loop-s.sources c.enter_all.new.self c.loop-s.s (map (λ v. low + v) next) c.loop-s.invariant.2 c.enter_all.ensures.entered succ,
    )

pub returns : goal.returns
returns c =
    let a : Table = c.args.first.now in
    let b : Table = c.args.second.now in
    let all : c.loop-s.s ≡ total (structure_of a) (structure_of b) = omega (arith, c.loop-s.invariant.0, c.loop-s-test.false, c.loop-s.auto.s-end) in
    subst (λ (n : ℕ). Leads (both (structure_of a) (structure_of b)) c.loop-s.sources n) all c.loop-s.invariant.2
