use Rattle.std.proofs.Common.{◌≡◌, ℕ, ◌+◌, ◌≤◌, false, List, Bool, length, replicate, sym, refl, subst, arith}
use Rattle.std.proofs.lemmas.List.{get_or-replicate}
use Rattle.kripke.specs.Rounds.{total}
use Rattle.refine.specs.Pairs.{first_of, second_of, both_of}
use Rattle.refine.specs.declared.pair.Pair.{Pair}
use Rattle.refine.proofs.Rowed.{pair_size, pair_total, pair_closed}
use Rattle.refine.proofs.Turned.{Marking, marking_none, marking_more, marking_skip, marked}
use Rattle.refine.proofs.pair.Pair.successor_row.Goals as goal
use Rattle.refine.proofs.pair.Pair.successor_row.Goals.{then-class-t, else-class-t}

few : (p : Pair) → total (first_of p) (second_of p) ≤ 512
few p = omega (arith, pair_total p, p.first.few, p.second.few)

pub loop-t-init : goal.loop-t-init
loop-t-init c =
    let p : Pair = c.args.self.now in (
      refl,
      c.states-t-end.ensures.value,
      marking_none (both_of p) p.sources (total (first_of p) (second_of p)) (few p) c.args.class.now c.args.c p.leads (replicate 512 false)
          (λ x l. get_or-replicate 512 x false false (omega (arith, l, few p))),
    )

pub loop-t-preserved : goal.loop-t-preserved
loop-t-preserved c =
    let p : Pair = c.args.self.now in
    let n : ℕ = total (first_of p) (second_of p) in
    let t : ℕ = c.loop-t.t in
    let inv = c.loop-t.invariant in
    let l : t + 1 ≤ n = omega (arith, c.loop-t-test.true, inv.1) in
    elim c.if-class-t.branch [
      | then-class-t w ↦
          subst (λ (row : List Bool). (length row ≡ 512) × (c.states-t-end.result ≡ n) × Marking (both_of p) p.sources n c.args.class.now c.args.c (t + 1) row) (sym w.row-is) (
            w.mark.array_long,
            inv.1,
            marking_more (both_of p) p.sources n (few p) c.args.class.now c.args.c p.leads t (omega (arith, l)) c.loop-t.row inv.2 w.if-class-t.true w.mark.new.row
                (λ x h. w.mark.ensures x (omega (arith, h, few p))),
          )
      | else-class-t w ↦
          subst (λ (row : List Bool). (length row ≡ 512) × (c.states-t-end.result ≡ n) × Marking (both_of p) p.sources n c.args.class.now c.args.c (t + 1) row) (sym w.row-is)
          (inv.0, inv.1, marking_skip (both_of p) p.sources n (few p) c.args.class.now c.args.c p.leads t (omega (arith, l)) c.loop-t.row inv.2 w.if-class-t.false)
    ]

pub returns : goal.returns
returns c =
    let p : Pair = c.args.self.now in
    let n : ℕ = total (first_of p) (second_of p) in
    let all : c.loop-t.t ≡ n = omega (arith, c.loop-t-test.false, c.loop-t.auto.t-end, c.loop-t.invariant.1) in
    λ x l. marked (both_of p) p.sources n (few p) c.args.class.now c.args.c p.leads
    (λ s v h m. omega (arith, pair_size p, (pair_closed p).inside s v (omega (arith, h, pair_size p)) m)) c.loop-t.row
    (subst (λ (k : ℕ). Marking (both_of p) p.sources n c.args.class.now c.args.c k c.loop-t.row) all c.loop-t.invariant.2) x l
