use Rattle.std.proofs.Common.{◌≡◌, ℕ, suc, ◌-◌, ◌<◌, ◌≤◌, ◌||◌, true, List, length, set, refl, sym, ap, ◌∙◌, subst, arith, length-set}
use Rattle.refine.specs.Chains.{has, chain, From, Earlier}
use Rattle.refine.specs.Sources.{leading}
use Rattle.refine.specs.Steps.{at}
use Rattle.refine.specs.declared.sources.Step.{Step}
use Rattle.refine.proofs.Turned.{marked_back}
use Rattle.refine.proofs.sources.Sources.mark.Goals as goal

pub loop-place-preserved : goal.loop-place-preserved
loop-place-preserved c =
    let w = c.args.self.now in
    let es : List Step = w.steps.items in
    let k : ℕ = c.loop-place.place - 1 in
    let row = c.loop-place.row in
    let inv = c.loop-place.invariant in
    let p : c.loop-place.place ≡ suc k = omega (arith, c.loop-place-test.true) in
    subst (λ (l : List Step). (length (set row (From l k) true) ≡ 512) × (Earlier l k ≤ length es)
    × ((x : ℕ) → x < 512 → (has x (chain es (Earlier l k) (Earlier l k)) || at (set row (From l k) true) x) ≡ (has x (leading w c.args.t) || at c.args.row.now x)))
    (sym c.deref.ensures.0) (
      length-set row (From es k) true ∙ inv.0,
      omega (arith, w.down k, inv.1, p),
      λ x b. marked_back w k c.loop-place.place row (set row (From es k) true) p inv.0 refl x ∙ inv.2 x b,
    )

pub returns : goal.returns
returns c = λ x b.
    let z : 0 ≡ c.loop-place.place = omega (arith, c.loop-place-test.false) in
    ap (λ (n : ℕ). has x (chain c.args.self.now.steps.items n n) || at c.loop-place.row x) z ∙ c.loop-place.invariant.2 x b
