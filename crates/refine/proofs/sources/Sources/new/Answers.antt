use Rattle.std.proofs.Common.{ℕ, ◌<◌, List, sym, ap, subst, arith}
use Rattle.refine.specs.Chains.{Down, From, chain}
use Rattle.refine.specs.declared.sources.Step.{Step}
use Rattle.refine.proofs.Begins.{zeros}
use Rattle.refine.proofs.sources.Sources.new.Goals as goal

pub invariant_of-result : goal.invariant_of-result
invariant_of-result c = record {
  down = subst (λ (l : List Step). Down l) (sym c.new.ensures) (λ j. omega arith);
  begun = λ t. omega (arith, zeros 512 t);
  few = subst (λ (l : List Step). (j : ℕ) → From l j < 512) (sym c.new.ensures) (λ j. omega arith);
}

pub returns-clause-none : goal.returns-clause-none
returns-clause-none c = λ t. ap (λ (n : ℕ). chain c.new.result.items n n) (zeros 512 t)
