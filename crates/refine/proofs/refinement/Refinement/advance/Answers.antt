use Rattle.std.proofs.Common.{◌≡◌, ℕ, suc, ◌+◌, ◌<◌, ◌≤◌, Bool, cond, eqb, sym, ◌∙◌, subst, add-one, arith, rules}
use Rattle.refine.proofs.Scan.{count_le}
use Rattle.kripke.specs.Structure.{Kripke}
use Rattle.kripke.specs.Classes.{Numbered}
use Rattle.kripke.specs.Union.{both}
use Rattle.refine.specs.Pairs.{first_of, second_of}
use Rattle.refine.specs.Steps.{Shallow}
use Rattle.refine.specs.Stages.{rested}
use Rattle.refine.specs.declared.partition.Partition.{Partition}
use Rattle.refine.specs.declared.refinement.Refinement.{Refinement}
use Rattle.refine.proofs.Rowed.{table_lawful}
use Rattle.refine.proofs.Staging.{test_exact, exact_test, next_numbered, next_rests, next_pace}
use Rattle.refine.proofs.Rounding.{now_tried}
use Rattle.refine.proofs.refinement.Refinement.advance.Goals as goal

pub overflow_add-self : goal.overflow_add-self
overflow_add-self c =
    let r : Refinement = c.args.self.now in
    let pace : suc r.rounds ≤ r.parts.count = subst (λ (z : Bool). cond z r.rounds (suc r.rounds) ≤ r.parts.count) c.requires r.pace in
    let l : r.rounds + 1 < 18446744073709551616 = omega (arith, pace, count_le r.parts, r.parts.few) in
    search rules

pub invariant_of-self : goal.invariant_of-self
invariant_of-self c =
    let r : Refinement = c.args.self.now in
    let a : Kripke = first_of r.pair in
    let b : Kripke = second_of r.pair in
    let la = (table_lawful r.pair.first).closed in
    let lb = (table_lawful r.pair.second).closed in
    let p : Partition = r.parts in
    let q : Partition = c.round-self.new.self in
    let k : ℕ = r.rounds in
    let d = c.round-self.ensures.rounded in
    let k1 : suc k ≡ k + 1 = sym (add-one k) in
    let b0 : c.round-self.result ≡ eqb q.count p.count = c.round-self.ensures.rests in
    let pace : suc k ≤ p.count = subst (λ (z : Bool). cond z k (suc k) ≤ p.count) c.requires r.pace in
    record {
      long = d.keeps.states ∙ r.long;
      asks = d.keeps.questions ∙ r.asks;
      exact = exact_test (both a b) q (d.exact (test_exact (both a b) p r.exact));
      shallow = subst (λ (n : ℕ). Shallow n q) k1 (d.shallow k r.shallow);
      numbered = subst (λ (n : ℕ). Numbered a b n q.class) k1 (next_numbered a b la lb k p q r.long r.numbered d);
      low = λ s h. p.low s (omega (arith, h, d.keeps.states));
      tried = now_tried a b q.states p.class q.class (d.keeps.states ∙ r.long) d.refined;
      last = b0 ∙ subst (λ (n : ℕ). eqb q.count p.count ≡ rested a b n) k1 (next_rests a b la lb k p q r.long r.numbered d);
      pace =
          subst (λ (z : Bool). cond z (k + 1) (suc (k + 1)) ≤ q.count) (sym b0)
          (subst (λ (n : ℕ). cond (eqb q.count p.count) n (suc n) ≤ q.count) k1 (next_pace a b la lb k p q r.long r.numbered d pace));
    }
