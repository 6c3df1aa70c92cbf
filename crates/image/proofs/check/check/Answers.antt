use Rattle.std.proofs.Common.{sym, arith}
use Rattle.image.specs.Checks.{States}
use Rattle.image.proofs.Firsts.{first_state, first_link, first_chain, no_breach}
use Rattle.image.proofs.check.check.Goals as goal

pub returns-in-Some : goal.returns-in-Some
returns-in-Some g c =
    let read = c.in_ok-records.ensures in
    let bad = c.in-Some.ensures in
    rw (c.refusal.ensures, c.state_at.ensures, sym read.0)
    (first_state _ _ _ read.1 (omega arith) _ (omega (arith, bad.1)) bad.2 (λ t l. bad.3 t (omega arith) l))

pub returns-in-Some-first_bad_link : goal.returns-in-Some-first_bad_link
returns-in-Some-first_bad_link g c =
    let read = c.in_ok-records.ensures in
    let bad = c.in-Some-first_bad_link.ensures in
    rw (c.refusal-in-Some-first_bad_link.ensures, c.link_at.ensures, sym read.0)
    (first_link _ _ _ read.1 (omega arith) (λ t l. c.in_default.ensures t (omega arith) (omega arith)) _ (bad.0, omega (arith, bad.1)) bad.2 bad.3)

pub returns-in-Some-first_long_chain : goal.returns-in-Some-first_long_chain
returns-in-Some-first_long_chain g c =
    let read = c.in_ok-records.ensures in
    let bad = c.in-Some-first_long_chain.ensures in
    rw (c.refusal-in-Some-first_long_chain.ensures, c.state_at-in-Some-first_long_chain.ensures, sym read.0)
    (first_chain _ _ _ read.1 (omega arith) (λ t l. c.in_default.ensures t (omega arith) (omega arith)) (λ k l. c.in_default-first_bad_link.ensures k l.0 (omega (arith, l.1)))
    _ (omega (arith, bad.1)) bad.2 (λ t l. bad.3 t (omega arith) l))

pub invariant_of-result : goal.invariant_of-result
invariant_of-result g c =
    let good : States g.L.Coded.coding c.in_ok-records.records.image.now = λ t l. c.in_default.ensures t (omega arith) (omega arith) in
    record {
      clean = no_breach _ _ c.args.layer c.in_ok-records.ensures.1 (omega arith) good (λ k l. c.in_default-first_bad_link.ensures k l.0 (omega (arith, l.1)))
          (λ t l. c.in_default-first_long_chain.ensures t (omega arith) (omega arith));
      good = good;
    }
