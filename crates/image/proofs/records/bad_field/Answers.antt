use Rattle.std.proofs.Common.{rules, tests, arith, lit≤}
use Rattle.image.specs.Loading.{kind, gap, state_count, link_count, begins}
use Rattle.image.proofs.Firsts.{fields_before}
use Rattle.image.proofs.records.bad_field.Goals as goal

pub returns-then-image-from : goal.returns-then-image-from
returns-then-image-from g c = (kind (λ e. c.if-image-from.true (cc)), λ q l b. omega arith)

pub returns-then-image-ne0 : goal.returns-then-image-ne0
returns-then-image-ne0 g c =
    (gap c.if-image-ne0.true, fields_before _ _ 1 (lit≤ tt) (λ l. cc) (λ l. omega arith) (λ l. omega arith) (λ l. omega arith))

pub returns-then-not-contains : goal.returns-then-not-contains
returns-then-not-contains g c =
    (state_count (λ h. Prim.search (rules, tests)), fields_before _ _ 2 (lit≤ tt) (λ l. cc) (λ l. cc) (λ l. omega arith) (λ l. omega arith))

pub returns-then-not-contains-2 : goal.returns-then-not-contains-2
returns-then-not-contains-2 g c =
    (link_count (λ h. Prim.search (rules, tests)), fields_before _ _ 4 (lit≤ tt) (λ l. cc) (λ l. cc) (λ l. Prim.search (rules, tests)) (λ l. omega arith))

pub returns-then-initial-states : goal.returns-then-initial-states
returns-then-initial-states g c =
    (begins (λ h. omega arith), fields_before _ _ 6 (lit≤ tt) (λ l. cc) (λ l. cc) (λ l. Prim.search (rules, tests)) (λ l. Prim.search (rules, tests)))
