use Rattle.std.proofs.Common.{arith}
use Rattle.image.proofs.Firsts.{first_short, first_field, first_sized}
use Rattle.image.proofs.records.Records.read.Goals as goal

pub returns-then-image-lt-HEADER : goal.returns-then-image-lt-HEADER
returns-then-image-lt-HEADER g c = rw c.refusal.ensures (first_short _ _ _ c.if-image-lt-HEADER.true)

pub returns-in-Some : goal.returns-in-Some
returns-in-Some g c =
    let bad = c.in-Some.ensures in
    rw c.refusal-in-Some.ensures (first_field _ _ _ _ c.if-image-lt-HEADER.false bad.0 bad.1)

pub returns-then-image-whole : goal.returns-then-image-whole
returns-then-image-whole g c =
    rw c.refusal-then-image-whole.ensures (first_sized _ _ _ c.in_default.ensures _ c.if-image-lt-HEADER.false (omega arith) (λ h. omega arith))
