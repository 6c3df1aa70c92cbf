use Rattle.std.proofs.Common.{sym, ap, ◌∙◌, arith}
use Rattle.reader.specs.Phrases.{head_of}
use Rattle.reader.proofs.Phrases.{told_at}
use Rattle.reader.proofs.Steps.{head_forth, not_begun, unasked_begun, deep_begun}
use Rattle.reader.proofs.cursor.Cursor.head.Goals as goal

pub returns-in_default : goal.returns-in_default
returns-in_default c =
    let z = c.token-part.ensures.passed in
    record { some = tt; begins = λ l e. told_at _ _ _ _ _ _ _ z.here c.refusal.ensures (not_begun c.args.questions l _ (ap head_of (z.is ∙ sym c.of.ensures) ∙ sym c.begun_by.ensures ∙ c.in_default.is)) }

pub returns-then-is_beyond : goal.returns-then-is_beyond
returns-then-is_beyond c =
    let z = c.token-part.ensures.passed in
    let forth = head_forth c.of.result c.in-Some.head (sym c.begun_by.ensures ∙ c.in-Some.is) in
    let over = c.if-is_beyond.ensures in
    record { some = tt; begins = λ l e. told_at _ _ _ _ _ _ _ z.here c.refusal-then-is_beyond.ensures (unasked_begun c.args.questions l _ over.0 (z.is ∙ sym c.of.ensures ∙ sym forth ∙ over.1) over.2) }

pub returns-then-levels-eq0 : goal.returns-then-levels-eq0
returns-then-levels-eq0 c =
    let z = c.token-part.ensures.passed in
    let forth = head_forth c.of.result c.in-Some.head (sym c.begun_by.ensures ∙ c.in-Some.is) in
    record { some = tt; begins = λ l e. told_at _ _ _ _ _ _ _ z.here c.refusal-then-levels-eq0.ensures (deep_begun c.args.questions l _ c.in-Some.head (omega (arith, e)) (z.is ∙ sym c.of.ensures ∙ sym forth) c.if-is_beyond.ensures) }
