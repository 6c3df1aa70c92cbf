use Rattle.std.proofs.Common.{◌≡◌, ℕ, ◌+◌, ◌-◌, [], ◌∷◌, sym, ◌∙◌, ap, subst, arith}
use Rattle.kripke.specs.Nodes.{code_of}
use Rattle.kripke.specs.declared.node.Node.{Node}
use Rattle.kripke.specs.declared.operator.Operator.{Operator}
use Rattle.reader.specs.declared.head.Head.{Head}
use Rattle.reader.specs.Tokens.{Stream}
use Rattle.reader.specs.Phrases.{Begun, Form, Refused}
use Rattle.reader.specs.Reading.{ahead}
use Rattle.reader.specs.Table.{node}
use Rattle.reader.proofs.Chains.{broke}
use Rattle.reader.proofs.Formulas.{asked_so, truth_taken, question_taken, argument_fails, applied_taken, open_fails, first_fails, middle_fails, second_fails, close_fails, joined_taken}
use Rattle.reader.proofs.Layings.{leaf_laid, applied_laid, joined_laid}
use Rattle.reader.proofs.Room.{head_left, phrase_left, formula_left}
use Rattle.reader.proofs.reader.Reader.+formula.Goals as goal

begun : (q l : ℕ) (s s' : Stream) (h k : Head) → Begun q l s h s' → h ≡ k → Begun q l s k s'
begun q l s s' h k b e = subst (λ (x : Head). Begun q l s x s') e b

pub returns-in_err-a-in-Unary-clause-owes : goal.returns-in_err-a-in-Unary-clause-owes
returns-in_err-a-in-Unary-clause-owes t c = λ l e.
    broke _ _ _ _ _ _ _ c.from_residual-in_err-a-in-Unary.ensures.1 (argument_fails _ _ _ _ _ (begun _ l _ _ _ _ (c.in_ok-head.ensures.begins l e) c.in-Unary.is) _ (c.in_err-a-in-Unary.ensures.owes (l + 1) (omega (arith, e, c.in_ok-head.ensures.some))))

pub returns-in_err-open-in-Binary-clause-owes : goal.returns-in_err-open-in-Binary-clause-owes
returns-in_err-open-in-Binary-clause-owes t c = λ l e.
    broke _ _ _ _ _ _ _ c.from_residual-in_err-open-in-Binary.ensures.1 (open_fails _ _ _ _ _ (begun _ l _ _ _ _ (c.in_ok-head.ensures.begins l e) c.in-Binary.is) _ (c.in_err-open-in-Binary.ensures _))

pub returns-in_err-a-in-Binary-clause-owes : goal.returns-in_err-a-in-Binary-clause-owes
returns-in_err-a-in-Binary-clause-owes t c = λ l e.
    broke _ _ _ _ _ _ _ c.from_residual-in_err-a-in-Binary.ensures.1 (first_fails _ _ _ _ _ (begun _ l _ _ _ _ (c.in_ok-head.ensures.begins l e) c.in-Binary.is) _ (c.in_ok-open-in-Binary.ensures _) _ (c.in_err-a-in-Binary.ensures.owes (l + 1) (omega (arith, e, c.in_ok-head.ensures.some))))

pub returns-in_err-operator-in-Binary-clause-owes : goal.returns-in_err-operator-in-Binary-clause-owes
returns-in_err-operator-in-Binary-clause-owes t c = λ l e.
    broke _ _ _ _ _ _ _ c.from_residual-in_err-operator-in-Binary.ensures.1 (middle_fails _ _ _ _ _ (begun _ l _ _ _ _ (c.in_ok-head.ensures.begins l e) c.in-Binary.is) _ (c.in_ok-open-in-Binary.ensures _) _ _ _ (c.in_ok-a-in-Binary.ensures.owes (l + 1) (omega (arith, e, c.in_ok-head.ensures.some))) _ (c.in_err-operator-in-Binary.ensures _))

pub returns-in_err-b-in-Binary-clause-owes : goal.returns-in_err-b-in-Binary-clause-owes
returns-in_err-b-in-Binary-clause-owes t c = λ l e.
    broke _ _ _ _ _ _ _ c.from_residual-in_err-b-in-Binary.ensures.1 (second_fails _ _ _ _ _ (begun _ l _ _ _ _ (c.in_ok-head.ensures.begins l e) c.in-Binary.is) _ (c.in_ok-open-in-Binary.ensures _) _ _ _ (c.in_ok-a-in-Binary.ensures.owes (l + 1) (omega (arith, e, c.in_ok-head.ensures.some))) _ _ _ (c.in_ok-operator-in-Binary.ensures _) _ (subst (λ (q : ℕ). Refused (Form (l + 1)) q (ahead c.middle.new.self) c.in_err-b-in-Binary.field-0.0) c.in_ok-a-in-Binary.ensures.same_questions (c.in_err-b-in-Binary.ensures.owes (l + 1) (omega (arith, e, c.in_ok-head.ensures.some)))))

pub returns-in_err-close-in-Binary-clause-owes : goal.returns-in_err-close-in-Binary-clause-owes
returns-in_err-close-in-Binary-clause-owes t c = λ l e.
    let g = asked_so _ _ _ _ _ _ _ c.in_ok-a-in-Binary.ensures.same_questions (c.in_ok-b-in-Binary.ensures.owes (l + 1) (omega (arith, e, c.in_ok-head.ensures.some))) in
    broke _ _ _ _ _ _ _ c.from_residual-in_err-close-in-Binary.ensures.1 (close_fails _ _ _ _ _ (begun _ l _ _ _ _ (c.in_ok-head.ensures.begins l e) c.in-Binary.is) _ (c.in_ok-open-in-Binary.ensures _) _ _ _ (c.in_ok-a-in-Binary.ensures.owes (l + 1) (omega (arith, e, c.in_ok-head.ensures.some))) _ _ _ (c.in_ok-operator-in-Binary.ensures _) _ _ _ g _ (c.in_err-close-in-Binary.ensures _))

pub returns-in-Truth-clause-owes : goal.returns-in-Truth-clause-owes
returns-in-Truth-clause-owes t c = λ l e.
    rw c.push.ensures.same_cursor (truth_taken _ _ _ _ (begun _ l _ _ _ _ (c.in_ok-head.ensures.begins l e) c.in-Truth.is) _ _ (leaf_laid _ _ _ _ _ _ _ (ap (λ (n : Node). n ∷ []) (sym c.new.ensures)) c.push.ensures.pushed))

pub returns-in-Question-clause-owes : goal.returns-in-Question-clause-owes
returns-in-Question-clause-owes t c = λ l e.
    rw c.push-in-Question.ensures.same_cursor (question_taken _ _ _ _ _ (begun _ l _ _ _ _ (c.in_ok-head.ensures.begins l e) c.in-Question.is) _ _ (leaf_laid _ _ _ _ _ _ _ (ap (λ (n : Node). n ∷ []) (sym (c.new-in-Question.ensures ∙ ap (λ (a : ℕ). node 1 a 0) c.from.ensures))) c.push-in-Question.ensures.pushed))

pub returns-in_ok-a-in-Unary-clause-owes : goal.returns-in_ok-a-in-Unary-clause-owes
returns-in_ok-a-in-Unary-clause-owes t c = λ l e.
    rw c.push-in-Unary.ensures.same_cursor (applied_taken _ _ _ _ _ (begun _ l _ _ _ _ (c.in_ok-head.ensures.begins l e) c.in-Unary.is) _ _ _ (c.in_ok-a-in-Unary.ensures.owes (l + 1) (omega (arith, e, c.in_ok-head.ensures.some))) _ _ (applied_laid _ _ _ _ _ _ _ _ _ _ _ (c.in_ok-a-in-Unary.ensures.owes (l + 1) (omega (arith, e, c.in_ok-head.ensures.some))).is (c.new-in-Unary.ensures ∙ ap (λ (o : Operator). node (code_of o) c.in_ok-a-in-Unary.a 0) c.from-in-Unary.ensures) c.push-in-Unary.ensures.pushed))

pub returns-in_ok-close-in-Binary-clause-owes : goal.returns-in_ok-close-in-Binary-clause-owes
returns-in_ok-close-in-Binary-clause-owes t c = λ l e.
    let g = asked_so _ _ _ _ _ _ _ c.in_ok-a-in-Binary.ensures.same_questions (c.in_ok-b-in-Binary.ensures.owes (l + 1) (omega (arith, e, c.in_ok-head.ensures.some))) in
    rw c.push-in-Binary.ensures.same_cursor (joined_taken _ _ _ _ _ (begun _ l _ _ _ _ (c.in_ok-head.ensures.begins l e) c.in-Binary.is) _ (c.in_ok-open-in-Binary.ensures _) _ _ _ (c.in_ok-a-in-Binary.ensures.owes (l + 1) (omega (arith, e, c.in_ok-head.ensures.some))) _ _ _ (c.in_ok-operator-in-Binary.ensures _) _ _ _ g _ (c.in_ok-close-in-Binary.ensures _) _ _ (joined_laid _ _ _ _ _ _ _ _ _ _ _ _ _ _ _ _ (c.in_ok-a-in-Binary.ensures.owes (l + 1) (omega (arith, e, c.in_ok-head.ensures.some))).is g.is (c.new-in-Binary.ensures ∙ ap (λ (o : Operator). node (code_of o) c.in_ok-a-in-Binary.a c.in_ok-b-in-Binary.b) (c.in_ok-operator-in-Binary.ensures c.args.self.now.questions).is) c.push-in-Binary.ensures.pushed))

pub push-requires-in-Unary : goal.push-requires-in-Unary
push-requires-in-Unary t c =
    omega (arith, head_left _ _ _ _ _ (c.in_ok-head.ensures.begins (65 - c.args.levels) (omega (arith, c.requires.shallow))), formula_left _ _ _ _ _ _ _ _ _ (c.in_ok-a-in-Unary.ensures.owes (66 - c.args.levels) (omega (arith, c.requires.shallow, c.in_ok-head.ensures.some))), c.requires.room)

pub formula-requires-in-Binary : goal.formula-requires-in-Binary
formula-requires-in-Binary t c =
    let some = c.in_ok-head.ensures.some in
    (omega arith, (omega arith, omega (arith, head_left _ _ _ _ _ (c.in_ok-head.ensures.begins (65 - c.args.levels) (omega (arith, c.requires.shallow))), phrase_left _ _ _ _ _ _ (c.in_ok-open-in-Binary.ensures 0), c.requires.room)))

pub formula-requires-in-Binary-2 : goal.formula-requires-in-Binary-2
formula-requires-in-Binary-2 t c =
    let some = c.in_ok-head.ensures.some in (
      omega arith,
      (
        omega arith,
        omega (
          arith,
          head_left _ _ _ _ _ (c.in_ok-head.ensures.begins (65 - c.args.levels) (omega (arith, c.requires.shallow))),
          phrase_left _ _ _ _ _ _ (c.in_ok-open-in-Binary.ensures 0),
          formula_left _ _ _ _ _ _ _ _ _ (c.in_ok-a-in-Binary.ensures.owes (66 - c.args.levels) (omega (arith, c.requires.shallow, c.in_ok-head.ensures.some))),
          phrase_left _ _ _ _ _ _ (c.in_ok-operator-in-Binary.ensures 0),
          c.requires.room,
        ),
      ),
    )

pub push-requires-in-Binary : goal.push-requires-in-Binary
push-requires-in-Binary t c = omega (
  arith,
  head_left _ _ _ _ _ (c.in_ok-head.ensures.begins (65 - c.args.levels) (omega (arith, c.requires.shallow))),
  phrase_left _ _ _ _ _ _ (c.in_ok-open-in-Binary.ensures 0),
  formula_left _ _ _ _ _ _ _ _ _ (c.in_ok-a-in-Binary.ensures.owes (66 - c.args.levels) (omega (arith, c.requires.shallow, c.in_ok-head.ensures.some))),
  phrase_left _ _ _ _ _ _ (c.in_ok-operator-in-Binary.ensures 0),
  formula_left _ _ _ _ _ _ _ _ _ (c.in_ok-b-in-Binary.ensures.owes (66 - c.args.levels) (omega (arith, c.requires.shallow, c.in_ok-head.ensures.some))),
  c.requires.room,
)

pub formula-requires : goal.formula-requires
formula-requires t c =
    let some = c.in_ok-head.ensures.some in
    (omega arith, (omega arith, omega (arith, head_left _ _ _ _ _ (c.in_ok-head.ensures.begins (65 - c.args.levels) (omega (arith, c.requires.shallow))), c.requires.room)))
