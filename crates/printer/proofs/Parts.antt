-- The text of a node's formula, part by part.
use Rattle.std.proofs.Common.{◌≡◌, ℕ, suc, ◌<◌, ◌≤◌, List, [], ◌∷◌, ◌++◌, length, get_or, Result, sym, refl, ap, ◌∙◌, subst, append-nil, arith}
use Rattle.kripke.specs.Ctl.{Formula, truth, question}
use Rattle.kripke.specs.Nodes.{Operator, constant, asking, unary, binary, operator, applied, formulas, formula, Ordered, WellFormed, blank_node}
use Rattle.kripke.specs.declared.node.Node.{Node}
use Rattle.kripke.proofs.Tables.{formula_at}
use Rattle.reader.specs.declared.token.Token.TheVariants as token
use Rattle.reader.specs.declared.token.Sign.{Sign}
use Rattle.reader.specs.Grammar.{Mark, mark, marks, toks, All}
use Rattle.printer.specs.declared.signs.Signs.TheVariants.{Truth, Question, Before, Around}
use Rattle.printer.specs.declared.writer.Stop.{Stop}
use Rattle.printer.specs.Spelling.{spell, spelt}
use Rattle.printer.specs.Writing.{Appends, Spells, signs, sign, Written}
use Rattle.printer.proofs.Writings.{appended}

signs_good : (q : ℕ) (ss : List Sign) → All q (signs ss)
signs_good q [] = tt
signs_good q (s ∷ ss) = ((omega arith, tt), signs_good q ss)

-- What stands before the argument of an operator.
pub record OneAt (ns : List Node) (i l : ℕ) (before : List ℕ) : Type 0 where
  pub part : List Mark
  pub good : (q : ℕ) → All q part
  pub spells : before ≡ spelt (toks part)
  pub is : marks l (formula ns i) ≡ part ++ marks (suc l) (formula ns (get_or ns i blank_node).a)

one_of : (op : Operator) (fs : List Formula) (a b l : ℕ) → l ≤ 64 → (x : _) → Written op (Before x)
    → (part : List Mark) × ((q : ℕ) → All q part) × (x.now ≡ spelt (toks part)) × (marks l (applied op fs a b) ≡ part ++ marks (suc l) (get_or fs a truth))
one_of constant fs a b l le x h = absurd h
one_of asking fs a b l le x h = absurd h
one_of (unary op) fs a b l le x h =
    (mark (token.Unary h.operator) l ∷ [], λ q. ((le, tt), tt), h.spells ∙ sym (append-nil (spell (token.Unary h.operator))), h.is l (get_or fs a truth))
one_of (binary op) fs a b l le x h = absurd h

-- What stands before, between and after the arguments of an operator.
pub record TwoAt (ns : List Node) (i l : ℕ) (before between after : List ℕ) : Type 0 where
  pub first : List Mark
  pub middle : List Mark
  pub last : List Mark
  pub good : (q : ℕ) → All q first × All q middle × All q last
  pub begins : before ≡ spelt (toks first)
  pub links : between ≡ spelt (toks middle)
  pub ends : after ≡ spelt (toks last)
  pub is : marks l (formula ns i)
      ≡ first ++ (marks (suc l) (formula ns (get_or ns i blank_node).a) ++ (middle ++ (marks (suc l) (formula ns (get_or ns i blank_node).b) ++ last)))

two_of : (op : Operator) (fs : List Formula) (a b l : ℕ) → l ≤ 64 → (x y z : _) → Written op (Around x y z)
    → (first : List Mark) × (middle : List Mark) × (last : List Mark) × ((q : ℕ) → All q first × All q middle × All q last)
    × (x.now ≡ spelt (toks first)) × (y.now ≡ spelt (toks middle)) × (z.now ≡ spelt (toks last))
    × (marks l (applied op fs a b) ≡ first ++ (marks (suc l) (get_or fs a truth) ++ (middle ++ (marks (suc l) (get_or fs b truth) ++ last))))
two_of constant fs a b l le x y z h = absurd h
two_of asking fs a b l le x y z h = absurd h
two_of (unary op) fs a b l le x y z h = absurd h
two_of (binary op) fs a b l le x y z h = (
  mark h.opening l ∷ signs h.left,
  sign h.middle ∷ [],
  sign h.right ∷ [],
  λ q. (((le, h.free q), signs_good q h.left), signs_good q (h.middle ∷ []), signs_good q (h.right ∷ [])),
  h.begins,
  h.links ∙ sym (append-nil (spell (token.Sign h.middle))),
  h.ends ∙ sym (append-nil (spell (token.Sign h.right))),
  h.is l (get_or fs a truth) (get_or fs b truth),
)

truth_of : (op : Operator) (fs : List Formula) (a b : ℕ) → Written op Truth → applied op fs a b ≡ truth
truth_of constant fs a b h = refl
truth_of asking fs a b h = absurd h
truth_of (unary op) fs a b h = absurd h
truth_of (binary op) fs a b h = absurd h

question_of : (op : Operator) (fs : List Formula) (q i a b : ℕ) → Written op Question → Ordered op q i a b → (applied op fs a b ≡ question a) × (a < q)
question_of constant fs q i a b h o = absurd h
question_of asking fs q i a b h o = (refl, o.0)
question_of (unary op) fs q i a b h o = absurd h
question_of (binary op) fs q i a b h o = absurd h

module _ (q : ℕ) (ns : List Node) (w : WellFormed q ns) (i : ℕ) (li : i < length ns) (l : ℕ) (le : l ≤ 64) where
  abbrev n : Node
  n = get_or ns i blank_node

  pub one_at : (x : _) → Written (operator n) (Before x) → OneAt ns i l x.now
  one_at x h =
      let z = one_of (operator n) (formulas ns) n.a n.b l le x h in
      record { part = z.0; good = z.1; spells = z.2; is = ap (marks l) (formula_at q ns w i li) ∙ z.3 }

  pub two_at : (x y z : _) → Written (operator n) (Around x y z) → TwoAt ns i l x.now y.now z.now
  two_at x y z h =
      let p = two_of (operator n) (formulas ns) n.a n.b l le x y z h in
      record {
        first = p.0;
        middle = p.1;
        last = p.2;
        good = p.3;
        begins = p.4;
        links = p.5;
        ends = p.6;
        is = ap (marks l) (formula_at q ns w i li) ∙ p.7;
      }

  pub truth_spells : Written (operator n) Truth → (b b1 : List ℕ) (r : Result (Unit {0}) Stop) → Appends b (spell token.Truth) b1 r → Spells q b (marks l (formula ns i)) b1 r
  truth_spells h b b1 r z =
      subst (λ (f : Formula). Spells q b (marks l f) b1 r) (sym (formula_at q ns w i li ∙ truth_of (operator n) (formulas ns) n.a n.b h))
      (appended q b (mark token.Truth l ∷ []) (spell token.Truth) b1 r ((le, tt), tt) refl z)

  pub question_spells : Written (operator n) Question → (b b1 : List ℕ) (r : Result (Unit {0}) Stop) → Appends b (spell (token.Question n.a)) b1 r
      → Spells q b (marks l (formula ns i)) b1 r
  question_spells h b b1 r z =
      let p = question_of (operator n) (formulas ns) q i n.a n.b h (w i li).1 in
      subst (λ (f : Formula). Spells q b (marks l f) b1 r) (sym (formula_at q ns w i li ∙ p.0))
      (appended q b (mark (token.Question n.a) l ∷ []) (spell (token.Question n.a)) b1 r ((le, p.1), tt) (sym (append-nil (spell (token.Question n.a)))) z)
