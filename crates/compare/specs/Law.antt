-- The law of a comparison over any list of requests.
use Rattle.std.specs.Prelude.{◌≡◌, ℕ, suc, ◌≤◌, ◌⊎◌, List, [], ◌∷◌, ◌++◌, length, min, Ok, Err, Result}
use Rattle.kripke.specs.Structure.{Kripke}
use Rattle.kripke.specs.Rounds.{total, ClosedAfter}
use Rattle.kripke.specs.Classes.{Classes}
use Rattle.kripke.specs.Refusals.{Clean, FirstBreach}
use Rattle.kripke.specs.declared.node.Node.{Node}
use Rattle.kripke.specs.declared.refusal.Refusal.{Refusal}
use Rattle.kripke.specs.declared.refusal.Layer.TheVariants.{Comparison}
use Rattle.compare.specs.Breaches.{RoundBreach, ClassBreach, VerdictBreach, FormulaBreach}
use Rattle.compare.specs.Answers.{ClassNumber, Decides, Separating}
use Rattle.compare.specs.Calls.{first, second, questions, rounds, table}
use Rattle.compare.specs.declared.comparison.Comparison.{Comparison as Compared}
use Rattle.compare.specs.declared.verdict.Verdict.{Verdict}
use Rattle.compare.specs.declared.requests.Request.{Request}
use Rattle.compare.specs.declared.requests.Request.TheVariants as request
use Rattle.compare.specs.declared.requests.Answer.{Answer}
use Rattle.compare.specs.declared.requests.Answer.TheVariants as answer

-- What a request gets: an answer, or its refusal.
abbrev pub Answered : Type 0
Answered = Result Answer Refusal

-- How many requests are answered: as many as there are places for the answers.
abbrev pub served : List Request → List Answered → ℕ
served rs ss = min (length rs) (length ss)

-- The answers that a request can have, of structures a and b with q questions after k accepted rounds; and the accepted rounds then. A formula that is told is the table ns.
pub data Obeys (a b : Kripke) (q k : ℕ) (ns : List Node) : Request → Answered → ℕ → Type 0 where
  -- A round is accepted when the comparison is open, and answers the number of classes that it leaves; it is refused when closed.
  rounded : (n : ℕ) → Clean (RoundBreach a b k) → suc k ≤ total a b → Classes a b (suc k) n → Obeys a b q k ns request.Round (Ok (answer.Round n)) (suc k)
  no_round : (e : Refusal) → FirstBreach (RoundBreach a b k) Comparison e → Obeys a b q k ns request.Round (Err e) k
  -- A class reading answers the least number of a state that no next-only formula of nesting k or less separates from the given one.
  classed : (i c : ℕ) → Clean (ClassBreach a b i) → ClassNumber a b k i c → Obeys a b q k ns (request.Class i) (Ok (answer.Class c)) k
  no_class : (i : ℕ) (e : Refusal) → FirstBreach (ClassBreach a b i) Comparison e → Obeys a b q k ns (request.Class i) (Err e) k
  -- Closed, the verdict is alike exactly when no CTL formula separates the initial states.
  decided : (v : Verdict) → Clean (VerdictBreach a b k) → Decides a b k v → Obeys a b q k ns request.Verdict (Ok (answer.Verdict v)) k
  no_verdict : (e : Refusal) → FirstBreach (VerdictBreach a b k) Comparison e → Obeys a b q k ns request.Verdict (Err e) k
  -- Closed as different, the formula is a next-only one of least nesting, and separates them; the answer is the number of its nodes.
  formulated : (p n : ℕ) → Clean (FormulaBreach a b k p) → Separating a b q k ns → n ≡ length ns → Obeys a b q k ns (request.Formula p) (Ok (answer.Formula n)) k
  no_formula : (p : ℕ) (e : Refusal) → FirstBreach (FormulaBreach a b k p) Comparison e → Obeys a b q k ns (request.Formula p) (Err e) k

-- From k accepted rounds these requests got these answers, one each, and n rounds are accepted then. Every formula among the answers is the table ns.
pub data Run (a b : Kripke) (q k : ℕ) (ns : List Node) : List Request → List Answered → ℕ → Type 0 where
  none : Run a b q k ns [] [] k
  more : {rs : List Request} {ss : List Answered} {n m : ℕ} → Run a b q k ns rs ss n → (r : Request) (s : Answered) → Obeys a b q n ns r s m
      → Run a b q k ns (rs ++ r ∷ []) (ss ++ s ∷ []) m

-- From c to d: a closed comparison stays as it is, and so does an open one without an accepted round.
pub record Steady (c d : Compared) : Type 0 where
  pub still : ClosedAfter (first c) (second c) (rounds c) → d ≡ c
  pub unmoved : rounds d ≡ rounds c → d ≡ c
  pub grows : rounds c ≤ rounds d

-- One request of c was answered, which is d then: by whichever table, where it is no formula, and else by the one that d, which is closed, keeps.
pub record Did (c : Compared) (r : Request) (s : Answered) (d : Compared) : Type 0 where
  pub steady : Steady c d
  pub law : ((ns : List Node) → Obeys (first c) (second c) (questions c) (rounds c) ns r s (rounds d))
      ⊎ (ClosedAfter (first d) (second d) (rounds d) × Obeys (first c) (second c) (questions c) (rounds c) (table d) r s (rounds d))

-- The same of a list.
pub record DidAll (c : Compared) (rs : List Request) (ss : List Answered) (d : Compared) : Type 0 where
  pub steady : Steady c d
  pub law : ((ns : List Node) → Run (first c) (second c) (questions c) (rounds c) ns rs ss (rounds d))
      ⊎ (ClosedAfter (first d) (second d) (rounds d) × Run (first c) (second c) (questions c) (rounds c) (table d) rs ss (rounds d))
