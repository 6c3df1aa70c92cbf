-- A list of requests that grows with what they are answered.
use Rattle.std.proofs.Common.{◌≡◌, ℕ, ◌+◌, ◌<◌, List, [], ◌∷◌, ◌++◌, length, get_or, take, drop, set, sym, ap, ◌∙◌, subst, arith}
use Rattle.std.proofs.lemmas.List.{take_more, take_more_set, drop_more, drop-set-lt}
use Rattle.kripke.specs.Structure.{Kripke}
use Rattle.kripke.specs.declared.node.Node.{Node}
use Rattle.compare.specs.Calls.{SameModels, first, second, questions, rounds}
use Rattle.compare.specs.Law.{Answered, Obeys, Run, more}
use Rattle.compare.specs.declared.comparison.Comparison.{Comparison}
use Rattle.compare.specs.declared.requests.Request.{Request}
use Rattle.compare.specs.declared.requests.Request.TheVariants as request

-- One request more is answered, at the place after.
pub run_step : (a b : Kripke) (q k : ℕ) (ns : List Node) (rs : List Request) (i : ℕ) (ss : List Answered) (s : Answered) (n m : ℕ) → i < length rs → i < length ss
    → Run a b q k ns (take i rs) (take i ss) n → Obeys a b q n ns (get_or rs i request.Round) s m → Run a b q k ns (take (i + 1) rs) (take (i + 1) (set ss i s)) m
run_step a b q k ns rs i ss s n m l h r o =
    subst (λ (x : List Request). Run a b q k ns x (take (i + 1) (set ss i s)) m) (sym (take_more rs i request.Round l))
    (subst (λ (x : List Answered). Run a b q k ns (take i rs ++ get_or rs i request.Round ∷ []) x m) (sym (take_more_set ss i s h))
    (more r (get_or rs i request.Round) s o))

-- The places after that are as they were.
pub rest_step : (ss before : List Answered) (i : ℕ) (s : Answered) → i < length ss → i < length before → drop i ss ≡ drop i before → drop (i + 1) (set ss i s) ≡ drop (i + 1) before
rest_step ss before i s l h e =
    drop-set-lt (i + 1) ss i s (omega arith)
    ∙ sym (ap (λ (x : List Answered). drop 1 x) (drop_more ss i s l)) ∙ ap (λ (x : List Answered). drop 1 x) e ∙ ap (λ (x : List Answered). drop 1 x) (drop_more before i s h)

-- A request answered, where the comparison went from c to d.
pub law_at : (c d : Comparison) (ns : List Node) (r r' : Request) (s : Answered) (m : ℕ) → r ≡ r' → rounds d ≡ m → Obeys (first c) (second c) (questions c) (rounds c) ns r' s m
    → Obeys (first c) (second c) (questions c) (rounds c) ns r s (rounds d)
law_at c d ns r r' s m e f o =
    subst (λ (x : Request). Obeys (first c) (second c) (questions c) (rounds c) ns x s (rounds d)) (sym e)
    (subst (λ (x : ℕ). Obeys (first c) (second c) (questions c) (rounds c) ns r' s x) (sym f) o)

pub same_still : (c d : Comparison) → d ≡ c → SameModels c d
same_still c d e = record { first_is = ap first e; second_is = ap second e; questions_is = ap questions e }

pub same_trans : (c d e : Comparison) → SameModels c d → SameModels d e → SameModels c e
same_trans c d e p q = record { first_is = q.first_is ∙ p.first_is; second_is = q.second_is ∙ p.second_is; questions_is = q.questions_is ∙ p.questions_is }

-- The law of the comparison as it began.
pub law_from : (c d : Comparison) (ns : List Node) (r : Request) (s : Answered) (m : ℕ) → SameModels c d → Obeys (first d) (second d) (questions d) (rounds d) ns r s m
    → Obeys (first c) (second c) (questions c) (rounds d) ns r s m
law_from c d ns r s m e o =
    subst (λ (a : Kripke). Obeys a (second c) (questions c) (rounds d) ns r s m) e.first_is
    (subst (λ (b : Kripke). Obeys (first d) b (questions c) (rounds d) ns r s m) e.second_is
    (subst (λ (q : ℕ). Obeys (first d) (second d) q (rounds d) ns r s m) e.questions_is o))

-- The law of a list from two structures and no round, where the comparison was opened of them.
pub law_of : (c : Comparison) (a b : Kripke) (q : ℕ) (ns : List Node) (rs : List Request) (ss : List Answered) (n : ℕ) → first c ≡ a → second c ≡ b → questions c ≡ q → rounds c ≡ 0
    → Run (first c) (second c) (questions c) (rounds c) ns rs ss n → Run a b q 0 ns rs ss n
law_of c a b q ns rs ss n ea eb eq e0 r =
    subst (λ (x : Kripke). Run x b q 0 ns rs ss n) ea
    (subst (λ (x : Kripke). Run (first c) x q 0 ns rs ss n) eb
    (subst (λ (x : ℕ). Run (first c) (second c) x 0 ns rs ss n) eq
    (subst (λ (x : ℕ). Run (first c) (second c) (questions c) x ns rs ss n) e0 r)))
