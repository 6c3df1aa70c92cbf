-- What comes out at each row of a table: where it is what the rows claim, every row holds.
use Rattle.std.proofs.Common.{◌≡◌, ℕ, suc, ◌+◌, ◌*◌, Bool, true, false, not, ◌&&◌, T, ltb, leb, List, [], ◌∷◌, length, get_or, take, drop, ◌∙◌, arith}
use mathlib.Core.Bool.{beq}
use Rattle.std.proofs.lemmas.Bool.{leb-true, ltb-true}
use Rattle.kripke.specs.Nodes.{root}
use Rattle.kripke.specs.Refusals.{told_as}
use Rattle.kripke.specs.declared.refusal.Refusal.{Refusal}
use Rattle.kripke.specs.Rounds.{total}
use Rattle.kripke.specs.declared.node.Node.{Node}
use Rattle.kripke.proofs.Reflect.{T_true, and_T, beq-T}
use Rattle.labels.specs.Kinds.{bands}
use Rattle.evaluator.proofs.Breaches as evaluation
use Rattle.reader.specs.Tokens.{Stream, tokens, kinds, first, offset}
use Rattle.reader.specs.Grammar.{Mark, mark, toks, whole}
use Rattle.reader.specs.Grammar.{marks as spelling}
use Rattle.reader.specs.Table.{table}
use Rattle.reader.specs.declared.token.Token.{Token}
use Rattle.examples.specs.Rows.{Row, lawful, answers, says, closes, enough_places, few_places, reads, too_deep, enough_words, few_words, Holding, Each, deep_at, places_given, words_given}
use Rattle.examples.proofs.Tests.{is_lawful, line_of, two_digits, met, first_closed, verdict, is_well_formed, marks, enough, asked, limited, chain, skip}
use Rattle.examples.proofs.Right.{law_right, different_right, closes_right, says_right, table_right}
use Rattle.examples.proofs.Places.{places_enough, places_few}
use Rattle.examples.proofs.Lines.{line_right}
use Rattle.examples.proofs.Texts.{reads_right, deep_right}

-- The row of number i passes its tests, or it does not. Of a refusal also the line that tells it. Of a text also: its tokens, its nodes; where it stops, what is left there, with the levels.
pub data Outcome : Type 0 where
  fine : Outcome
  broken : ℕ → Outcome
  refused : Bool → List ℕ → Outcome
  read_as : Bool → List Token → List Node → Outcome
  stops : Bool → List Token → List Mark → ℕ → List ℕ → Outcome

abbrev found : ℕ → Bool → Outcome
found i true = fine
found i false = broken i

passed : (i : ℕ) (x : Bool) → found i x ≡ fine → T x
passed i true e = tt
passed i false e = let z : ◌≡◌ {A = ℕ} 0 1 = cc in omega arith

told_right : (r : Refusal) (x : Bool) (line : List ℕ) → refused (two_digits r && x) (line_of r) ≡ refused true line → T x × (told_as r ≡ line)
told_right r x line e =
    let a : (two_digits r && x) ≡ true = cc in
    let b : line_of r ≡ line = cc in
    let (d, t) = (and_T (two_digits r) x).0 ((T_true (two_digits r && x)).1 a) in
    (t, line_right r d ∙ b)

-- A chain of operators is too deep from its token 64 on.
abbrev deepest : List ℕ → Stream
deepest text = skip 64 (tokens 0 0 text)

abbrev chained : List ℕ → List Mark
chained text = whole (chain (kinds (tokens 0 0 text)))

abbrev outcome : ℕ → Row → Outcome
outcome i (lawful k said) = found i (beq said (is_lawful 32 k))
outcome i (answers level fault pre_alarm alarm question said) = found i (beq (get_or (bands level fault pre_alarm alarm) question false) said)
outcome i (says k f said) = found i (is_lawful 32 k && (enough k f && beq said (marks k f k.initial)))
outcome i (closes a b v k) = found i (is_lawful 32 a && (is_lawful 32 b && (first_closed a b k && verdict a b v k)))
outcome i (reads text ns) =
    read_as (leb (length text) 4096 && (leb (length ns) 2045 && limited 32 (spelling 1 (root ns)))) (kinds (tokens 0 0 text)) (table (root ns))
outcome i (too_deep text place line) =
    stops (leb (length text) 4096 && (two_digits (deep_at place) && (ltb 64 (length (kinds (tokens 0 0 text))) && (limited 32 (take 64 (chained text)) && asked 32 (first (deepest text))))))
    (kinds (tokens 0 0 text)) (drop 64 (chained text)) (offset (deepest text)) (line_of (deep_at place))
outcome i (enough_places a b k places) = found i (not (met a b k) && leb (4 * total a b) (places + 3))
outcome i (few_places a b k places line) = refused (two_digits (places_given places) && (not (met a b k) && ltb (places + 3) (4 * total a b))) (line_of (places_given places))
outcome i (enough_words ns w) = found i (is_well_formed 32 ns && leb (4 * length ns) w)
outcome i (few_words ns w line) = refused (two_digits (words_given w) && (is_well_formed 32 ns && ltb w (4 * length ns))) (line_of (words_given w))

abbrev claim : Row → Outcome
claim (lawful k said) = fine
claim (answers level fault pre_alarm alarm question said) = fine
claim (says k f said) = fine
claim (closes a b v k) = fine
claim (reads text ns) = read_as true (toks (whole (root ns))) ns
claim (too_deep text place line) = stops true (toks (chained text)) (mark (first (deepest text)) 65 ∷ drop 65 (chained text)) place line
claim (enough_places a b k places) = fine
claim (few_places a b k places line) = refused true line
claim (enough_words ns w) = fine
claim (few_words ns w line) = refused true line

right : (i : ℕ) (r : Row) → outcome i r ≡ claim r → Holding r
right i (lawful k said) e = law_right k said (passed i _ e)
right i (answers level fault pre_alarm alarm question said) e =
    (beq-T (get_or (bands level fault pre_alarm alarm) question false) said).0 (passed i _ e)
right i (says k f said) e =
    let (x, u) = (and_T (is_lawful 32 k) (enough k f && beq said (marks k f k.initial))).0 (passed i _ e) in
    let (y, z) = (and_T (enough k f) (beq said (marks k f k.initial))).0 u in
    says_right k f said x y z
right i (closes a b v k) e =
    let (x, u) = (and_T (is_lawful 32 a) (is_lawful 32 b && (first_closed a b k && verdict a b v k))).0 (passed i _ e) in
    let (y, w) = (and_T (is_lawful 32 b) (first_closed a b k && verdict a b v k)).0 u in
    let (f, z) = (and_T (first_closed a b k) (verdict a b v k)).0 w in
    closes_right a b v k x y f z
right i (reads text ns) e =
    let within = leb (length text) 4096 && (leb (length ns) 2045 && limited 32 (spelling 1 (root ns))) in
    let h : read_as within (kinds (tokens 0 0 text)) (table (root ns)) ≡ read_as true (toks (whole (root ns))) ns = e in
    let a : within ≡ true = cc in
    let b : kinds (tokens 0 0 text) ≡ toks (whole (root ns)) = cc in
    let d : table (root ns) ≡ ns = cc in
    let (x, u) = (and_T (leb (length text) 4096) (leb (length ns) 2045 && limited 32 (spelling 1 (root ns)))).0 ((T_true within).1 a) in
    let (y, z) = (and_T (leb (length ns) 2045) (limited 32 (spelling 1 (root ns)))).0 u in
    reads_right text ns x y z b d
right i (too_deep text place line) e =
    let s = tokens 0 0 text in
    let ms = chained text in
    let d = two_digits (deep_at place) in
    let begun = ltb 64 (length (kinds s)) && (limited 32 (take 64 ms) && asked 32 (first (skip 64 s))) in
    let within = leb (length text) 4096 && (d && begun) in
    let h : stops within (kinds s) (drop 64 ms) (offset (skip 64 s)) (line_of (deep_at place)) ≡ stops true (toks ms) (mark (first (skip 64 s)) 65 ∷ drop 65 ms) place line = e in
    let a : within ≡ true = cc in
    let b : kinds s ≡ toks ms = cc in
    let m : drop 64 ms ≡ mark (first (skip 64 s)) 65 ∷ drop 65 ms = cc in
    let o : offset (skip 64 s) ≡ place = cc in
    let l : line_of (deep_at place) ≡ line = cc in
    let (w, t) = (and_T (leb (length text) 4096) (d && begun)).0 ((T_true within).1 a) in
    let (n, v) = (and_T d begun).0 t in
    let (x, u) = (and_T (ltb 64 (length (kinds s))) (limited 32 (take 64 ms) && asked 32 (first (skip 64 s)))).0 v in
    let (y, z) = (and_T (limited 32 (take 64 ms)) (asked 32 (first (skip 64 s)))).0 u in
    (deep_right text (chain (kinds s)) 64 place (drop 65 ms) w x y z b m o, line_right (deep_at place) n ∙ l)
right i (enough_places a b k places) e =
    let (x, y) = (and_T (not (met a b k)) (leb (4 * total a b) (places + 3))).0 (passed i _ e) in
    places_enough a b k places ((different_right a b k).0 x) (leb-true (4 * total a b) (places + 3) ((T_true (leb (4 * total a b) (places + 3))).0 y))
right i (few_places a b k places line) e =
    let (p, l) = told_right (places_given places) _ line e in
    let (x, y) = (and_T (not (met a b k)) (ltb (places + 3) (4 * total a b))).0 p in
    (places_few a b k places ((different_right a b k).0 x) (ltb-true (places + 3) (4 * total a b) ((T_true (ltb (places + 3) (4 * total a b))).0 y)), l)
right i (enough_words ns w) e =
    let (x, y) = (and_T (is_well_formed 32 ns) (leb (4 * length ns) w)).0 (passed i _ e) in
    let (s, f, o) = table_right 32 ns x in
    evaluation.clean 32 ns w (record { some = s; few = f; lawful = o; room = leb-true (4 * length ns) w ((T_true (leb (4 * length ns) w)).0 y) })
right i (few_words ns w line) e =
    let (p, l) = told_right (words_given w) _ line e in
    let (x, y) = (and_T (is_well_formed 32 ns) (ltb w (4 * length ns))).0 p in
    let (s, f, o) = table_right 32 ns x in
    (evaluation.first_words 32 ns w s f o (ltb-true w (4 * length ns) ((T_true (ltb w (4 * length ns))).0 y)), l)

-- What comes out at the rows, the first of which has number i, and what is claimed of them.
abbrev pub outcomes : ℕ → List Row → List Outcome
outcomes i [] = []
outcomes i (r ∷ rs) = outcome i r ∷ outcomes (suc i) rs

abbrev pub claims : List Row → List Outcome
claims [] = []
claims (r ∷ rs) = claim r ∷ claims rs

pub each_right : (i : ℕ) (rs : List Row) → outcomes i rs ≡ claims rs → Each rs
each_right i [] e = tt
each_right i (r ∷ rs) e =
    let h : outcome i r ∷ outcomes (suc i) rs ≡ claim r ∷ claims rs = e in
    let x : outcome i r ≡ claim r = cc in
    let y : outcomes (suc i) rs ≡ claims rs = cc in
    (right i r x, each_right (suc i) rs y)
