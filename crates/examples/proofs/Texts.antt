-- The tests of texts are right.
use Rattle.std.proofs.Common.{◌≡◌, ℕ, zero, suc, ◌<◌, ◌≤◌, ◌&&◌, T, ltb, leb, List, [], ◌∷◌, ◌++◌, length, take, drop, sym, refl, ap, ◌∙◌, subst, arith}
use Rattle.std.proofs.lemmas.List.{take-append-drop}
use Rattle.std.proofs.lemmas.Bool.{leb-true, ltb-true}
use Rattle.kripke.specs.Ctl.{Formula}
use Rattle.kripke.specs.Nodes.{root}
use Rattle.kripke.specs.Refusals.{FirstBreachBy}
use Rattle.kripke.specs.declared.node.Node.{Node}
use Rattle.kripke.specs.declared.refusal.Cause.TheVariants.{TooDeep}
use Rattle.kripke.specs.declared.refusal.Layer.TheVariants as layer
use Rattle.kripke.proofs.Reflect.{T_true, and_T}
use Rattle.reader.specs.Tokens.{Stream, done, next, tokens, first, offset, kinds, After}
use Rattle.reader.specs.Grammar.{Mark, mark, marks, toks, whole, Asked, All, Within}
use Rattle.reader.specs.Table.{table}
use Rattle.reader.specs.Breaches.{Limited, TextBreach, Sooner}
use Rattle.reader.specs.Phrases as why
use Rattle.reader.specs.declared.token.Token.{Token}
use Rattle.reader.specs.declared.token.Token.TheVariants as token
use Rattle.reader.proofs.Lawful.{well_formed}
use Rattle.reader.proofs.Verdicts.{one_formula, clean, first_breach}
use Rattle.examples.specs.Rows.{Read}
use Rattle.examples.proofs.Tests.{asked, limited, skip}

asked_right : (q : ℕ) (t : Token) → T (asked q t) → Asked q t
asked_right q token.Truth t = tt
asked_right q (token.Question j) t = ltb-true j q ((T_true (ltb j q)).0 t)
asked_right q (token.Unary u) t = tt
asked_right q (token.Alone p) t = tt
asked_right q (token.Sign s) t = tt
asked_right q token.Other t = tt
asked_right q token.End t = tt

limited_right : (q : ℕ) (ms : List Mark) → T (limited q ms) → All q ms
limited_right q [] t = tt
limited_right q (mark x l ∷ ms) t =
    let (u, v) = (and_T (leb l 64 && asked q x) (limited q ms)).0 t in
    let (m, n) = (and_T (leb l 64) (asked q x)).0 u in
    ((leb-true l 64 ((T_true (leb l 64)).0 m), asked_right q x n), limited_right q ms v)

short : (text : List ℕ) → T (leb (length text) 4096) → Limited text 32
short text t = record { short = leb-true (length text) 4096 ((T_true (leb (length text) 4096)).0 t); some = omega arith; few = omega arith }

-- Read as the formula of the nodes, which are its table.
pub reads_right : (text : List ℕ) (ns : List Node) → T (leb (length text) 4096) → T (leb (length ns) 2045) → T (limited 32 (marks 1 (root ns)))
    → kinds (tokens 0 0 text) ≡ toks (whole (root ns)) → table (root ns) ≡ ns → (before : List Node) → length ns ≤ length before → Read text ns before
reads_right text ns t u v is same before room = record {
  clean = clean text 32 (length before) (short text t) f is within (omega (arith, long, room)) (omega (arith, long, leb-true (length ns) 2045 ((T_true (leb (length ns) 2045)).0 u)));
  read = record {
    formula = f;
    sentence = is;
    within = within;
    only = λ g h. one_formula text g f h is;
    counted = ap (λ l. length l) (sym same);
    written = ap (λ l. l ++ drop (length ns) before) (sym same);
    rooted = ap root same;
    ordered = well_formed 32 f within;
  };
}
  where
    f : Formula
    f = root ns

    within : Within 32 f
    within = limited_right 32 (marks 1 f) v

    long : length (table f) ≡ length ns
    long = ap (λ l. length l) same

toks-take : (n : ℕ) (ms : List Mark) → toks (take n ms) ≡ take n (toks ms)
toks-take zero ms = refl
toks-take (suc n) [] = refl
toks-take (suc n) (mark t l ∷ ms) = ap (λ ts. t ∷ ts) (toks-take n ms)

-- The tokens up to the end are followed by those that are skipped to.
after_skip : (n : ℕ) (s : Stream) → n < length (kinds s) → After s (take n (kinds s)) (skip n s)
after_skip zero s h = refl
after_skip (suc n) (done o) h = absurd (omega arith)
after_skip (suc n) (next o t s) h = (refl, after_skip n s (omega arith))

-- A subformula of f begins at level 65 with token n.
pub deep_right : (text : List ℕ) (f : Formula) (n place : ℕ) (v : List Mark) → T (leb (length text) 4096) → T (ltb n (length (kinds (tokens 0 0 text))))
    → T (limited 32 (take n (whole f))) → T (asked 32 (first (skip n (tokens 0 0 text)))) → kinds (tokens 0 0 text) ≡ toks (whole f)
    → drop n (whole f) ≡ mark (first (skip n (tokens 0 0 text))) 65 ∷ v → offset (skip n (tokens 0 0 text)) ≡ place
    → (places : ℕ) → FirstBreachBy Sooner (TextBreach text 32 places) layer.Text (record { cause = TooDeep; layer = layer.Text; place = place })
deep_right text f n place v t u x y is w here places =
    first_breach text 32 places (short text t) _ (record {
      pre = take n (whole f);
      w = drop n (whole f);
      value = (f, tt);
      at = skip n s;
      after = subst (λ ts. After s ts (skip n s)) (ap (take n) is ∙ sym (toks-take n (whole f))) (after_skip n s (ltb-true n (length (kinds s)) ((T_true (ltb n (length (kinds s)))).0 u)));
      good = limited_right 32 (take n (whole f)) x;
      spelt = take-append-drop n (whole f);
      here = here;
      layered = refl;
      why = why.deep v w (asked_right 32 (first (skip n s)) y);
    })
  where
    s : Stream
    s = tokens 0 0 text
