-- One token read where a sign, a link or a formula is to begin.
use Rattle.std.proofs.Common.{◌≡◌, ℕ, ◌≤◌, List, [], ◌∷◌, Some, None, sym, refl, ap, ◌∙◌, subst, ◌≢◌}
use Rattle.kripke.specs.Ctl.{Formula, question}
use Rattle.kripke.specs.declared.refusal.Cause.TheVariants as cause
use Rattle.reader.specs.declared.token.Token.{Token}
use Rattle.reader.specs.declared.token.Token.TheVariants as token
use Rattle.reader.specs.declared.token.Sign.{Sign}
use Rattle.reader.specs.declared.token.Sign.TheVariants as sign
use Rattle.reader.specs.declared.head.Opening.TheVariants.{Pair, Until}
use Rattle.reader.specs.declared.head.Head.{Head}
use Rattle.reader.specs.declared.head.Head.TheVariants as head
use Rattle.reader.specs.Tokens.{Stream, first}
use Rattle.reader.specs.Grammar.{mark, marks, Asked}
use Rattle.reader.specs.Phrases.{Exact, Signed, Link, conj, disj, linking, Linked, Form, opening, head_of, unasked, deep, Refused}
use Rattle.reader.proofs.Phrases.{clash, text_refusal, nothing_taken}
use Rattle.reader.proofs.Heads.{Tail, built, built_marks, no_head}

-- A sign.
pub sign_refused : (s : Stream) (g : Sign) → first s ≢ token.Sign g → (c : ℕ) → Refused (Signed g) c s (text_refusal cause.Unexpected s)
sign_refused s g never c = nothing_taken (Signed g) c s (λ y r v h. never (cc))

-- The end.
pub end_refused : (s : Stream) → first s ≢ token.End → (c : ℕ) → Refused (Exact token.End) c s (text_refusal cause.Unexpected s)
end_refused s never c = nothing_taken (Exact token.End) c s (λ y r v h. never (cc))

-- A link.
pub link_refused : (s : Stream) → first s ≢ token.Sign sign.And → first s ≢ token.Sign sign.Or → (c : ℕ) → Refused Linked c s (text_refusal cause.Unexpected s)
link_refused s never never' c = nothing_taken Linked c s go
  where
    go : (k : Link) (r v : List Token) → first s ∷ v ≢ token.Sign (linking k) ∷ r
    go conj r v h = never (cc)
    go disj r v h = never' (cc)

-- The first token of a formula.
pub head_forth : (t : Token) (h : Head) → head_of t ≡ Some h → opening h ≡ t
head_forth token.Truth h e = let z : head.Truth ≡ h = cc in ap opening (sym z)
head_forth (token.Question j) h e = let z : head.Question j ≡ h = cc in ap opening (sym z)
head_forth (token.Unary u) h e = let z : head.Unary u ≡ h = cc in ap opening (sym z)
head_forth (token.Alone q) h e = let z : head.Binary (Until q) ≡ h = cc in ap opening (sym z)
head_forth (token.Sign sign.And) h e = clash cc
head_forth (token.Sign sign.Or) h e = clash cc
head_forth (token.Sign sign.Open) h e = let z : head.Binary Pair ≡ h = cc in ap opening (sym z)
head_forth (token.Sign sign.Close) h e = clash cc
head_forth (token.Sign sign.Left) h e = clash cc
head_forth (token.Sign sign.Right) h e = clash cc
head_forth (token.Sign sign.Until) h e = clash cc
head_forth token.Other h e = clash cc
head_forth token.End h e = clash cc

pub not_begun : (c l : ℕ) (s : Stream) → head_of (first s) ≡ None → Refused (Form l) c s (text_refusal cause.Unexpected s)
not_begun c l s n = nothing_taken (Form l) c s (no_head l (first s) n)

pub unasked_begun : (c l : ℕ) (s : Stream) (j : ℕ) → first s ≡ token.Question j → c ≤ j → Refused (Form l) c s (text_refusal cause.QuestionNumber s)
unasked_begun c l s j h le = record {
  pre = [];
  w = marks l (question j);
  value = question j;
  at = s;
  after = refl;
  good = tt;
  spelt = refl;
  here = refl;
  layered = refl;
  why = unasked [] l j (ap (λ t. mark t l ∷ []) (sym h)) h le;
}

pub deep_begun : (c l : ℕ) (s : Stream) (h : Head) → l ≡ 65 → first s ≡ opening h → Asked c (opening h) → Refused (Form l) c s (text_refusal cause.TooDeep s)
deep_begun c l s h is g ok = subst (λ (n : ℕ). Refused (Form n) c s (text_refusal cause.TooDeep s)) (sym is) (record {
  pre = [];
  w = marks 65 f;
  value = f;
  at = s;
  after = refl;
  good = tt;
  spelt = refl;
  here = refl;
  layered = refl;
  why = deep ((Tail 66 h).mk (Tail 66 h).any) (built_marks 65 h (Tail 66 h).any ∙ ap (λ t. mark t 65 ∷ (Tail 66 h).mk (Tail 66 h).any) (sym g)) (subst (Asked c) (sym g) ok);
})
  where
    f : Formula
    f = built 66 h (Tail 66 h).any
