-- How many nodes a text can have.
use Rattle.std.proofs.Common.{◌≡◌, ℕ, zero, suc, ◌+◌, ◌-◌, ◌≤◌, Bool, true, false, cond, eqb, List, [], ◌∷◌, ◌++◌, length, refl, ap, ◌∙◌, arith}
use Rattle.std.proofs.lemmas.List.{length-append}
use Rattle.kripke.specs.Ctl.{Formula}
use Rattle.kripke.specs.Nodes.{code_of}
use Rattle.reader.specs.declared.token.Token.{Token}
use Rattle.reader.specs.declared.token.Token.TheVariants as token
use Rattle.reader.specs.declared.token.Unary.{Unary}
use Rattle.reader.specs.declared.head.Opening.{Opening}
use Rattle.reader.specs.declared.head.Head.{Head}
use Rattle.reader.specs.declared.head.Head.TheVariants as head
use Rattle.kripke.specs.declared.node.Node.{Node}
use Rattle.reader.specs.Tokens.{Stream, next, lex, kinds, After, tokens}
use Rattle.reader.specs.Grammar.{Mark, mark, marks, toks}
use Rattle.reader.specs.Phrases.{Phrase, Form, Opened, Middle, closing, joined, joined_by, applied, applied_by, opening, Taken, Begun}
use Rattle.reader.specs.Reading.{Laying}
use Rattle.reader.specs.Table.{node, nodes}
use Rattle.reader.proofs.Streams.{after_kinds}
use Rattle.reader.proofs.Heads.{built_marks, induction}
use Rattle.reader.proofs.Tables.{applied_nodes, joined_nodes}

-- A text has no more tokens than bytes, and its end.
pub few_tokens : (k o : ℕ) (bs : List ℕ) → length (kinds (tokens k o bs)) ≤ length bs + 1
unfolding tokens
few_tokens k o [] = omega arith
few_tokens (suc k) o (b ∷ bs) = omega (arith, few_tokens k (suc o) bs)
few_tokens zero o (b ∷ bs) = go (eqb b 32) (few_tokens 0 (suc o) bs) (few_tokens ((lex (b ∷ bs)).1 - 1) (suc o) bs)
  where
    go : (x : Bool) → length (kinds (tokens 0 (suc o) bs)) ≤ length bs + 1 → length (kinds (tokens ((lex (b ∷ bs)).1 - 1) (suc o) bs)) ≤ length bs + 1
        → length (kinds (cond x (tokens 0 (suc o) bs) (next o (lex (b ∷ bs)).0 (tokens ((lex (b ∷ bs)).1 - 1) (suc o) bs)))) ≤ suc (length bs) + 1
    go true h g = omega arith
    go false h g = omega arith

tokens_left : (s : Stream) (ts : List Token) (s' : Stream) → After s ts s' → length (kinds s) ≡ length ts + length (kinds s')
tokens_left s ts s' h = ap length (after_kinds s ts s' h) ∙ length-append ts (kinds s')

-- A formula has no more nodes than tokens.
length-toks : (ms : List Mark) → length (toks ms) ≡ length ms
length-toks [] = refl
length-toks (mark t l ∷ ms) = ap suc (length-toks ms)

abbrev Fits : Formula → Type 0
Fits f = (l i : ℕ) → length (nodes i f) ≤ length (marks l f)

applied_fits : (u : Unary) (f : Formula) → Fits f → Fits (applied u f)
applied_fits u f h l i = omega (
  arith,
  h (suc l) i,
  ap length (applied_nodes i u f),
  length-append (nodes i f) (node (code_of (applied_by u)) (i + length (nodes i f) - 1) 0 ∷ []),
  ap length (built_marks l (head.Unary u) f),
)

joined_fits : (o : Opening) (m : (Middle o).A) (f g : Formula) → Fits f → Fits g → Fits (joined o m f g)
joined_fits o m f g h k l i =
    let ns = nodes i f in
    let ms = nodes (i + length ns) g in
    let n = node (code_of (joined_by o m)) (i + length ns - 1) (i + length ns + length ms - 1) in
    let last = mark (token.Sign (closing o)) 0 ∷ [] in
    omega (
      arith,
      h (suc l) i,
      k (suc l) (i + length ns),
      ap length (joined_nodes i o m f g),
      length-append ns (ms ++ (n ∷ [])),
      length-append ms (n ∷ []),
      ap length (built_marks l (head.Binary o) ((Opened o).any, (f, (m, (g, tt))))),
      length-append ((Opened o).mk (Opened o).any) (marks (suc l) f ++ ((Middle o).mk m ++ (marks (suc l) g ++ last))),
      length-append (marks (suc l) f) ((Middle o).mk m ++ (marks (suc l) g ++ last)),
      length-append ((Middle o).mk m) (marks (suc l) g ++ last),
      length-append (marks (suc l) g) last,
    )

fits : (f : Formula) → Fits f
fits = induction Fits (λ l i. omega arith) (λ j l i. omega arith) applied_fits joined_fits

nodes_left : (f : Formula) (l i : ℕ) (s s' : Stream) → After s (toks (marks l f)) s' → length (nodes i f) + length (kinds s') ≤ length (kinds s)
nodes_left f l i s s' h = omega (arith, tokens_left s (toks (marks l f)) s' h, length-toks (marks l f), fits f l i)

-- What is left of a stream after the first token of a formula, after a phrase, and after a formula whose nodes have been made.
pub head_left : (c l : ℕ) (s s' : Stream) (h : Head) → Begun c l s h s' → length (kinds s) ≡ 1 + length (kinds s')
head_left c l s s' h b = tokens_left s (opening h ∷ []) s' b.after

pub phrase_left : {R : Type 0} (P : Phrase) (Is : P.A → R → Type 0) (c : ℕ) (s s' : Stream) (r : R) → Taken {R = R} P Is c s r s' → length (kinds s') ≤ length (kinds s)
phrase_left P Is c s s' r t = omega (arith, tokens_left s (toks (P.mk t.value)) s' t.after)

pub formula_left : (c l i : ℕ) (before : List Node) (i' : ℕ) (after : List Node) (s s' : Stream) (own : ℕ) → Taken {R = ℕ} (Form l) (λ f own. Laying i before f own i' after) c s own s'
    → i' + length (kinds s') ≤ i + length (kinds s)
formula_left c l i before i' after s s' own t = omega (arith, t.is.counted, nodes_left t.value l i s s' t.after)
