-- What is spelt one after another.
use Rattle.std.proofs.Common.{◌≡◌, ℕ, ◌+◌, ◌≤◌, List, [], ◌∷◌, ◌++◌, length, Ok, Err, Result, sym, refl, ap, ◌∙◌, append_assoc, arith}
use Rattle.std.proofs.lemmas.List.{length-append}
use Rattle.kripke.specs.Ctl.{Formula, truth, question, not, and, or, EX, AX, EF, AF, EG, AG, EU, AU}
use Rattle.reader.specs.declared.token.Token.{Token}
use Rattle.reader.specs.Grammar.{Mark, marks, toks, All}
use Rattle.reader.proofs.Phrases.{toks-append, all_append, all_left, all_right}
use Rattle.printer.specs.declared.writer.Stop.{Stop}
use Rattle.printer.specs.declared.writer.Stop.TheVariants.{Limit, Memory}
use Rattle.printer.specs.Spelling.{spell, spelt}
use Rattle.printer.specs.Writing.{Appends, Spelt, Spells}

spelt_tokens : (ts us : List Token) → spelt (ts ++ us) ≡ spelt ts ++ spelt us
spelt_tokens [] us = refl
spelt_tokens (t ∷ ts) us = ap (λ l. spell t ++ l) (spelt_tokens ts us) ∙ sym (append_assoc (spell t) (spelt ts) (spelt us))

spelt-append : (ms ns : List Mark) → spelt (toks (ms ++ ns)) ≡ spelt (toks ms) ++ spelt (toks ns)
spelt-append ms ns = ap spelt (toks-append ms ns) ∙ spelt_tokens (toks ms) (toks ns)

length-spelt : (ms ns : List Mark) → length (spelt (toks (ms ++ ns))) ≡ length (spelt (toks ms)) + length (spelt (toks ns))
length-spelt ms ns = ap length (spelt-append ms ns) ∙ length-append (spelt (toks ms)) (spelt (toks ns))

-- Marks that are appended, as a text that they are spelt as.
pub appended : (q : ℕ) (before : List ℕ) (ms : List Mark) (text after : List ℕ) (r : Result (Unit {0}) Stop) → All q ms → text ≡ spelt (toks ms)
    → Appends before text after r → Spells q before ms after r
appended q before ms text after (Ok x) al e h =
    record { is = h.0 ∙ ap (λ l. before ++ l) e; fits = (al, omega (arith, ap length h.0, length-append before text, ap length e, h.1)) }
appended q before ms text after (Err Limit) al e h = λ fits. omega (arith, ap length e, fits.1)
appended q before ms text after (Err (Memory m)) al e h = tt

-- Marks, and then more of them; and a stop at the first.
pub then : (q : ℕ) (b b1 b2 : List ℕ) (ms ns : List Mark) (r : Result (Unit {0}) Stop) → Spelt q b ms b1 → Spells q b1 ns b2 r → Spells q b (ms ++ ns) b2 r
then q b b1 b2 ms ns (Ok x) h g =
    record {
      is = g.is ∙ ap (λ l. l ++ spelt (toks ns)) h.is ∙ append_assoc b (spelt (toks ms)) (spelt (toks ns)) ∙ ap (λ l. b ++ l) (sym (spelt-append ms ns));
      fits = (
        all_append q ms ns h.fits.0 g.fits.0,
        omega (arith, ap length h.is, length-append b (spelt (toks ms)), length-spelt ms ns, g.fits.1),
      );
    }
then q b b1 b2 ms ns (Err Limit) h g = λ fits.
    g (all_right q ms ns fits.0, omega (arith, ap length h.is, length-append b (spelt (toks ms)), length-spelt ms ns, fits.1))
then q b b1 b2 ms ns (Err (Memory m)) h g = tt

pub stop : (q : ℕ) (b b1 : List ℕ) (ms ns : List Mark) (e : Stop) → Spells q b ms b1 (Err e) → Spells q b (ms ++ ns) b1 (Err e)
stop q b b1 ms ns Limit h = λ fits. h (all_left q ms ns fits.0, omega (arith, length-spelt ms ns, fits.1))
stop q b b1 ms ns (Memory m) h = tt

-- A formula at level l has no level above l.
pub level : (c l : ℕ) (f : Formula) → All c (marks l f) → l ≤ 64
level c l truth h = h.0.0
level c l (question j) h = h.0.0
level c l (not f) h = h.0.0
level c l (and f g) h = h.0.0
level c l (or f g) h = h.0.0
level c l (EX f) h = h.0.0
level c l (AX f) h = h.0.0
level c l (EF f) h = h.0.0
level c l (AF f) h = h.0.0
level c l (EG f) h = h.0.0
level c l (AG f) h = h.0.0
level c l (EU f g) h = h.0.0
level c l (AU f g) h = h.0.0
