-- What is printed is read back.
use Rattle.std.proofs.Common.{◌≡◌, ℕ, ◌<◌, ◌⊎◌, List, [], ◌++◌, length, take, drop, Ok, Err, sym, refl, ap, ◌∙◌, subst, arith}
use Rattle.std.proofs.lemmas.List.{take_at}
use Rattle.kripke.specs.Ctl.{Formula}
use Rattle.kripke.specs.Nodes.{root}
use Rattle.kripke.specs.Refusals.{number_of}
use Rattle.kripke.specs.declared.node.Node.{Node}
use Rattle.kripke.specs.declared.refusal.Cause.{Cause}
use Rattle.kripke.specs.declared.refusal.Cause.TheVariants as cause
use Rattle.reader.specs.Grammar.{marks, Sentence}
use Rattle.reader.specs.Breaches.{Limited, TextBreach, long, unlimited, unexpected, unasked, deep, many}
use Rattle.reader.specs.Table.{table}
use Rattle.reader.proofs.Verdicts.{one_formula, spotless}
use Rattle.printer.specs.Spelling.{shown}
use Rattle.printer.specs.Writing.{Fits, Spelt}
use Rattle.printer.specs.Printed.{InOrder, Printable, TextOf}
use Rattle.printer.specs.Theorems.{ReadBack}
use Rattle.printer.proofs.Sentences.{sentence}

-- What has been written from the first byte on is the text of a printable table; what does not fit is of none.
pub printed : (q : ℕ) (ns : List Node) (before text : List ℕ) → InOrder q ns → before ≡ [] → Spelt q before (marks 1 (root ns)) text → TextOf q ns text
printed q ns before text table e h =
    let is : text ≡ shown (root ns) = h.is ∙ ap (λ l. l ++ shown (root ns)) e in
    record {
      printable = record { table = table; within = h.fits.0; short = omega (arith, h.fits.1, ap length e) };
      is = is;
      sentence = subst (λ (t : List ℕ). Sentence t (root ns)) (sym is) (sentence q (root ns) (omega arith) h.fits.0);
    }

pub unprintable : (q : ℕ) (ns : List Node) (before : List ℕ) → before ≡ [] → (¬ Fits q before (marks 1 (root ns))) → ¬ Printable q ns
unprintable q ns before e h p = h (p.within, omega (arith, p.short, ap length e))

-- Its breaches: too many nodes.
module _ (q : ℕ) (ns : List Node) (text : List ℕ) (t : TextOf q ns text) (places : ℕ) where
  limited : Limited text q
  limited = record { short = omega (arith, ap length t.is, t.printable.short); some = t.printable.table.some; few = t.printable.table.few }

  clear : (d : Cause) (p : ℕ) → number_of d < 13 → ¬ TextBreach text q places d p
  clear = spotless text q places limited (root ns) t.sentence t.printable.within

  many_only : (d : Cause) (p : ℕ) → TextBreach text q places d p → (d ≡ cause.ManyNodes) × ((places < length (table (root ns))) ⊎ (2045 < length (table (root ns))))
  many_only d p (long h) = absurd (clear d p (omega arith) (long h))
  many_only d p (unlimited h) = absurd (clear d p (omega arith) (unlimited h))
  many_only d p (unexpected ts s h v w) = absurd (clear d p (omega arith) (unexpected ts s h v w))
  many_only d p (unasked ts s j h e v l) = absurd (clear d p (omega arith) (unasked ts s j h e v l))
  many_only d p (deep ts s g ps qs h e k) = absurd (clear d p (omega arith) (deep ts s g ps qs h e k))
  many_only d p (many f is l) =
      (refl, subst (λ (g : Formula). (places < length (table g)) ⊎ (2045 < length (table g))) (one_formula text f (root ns) is t.sentence) l)

pub read_back : ReadBack
read_back q ns text t before after (Ok n) h =
    let z = h.1 in
    let taken : take n after ≡ table z.formula = ap (take n) z.written ∙ take_at (table z.formula) (drop n before) n (sym z.counted) in
    ap root taken ∙ z.rooted ∙ sym (z.only (root ns) t.sentence)
read_back q ns text t before after (Err e) h = many_only q ns text t (length before) e.cause e.place h.0.broken
