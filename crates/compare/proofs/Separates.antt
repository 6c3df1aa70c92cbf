-- The kept table of a comparison that is closed as different.
use Rattle.std.proofs.Common.{◌≡◌, ℕ, ◌+◌, ◌-◌, ◌<◌, ◌≤◌, false, not, ◌&&◌, T, ltb, leb, ◌↔◌, length, get_or, sym, subst, inl, inr, arith}
use Rattle.std.proofs.lemmas.Bool.{leb-true, ltb-true}
use Rattle.kripke.specs.Structure.{Member, size}
use Rattle.kripke.specs.Ctl.{Formula, Holds, NextOnly, nesting}
use Rattle.kripke.specs.Nodes.{blank_node, root}
use Rattle.kripke.specs.Rounds.{Separates, total}
use Rattle.kripke.specs.Union.{both}
use Rattle.kripke.specs.declared.node.Node.{Node}
use Rattle.kripke.proofs.Closing.{different_separated}
use Rattle.kripke.proofs.Numbers.{first_of, second_to}
use Rattle.kripke.proofs.Unions.{both_size, both_holds, both_closed}
use Rattle.refine.specs.Tests.{test}
use Rattle.refine.proofs.Orders.{Shape, always, asks, denies, joins, steps, shape, well_formed, next_only, and_T}
use Rattle.refine.proofs.Somes.{T-yes}
use Rattle.refine.proofs.Truth.{test_holds}
use Rattle.compare.specs.Closing.{level, separates_by_test}
use Rattle.compare.specs.Answers.{next_codes, Separating}
use Rattle.compare.specs.Calls.{first, second, questions, rounds, table}
use Rattle.compare.specs.declared.comparison.Comparison.{Comparison}
use Rattle.compare.proofs.Levels.{first_lawful, second_lawful}
use Rattle.compare.proofs.Rulings.{not_T, different_T, first_different}

coded : (q i : ℕ) (n : Node) → Shape q i n → Member n.code next_codes
coded q i n (always c a b) = inl c
coded q i n (asks c a b) = inr (inl c)
coded q i n (denies c a b) = inr (inr (inl c))
coded q i n (joins c a b) = inr (inr (inr (inl c)))
coded q i n (steps c a b) = inr (inr (inr (inr (inl c))))

module _ (c : Comparison) (e : level (first c) (second c) (rounds c) ≡ false) where
  kept_separates : T (separates_by_test (first c) (second c) (rounds c) (table c))
  kept_separates = c.kept.separating (different_T (first c) (second c) (rounds c) e)

  sized : T (ltb 0 (length (table c)) && leb (nesting (root (table c))) (rounds c))
  sized = (and_T _ _ kept_separates).0

  tested : T (test (both (first c) (second c)) (root (table c)) (first c).initial && not (test (both (first c) (second c)) (root (table c)) (size (first c) + (second c).initial)))
  tested = (and_T _ _ kept_separates).1

  some : 1 ≤ length (table c)
  some = ltb-true 0 (length (table c)) (T-yes _ (and_T _ _ sized).0)

  shallow : nesting (root (table c)) ≤ rounds c
  shallow = leb-true _ _ (T-yes _ (and_T _ _ sized).1)

  plain : NextOnly (root (table c))
  plain = next_only (questions c) (table c) c.kept.orderly (length (table c) - 1) (omega (arith, some))

  one_in : (first c).initial < total (first c) (second c)
  one_in = omega (arith, (first_lawful c.stages).begins)

  other_in : size (first c) + (second c).initial < total (first c) (second c)
  other_in = omega (arith, (second_lawful c.stages).begins)

  whole : (i : ℕ) → i < total (first c) (second c) → T (test (both (first c) (second c)) (root (table c)) i) ↔ Holds (both (first c) (second c)) (root (table c)) i
  whole i l = test_holds (both (first c) (second c)) (both_closed (first c) (second c) (first_lawful c.stages).closed (second_lawful c.stages).closed) (root (table c)) plain i
      (omega (arith, l, both_size (first c) (second c)))

  here : Holds (first c) (root (table c)) (first c).initial
  here = first_of (first c) (second c) (λ k s. Holds k (root (table c)) s) (first c).initial (first_lawful c.stages).begins
      ((both_holds (first c) (second c) (first_lawful c.stages).closed (second_lawful c.stages).closed (root (table c)) (first c).initial one_in).1
      ((whole (first c).initial one_in).0 (and_T _ _ tested).0))

  there : ¬ Holds (second c) (root (table c)) (second c).initial
  there h =
      let j : ℕ = size (first c) + (second c).initial in
      let z : size (first c) + (second c).initial - size (first c) ≡ (second c).initial = omega arith in
      not_T _ (and_T _ _ tested).1 ((whole j other_in).1
      ((both_holds (first c) (second c) (first_lawful c.stages).closed (second_lawful c.stages).closed (root (table c)) j other_in).0
      (second_to (first c) (second c) (λ k s. Holds k (root (table c)) s) j (omega arith) (subst (λ (s : ℕ). Holds (second c) (root (table c)) s) (sym z) h))))

  least : (f : Formula) → NextOnly f → Separates (first c) (second c) (first c).initial (second c).initial f → rounds c ≤ nesting f
  least = (different_separated (questions c) (first c) (second c) (first_lawful c.stages) (second_lawful c.stages) (rounds c)
      (first_different (questions c) (first c) (second c) (first_lawful c.stages) (second_lawful c.stages) (rounds c) c.open (different_T (first c) (second c) (rounds c) e)) (different_T (first c) (second c) (rounds c) e)).1

  pub separating : Separating (first c) (second c) (questions c) (rounds c) (table c)
  separating = record {
    some = some;
    few = c.kept.few;
    well_formed = well_formed (questions c) (table c) c.kept.orderly;
    next_only = λ i l. coded (questions c) i (get_or (table c) i blank_node) (shape (questions c) i (get_or (table c) i blank_node) (c.kept.orderly i l));
    useful = c.kept.useful;
    nests = omega (arith, shallow, least (root (table c)) plain (inl (here, there)));
    here = here;
    there = there;
    least = least;
  }
