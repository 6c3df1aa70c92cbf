-- Nodes written one after another.
use Rattle.std.proofs.Common.{◌≡◌, ℕ, suc, ◌+◌, ◌≤◌, List, [], ◌∷◌, ◌++◌, length, take, drop, set, sym, refl, ap, ◌∙◌, append_assoc, add-one, arith}
use Rattle.std.proofs.lemmas.List.{take-append-drop, length-set, take_more_set, drop-set-lt}
use Rattle.kripke.specs.declared.node.Node.{Node}
use Rattle.reader.specs.Table.{laid}

pub laid-append : (xs : List Node) (i : ℕ) (a b : List Node) → laid xs i (a ++ b) ≡ laid (laid xs i a) (i + length a) b
unfolding laid
laid-append xs i [] b = let e : i ≡ i + 0 = omega arith in ap (λ (k : ℕ). laid xs k b) e
laid-append xs i (n ∷ a) b =
    laid-append (set xs i n) (suc i) a b
    ∙ (let e : suc i + length a ≡ i + suc (length a) = omega arith in ap (λ (k : ℕ). laid (laid (set xs i n) (suc i) a) k b) e)

pub laid_one : (xs : List Node) (i : ℕ) (n : Node) → laid xs i (n ∷ []) ≡ set xs i n
unfolding laid
laid_one xs i n = refl

pub laid_whole : (xs : List Node) (i : ℕ) (ns : List Node) → i + length ns ≤ length xs → laid xs i ns ≡ take i xs ++ (ns ++ drop (i + length ns) xs)
unfolding laid
laid_whole xs i [] h = sym (take-append-drop i xs) ∙ (let e : i ≡ i + 0 = omega arith in ap (λ (k : ℕ). take i xs ++ drop k xs) e)
laid_whole xs i (n ∷ ns) h =
    let l = length-set xs i n in
    let e : suc i + length ns ≡ i + suc (length ns) = omega arith in
    laid_whole (set xs i n) (suc i) ns (omega arith)
    ∙ ap (λ (t : List Node). t ++ (ns ++ drop (suc i + length ns) (set xs i n))) (ap (λ (k : ℕ). take k (set xs i n)) (sym (add-one i)) ∙ take_more_set xs i n (omega arith))
    ∙ append_assoc (take i xs) (n ∷ []) (ns ++ drop (suc i + length ns) (set xs i n))
    ∙ ap (λ (t : List Node). take i xs ++ (n ∷ (ns ++ t))) (drop-set-lt (suc i + length ns) xs i n (omega arith) ∙ ap (λ (k : ℕ). drop k xs) e)
