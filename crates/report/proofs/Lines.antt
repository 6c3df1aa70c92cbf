-- The lines of a table's nodes, those before one of them, its own and those after it.
use Rattle.std.proofs.Common.{◌≡◌, ℕ, suc, ◌+◌, ◌<◌, List, [], ◌∷◌, ◌++◌, length, get_or, take, drop, sym, ap, ◌∙◌, append_assoc, arith}
use Rattle.std.proofs.lemmas.List.{append-nil, take_more, take-append-drop, drop_more, length-take}
use Rattle.kripke.specs.declared.node.Node.{Node}
use Rattle.report.specs.Text.{node_line, node_lines}

lines_append : (i : ℕ) (xs ys : List Node) → node_lines i (xs ++ ys) ≡ node_lines i xs ++ node_lines (i + length xs) ys
lines_append i [] ys = let e : i ≡ i + 0 = omega arith in ap (λ (j : ℕ). node_lines j ys) e
lines_append i (x ∷ xs) ys =
    let e : suc i + length xs ≡ i + suc (length xs) = omega arith in
    ap (λ z. node_line i x ++ z) (lines_append (suc i) xs ys ∙ ap (λ (j : ℕ). node_lines (suc i) xs ++ node_lines j ys) e)
    ∙ sym (append_assoc (node_line i x) (node_lines (suc i) xs) (node_lines (i + suc (length xs)) ys))

taken : (ns : List Node) (i : ℕ) → i < length ns → 0 + length (take i ns) ≡ i
taken ns i h = omega (arith, length-take i ns)

pub lines_more : (ns : List Node) (i : ℕ) (d : Node) → i < length ns → node_lines 0 (take (i + 1) ns) ≡ node_lines 0 (take i ns) ++ node_line i (get_or ns i d)
lines_more ns i d h =
    ap (node_lines 0) (take_more ns i d h) ∙ lines_append 0 (take i ns) (get_or ns i d ∷ [])
    ∙ ap (λ (j : ℕ). node_lines 0 (take i ns) ++ node_lines j (get_or ns i d ∷ [])) (taken ns i h)
    ∙ ap (λ z. node_lines 0 (take i ns) ++ z) (append-nil (node_line i (get_or ns i d)))

pub lines_split : (ns : List Node) (i : ℕ) (d : Node) → i < length ns
    → node_lines 0 (take i ns) ++ (node_line i (get_or ns i d) ++ node_lines (suc i) (drop (i + 1) ns)) ≡ node_lines 0 ns
lines_split ns i d h =
    ap (λ (j : ℕ). node_lines 0 (take i ns) ++ node_lines j (get_or ns i d ∷ drop (i + 1) ns)) (sym (taken ns i h))
    ∙ sym (lines_append 0 (take i ns) (get_or ns i d ∷ drop (i + 1) ns))
    ∙ ap (λ z. node_lines 0 (take i ns ++ z)) (sym (drop_more ns i d h)) ∙ ap (node_lines 0) (take-append-drop i ns)
