-- The nodes of a formula within the limits are well-formed.
use Rattle.std.proofs.Common.{◌≡◌, ℕ, zero, suc, ◌+◌, ◌-◌, ◌<◌, List, [], ◌∷◌, ◌++◌, length, get_or, sym, refl, subst, ⊎_elim, arith}
use Rattle.std.proofs.lemmas.List.{length-append, get_or_append_left, get_or-append_right}
use Rattle.std.proofs.lemmas.Bool.{cases_lt}
use Rattle.kripke.specs.Ctl.{Formula}
use Rattle.kripke.specs.Nodes.{code_of, LawfulNode, blank_node, WellFormed}
use Rattle.kripke.specs.declared.node.Node.{Node}
use Rattle.reader.specs.declared.token.Token.TheVariants as token
use Rattle.reader.specs.declared.token.Unary.{Unary}
use Rattle.reader.specs.declared.token.Unary.TheVariants as unary
use Rattle.kripke.specs.declared.quantifier.Quantifier.TheVariants.{Exists, ForAll}
use Rattle.reader.specs.declared.head.Opening.{Opening}
use Rattle.reader.specs.declared.head.Opening.TheVariants.{Pair, Until}
use Rattle.reader.specs.declared.head.Head.TheVariants as head
use Rattle.reader.specs.Grammar.{mark, marks, All, Within}
use Rattle.reader.specs.Phrases.{conj, disj, Opened, Middle, closing, applied, applied_by, joined, joined_by}
use Rattle.reader.specs.Table.{node, nodes, table}
use Rattle.reader.proofs.Phrases.{all_left, all_right}
use Rattle.reader.proofs.Heads.{built_marks, induction}
use Rattle.reader.proofs.Tables.{applied_nodes, joined_nodes, some_node}

-- Nodes numbered from i on are in order.
abbrev Ordered-from : ℕ → ℕ → List Node → Type 0
Ordered-from q i ns = (k : ℕ) → k < length ns → LawfulNode q (i + k) (get_or ns k blank_node)

append_ordered : (q i : ℕ) (a b : List Node) → Ordered-from q i a → Ordered-from q (i + length a) b → Ordered-from q i (a ++ b)
append_ordered q i a b ha hb k l = ⊎_elim
    (λ h. subst (LawfulNode q (i + k)) (sym (get_or_append_left a b blank_node k h)) (ha k h))
    (λ h.
    let at : i + length a + (k - length a) ≡ i + k = omega arith in
    subst (LawfulNode q (i + k)) (sym (get_or-append_right a b (length a) k blank_node refl h))
    (subst (λ (m : ℕ). LawfulNode q m (get_or b (k - length a) blank_node)) at (hb (k - length a) (omega (arith, length-append a b)))))
    (cases_lt k (length a))

one_ordered : (q i : ℕ) (n : Node) → LawfulNode q i n → Ordered-from q i (n ∷ [])
one_ordered q i n h zero l = let e : i ≡ i + 0 = omega arith in subst (λ (m : ℕ). LawfulNode q m n) e h
one_ordered q i n h (suc k) l = absurd (omega arith)

applied_lawful : (q i a : ℕ) (u : Unary) → a < i → LawfulNode q i (node (code_of (applied_by u)) a 0)
applied_lawful q i a unary.Not h = (omega arith, (h, refl))
applied_lawful q i a unary.EX h = (omega arith, (h, refl))
applied_lawful q i a unary.AX h = (omega arith, (h, refl))
applied_lawful q i a unary.EF h = (omega arith, (h, refl))
applied_lawful q i a unary.AF h = (omega arith, (h, refl))
applied_lawful q i a unary.EG h = (omega arith, (h, refl))
applied_lawful q i a unary.AG h = (omega arith, (h, refl))

joined_lawful : (q i a b : ℕ) (o : Opening) (m : (Middle o).A) → a < i → b < i → LawfulNode q i (node (code_of (joined_by o m)) a b)
joined_lawful q i a b Pair conj h g = (omega arith, (h, g))
joined_lawful q i a b Pair disj h g = (omega arith, (h, g))
joined_lawful q i a b (Until Exists) m h g = (omega arith, (h, g))
joined_lawful q i a b (Until ForAll) m h g = (omega arith, (h, g))

abbrev Lawful-from : ℕ → Formula → Type 0
Lawful-from q f = (l i : ℕ) → All q (marks l f) → Ordered-from q i (nodes i f)

lawful_applied : (q : ℕ) (u : Unary) (f : Formula) → Lawful-from q f → Lawful-from q (applied u f)
lawful_applied q u f h l i al =
    let some = some_node f i in
    subst (Ordered-from q i) (sym (applied_nodes i u f))
    (append_ordered q i (nodes i f) (node (code_of (applied_by u)) (i + length (nodes i f) - 1) 0 ∷ []) (h (suc l) i (subst (All q) (built_marks l (head.Unary u) f) al).1)
    (one_ordered q (i + length (nodes i f)) _ (applied_lawful q (i + length (nodes i f)) _ u (omega arith))))

lawful_joined : (q : ℕ) (o : Opening) (m : (Middle o).A) (f g : Formula) → Lawful-from q f → Lawful-from q g → Lawful-from q (joined o m f g)
lawful_joined q o m f g h k l i al =
    let ns : List Node = nodes i f in
    let ms : List Node = nodes (i + length ns) g in
    let n : Node = node (code_of (joined_by o m)) (i + length ns - 1) (i + length ns + length ms - 1) in
    let some = some_node f i in
    let more = some_node g (i + length ns) in
    let after = all_right q ((Opened o).mk (Opened o).any) _ (subst (All q) (built_marks l (head.Binary o) ((Opened o).any, (f, (m, (g, tt))))) al).1 in
    let second = all_right q ((Middle o).mk m) (marks (suc l) g ++ (mark (token.Sign (closing o)) 0 ∷ [])) (all_right q (marks (suc l) f) _ after) in
    subst (Ordered-from q i) (sym (joined_nodes i o m f g))
    (append_ordered q i ns (ms ++ (n ∷ [])) (h (suc l) i (all_left q (marks (suc l) f) _ after))
    (append_ordered q (i + length ns) ms (n ∷ []) (k (suc l) (i + length ns) (all_left q (marks (suc l) g) (mark (token.Sign (closing o)) 0 ∷ []) second))
    (one_ordered q (i + length ns + length ms) n (joined_lawful q (i + length ns + length ms) _ _ o m (omega arith) (omega arith)))))

lawful_from : (q : ℕ) (f : Formula) → Lawful-from q f
lawful_from q = induction (Lawful-from q)
    (λ l i al. one_ordered q i _ (omega arith, (refl, refl)))
    (λ j l i al. one_ordered q i _ (omega arith, (al.0.1, refl)))
    (lawful_applied q) (lawful_joined q)

pub well_formed : (q : ℕ) (f : Formula) → Within q f → WellFormed q (table f)
well_formed q f al i h = let e : 0 + i ≡ i = omega arith in subst (λ (k : ℕ). LawfulNode q k (get_or (table f) i blank_node)) e (lawful_from q f 1 0 al i h)
