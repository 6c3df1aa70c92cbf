-- The nodes of a formula, made after those of its arguments.
use Rattle.std.proofs.Common.{◌≡◌, ℕ, ◌+◌, ◌-◌, List, [], ◌∷◌, ◌++◌, length, set, sym, ap, ◌∙◌, arith}
use Rattle.std.proofs.lemmas.List.{length-append}
use Rattle.kripke.specs.Ctl.{Formula}
use Rattle.kripke.specs.Nodes.{code_of}
use Rattle.kripke.specs.declared.node.Node.{Node}
use Rattle.reader.specs.declared.token.Unary.{Unary}
use Rattle.reader.specs.declared.head.Opening.{Opening}
use Rattle.reader.specs.Table.{node, two, nodes, laid}
use Rattle.reader.specs.Phrases.{Middle, joined, joined_by, applied, applied_by}
use Rattle.reader.specs.Reading.{Laying, Pushed}
use Rattle.reader.proofs.Tables.{applied_nodes, joined_nodes}
use Rattle.reader.proofs.Places.{laid-append, laid_one}

pub leaf_laid : (i : ℕ) (p0 : List Node) (f : Formula) (n : Node) (own i1 : ℕ) (p1 : List Node) → nodes i f ≡ n ∷ [] → Pushed i p0 n own i1 p1 → Laying i p0 f own i1 p1
leaf_laid i p0 f n own i1 p1 e p = record {
  last = omega (arith, p.own-is, p.counted);
  counted = p.counted ∙ ap (λ (ns : List Node). i + length ns) (sym e);
  written = p.written ∙ sym (laid_one p0 i n) ∙ ap (laid p0 i) (sym e);
}

pub applied_laid : (i : ℕ) (p0 : List Node) (u : Unary) (f : Formula) (a i1 : ℕ) (p1 : List Node) (n : Node) (own i2 : ℕ) (p2 : List Node) → Laying i p0 f a i1 p1
    → n ≡ node (code_of (applied_by u)) a 0 → Pushed i1 p1 n own i2 p2 → Laying i p0 (applied u f) own i2 p2
applied_laid i p0 u f a i1 p1 n own i2 p2 z is p =
    let ns : List Node = nodes i f in
    let m : Node = node (code_of (applied_by u)) (i + length ns - 1) 0 in
    let at : a ≡ i + length ns - 1 = omega (arith, z.last, z.counted) in
    record {
      last = omega (arith, p.own-is, p.counted);
      counted = omega (arith, p.counted, z.counted, ap length (applied_nodes i u f), length-append ns (m ∷ []));
      written = p.written ∙ ap (set p1 i1) (is ∙ ap (λ (x : ℕ). node (code_of (applied_by u)) x 0) at) ∙ ap (λ (x : ℕ). set p1 x m) z.counted
          ∙ ap (λ (ps : List Node). set ps (i + length ns) m) z.written ∙ sym (laid_one (laid p0 i ns) (i + length ns) m) ∙ sym (laid-append p0 i ns (m ∷ [])) ∙ ap (laid p0 i) (sym (applied_nodes i u f));
    }

module _ (i : ℕ) (p0 : List Node) (o : Opening) (m : (Middle o).A) (f g : Formula) (a i1 : ℕ) (p1 : List Node) (b i2 : ℕ) (p2 : List Node) (n : Node) (own i3 : ℕ) (p3 : List Node)
    (z : Laying i p0 f a i1 p1) (y : Laying i1 p1 g b i2 p2) (is : n ≡ node (code_of (joined_by o m)) a b) (p : Pushed i2 p2 n own i3 p3) where
  pub joined_laid : Laying i p0 (joined o m f g) own i3 p3
  joined_laid = go (nodes i f) (nodes (i + length (nodes i f)) g) (joined_nodes i o m f g) z.counted z.written
      (ap (λ (k : ℕ). i1 + length (nodes k g)) z.counted) (ap (λ (k : ℕ). laid p1 i1 (nodes k g)) z.counted)
    where
      go : (ns ms : List Node) → nodes i (joined o m f g) ≡ two (code_of (joined_by o m)) i ns ms → i1 ≡ i + length ns → p1 ≡ laid p0 i ns
          → i1 + length (nodes i1 g) ≡ i1 + length ms → laid p1 i1 (nodes i1 g) ≡ laid p1 i1 ms → Laying i p0 (joined o m f g) own i3 p3
      go ns ms e c1 w1 c2 w2 =
          let h : Node = node (code_of (joined_by o m)) (i + length ns - 1) (i + length ns + length ms - 1) in
          let at : a ≡ i + length ns - 1 = omega (arith, z.last) in
          let bt : b ≡ i + length ns + length ms - 1 = omega (arith, y.last, y.counted) in
          let to : i2 ≡ i + length ns + length ms = omega (arith, y.counted) in
          record {
            last = omega (arith, p.own-is, p.counted);
            counted = omega (arith, p.counted, ap length e, length-append ns (ms ++ (h ∷ [])), length-append ms (h ∷ []));
            written = p.written ∙ ap (set p2 i2) (is ∙ ap (λ (x : ℕ). node (code_of (joined_by o m)) x b) at ∙ ap (λ (x : ℕ). node (code_of (joined_by o m)) (i + length ns - 1) x) bt)
                ∙ ap (λ (x : ℕ). set p2 x h) to ∙ ap (λ (ps : List Node). set ps (i + length ns + length ms) h) (y.written ∙ w2 ∙ ap (λ (ps : List Node). laid ps i1 ms) w1 ∙ ap (λ (x : ℕ). laid (laid p0 i ns) x ms) c1)
                ∙ sym (laid_one (laid (laid p0 i ns) (i + length ns) ms) (i + length ns + length ms) h) ∙ sym (laid-append (laid p0 i ns) (i + length ns) ms (h ∷ []))
                ∙ sym (laid-append p0 i ns (ms ++ (h ∷ []))) ∙ ap (laid p0 i) (sym e);
          }
