-- What is written of a node: its parts one after another, or a stop at one of them.
use Rattle.std.proofs.Common.{ℕ, suc, List, ◌++◌, get_or, Ok, Err, Result, sym, subst}
use Rattle.kripke.specs.Nodes.{formula, blank_node}
use Rattle.kripke.specs.declared.node.Node.{Node}
use Rattle.reader.specs.Grammar.{Mark, marks}
use Rattle.printer.specs.declared.writer.Stop.{Stop}
use Rattle.printer.specs.Writing.{Appends, Spells, Spelt}
use Rattle.printer.proofs.Writings.{appended, then, stop}
use Rattle.printer.proofs.Parts.{OneAt, TwoAt}

module _ (q : ℕ) {ns : List Node} {i l : ℕ} {x : List ℕ} (z : OneAt ns i l x) (b b1 : List ℕ) where
  abbrev rest : List Mark
  rest = marks (suc l) (formula ns (get_or ns i blank_node).a)

  pub one_stops : (e : Stop) → Appends b x b1 (Err e) → Spells q b (marks l (formula ns i)) b1 (Err e)
  one_stops e h =
      subst (λ (ms : List Mark). Spells q b ms b1 (Err e)) (sym z.is) (stop q b b1 z.part rest e (appended q b z.part x b1 (Err e) (z.good q) z.spells h))

  pub one_ends : Appends b x b1 (Ok tt) → (b2 : List ℕ) (r : Result (Unit {0}) Stop) → Spells q b1 rest b2 r → Spells q b (marks l (formula ns i)) b2 r
  one_ends h b2 r g =
      subst (λ (ms : List Mark). Spells q b ms b2 r) (sym z.is) (then q b b1 b2 z.part rest r (appended q b z.part x b1 (Ok tt) (z.good q) z.spells h) g)

module _ (q : ℕ) {ns : List Node} {i l : ℕ} {x y w : List ℕ} (z : TwoAt ns i l x y w) (b b1 : List ℕ) where
  abbrev f : List Mark
  f = marks (suc l) (formula ns (get_or ns i blank_node).a)

  abbrev g : List Mark
  g = marks (suc l) (formula ns (get_or ns i blank_node).b)

  whole : (b2 : List ℕ) (r : Result (Unit {0}) Stop) → Spells q b (z.first ++ (f ++ (z.middle ++ (g ++ z.last)))) b2 r → Spells q b (marks l (formula ns i)) b2 r
  whole b2 r h = subst (λ (ms : List Mark). Spells q b ms b2 r) (sym z.is) h

  first : (r : Result (Unit {0}) Stop) → Appends b x b1 r → Spells q b z.first b1 r
  first r h = appended q b z.first x b1 r (z.good q).0 z.begins h

  middle : (b2 b3 : List ℕ) (r : Result (Unit {0}) Stop) → Appends b2 y b3 r → Spells q b2 z.middle b3 r
  middle b2 b3 r h = appended q b2 z.middle y b3 r (z.good q).1 z.links h

  last : (b4 b5 : List ℕ) (r : Result (Unit {0}) Stop) → Appends b4 w b5 r → Spells q b4 z.last b5 r
  last b4 b5 r h = appended q b4 z.last w b5 r (z.good q).2 z.ends h

  pub two_stops_1 : (e : Stop) → Appends b x b1 (Err e) → Spells q b (marks l (formula ns i)) b1 (Err e)
  two_stops_1 e h = whole b1 (Err e) (stop q b b1 z.first (f ++ (z.middle ++ (g ++ z.last))) e (first (Err e) h))

  module _ (h1 : Appends b x b1 (Ok tt)) (b2 : List ℕ) where
    on_1 : (b' : List ℕ) (r : Result (Unit {0}) Stop) → Spells q b1 (f ++ (z.middle ++ (g ++ z.last))) b' r → Spells q b (marks l (formula ns i)) b' r
    on_1 b' r h = whole b' r (then q b b1 b' z.first (f ++ (z.middle ++ (g ++ z.last))) r (first (Ok tt) h1) h)

    pub two_stops_2 : (e : Stop) → Spells q b1 f b2 (Err e) → Spells q b (marks l (formula ns i)) b2 (Err e)
    two_stops_2 e h = on_1 b2 (Err e) (stop q b1 b2 f (z.middle ++ (g ++ z.last)) e h)

    module _ (h2 : Spelt q b1 f b2) (b3 : List ℕ) where
      on_2 : (b' : List ℕ) (r : Result (Unit {0}) Stop) → Spells q b2 (z.middle ++ (g ++ z.last)) b' r → Spells q b (marks l (formula ns i)) b' r
      on_2 b' r h = on_1 b' r (then q b1 b2 b' f (z.middle ++ (g ++ z.last)) r h2 h)

      pub two_stops_3 : (e : Stop) → Appends b2 y b3 (Err e) → Spells q b (marks l (formula ns i)) b3 (Err e)
      two_stops_3 e h = on_2 b3 (Err e) (stop q b2 b3 z.middle (g ++ z.last) e (middle b2 b3 (Err e) h))

      module _ (h3 : Appends b2 y b3 (Ok tt)) (b4 : List ℕ) where
        on_3 : (b' : List ℕ) (r : Result (Unit {0}) Stop) → Spells q b3 (g ++ z.last) b' r → Spells q b (marks l (formula ns i)) b' r
        on_3 b' r h = on_2 b' r (then q b2 b3 b' z.middle (g ++ z.last) r (middle b2 b3 (Ok tt) h3) h)

        pub two_stops_4 : (e : Stop) → Spells q b3 g b4 (Err e) → Spells q b (marks l (formula ns i)) b4 (Err e)
        two_stops_4 e h = on_3 b4 (Err e) (stop q b3 b4 g z.last e h)

        pub two_ends : Spelt q b3 g b4 → (b5 : List ℕ) (r : Result (Unit {0}) Stop) → Appends b4 w b5 r → Spells q b (marks l (formula ns i)) b5 r
        two_ends h4 b5 r h = on_3 b5 r (then q b3 b4 b5 g z.last r h4 (last b4 b5 r h))
