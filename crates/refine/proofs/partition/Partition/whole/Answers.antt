use Rattle.std.proofs.Common.{◌≡◌, ℕ, List, [], ◌∷◌, ◌++◌, replicate, refl, ap, ◌∙◌, arith}
use Rattle.kripke.specs.Nodes.{blank_node}
use Rattle.kripke.specs.declared.node.Node.{Node}
use Rattle.refine.proofs.Begins.{zeros, one_long, one_low, one_led, one_here, one_exact, one_shallow, one_orderly, one_count}
use Rattle.refine.proofs.partition.Partition.whole.Goals as goal

pub invariant_of-result : goal.invariant_of-result
invariant_of-result c =
    let z : List ℕ = replicate 512 0 in
    let ns : List Node = c.push.new.self.items in
    let e : ns ≡ [] ++ blank_node ∷ [] = c.push.ensures.items ∙ ap (λ (n : Node). c.new-nodes.result.list.items ++ n ∷ []) c.new.ensures ∙ ap (λ (l : List Node). l ++ blank_node ∷ []) c.new-nodes.ensures in
    record {
      few = c.requires.few;
      spare = omega (arith, one_long z z (zeros 512) (zeros 512) ns e);
      low = one_low z z (zeros 512) (zeros 512) ns e c.args.states;
      led = one_led z z (zeros 512) (zeros 512) ns e c.args.states;
      here = one_here z z (zeros 512) (zeros 512) ns e c.args.states;
      orderly = one_orderly z z (zeros 512) (zeros 512) ns e c.args.questions;
      counted = one_count z z (zeros 512) (zeros 512) ns e c.args.states c.requires.some;
    }

pub returns : goal.returns
returns c =
    let z : List ℕ = replicate 512 0 in
    let ns : List Node = c.push.new.self.items in
    let e : ns ≡ [] ++ blank_node ∷ [] = c.push.ensures.items ∙ ap (λ (n : Node). c.new-nodes.result.list.items ++ n ∷ []) c.new.ensures ∙ ap (λ (l : List Node). l ++ blank_node ∷ []) c.new-nodes.ensures in
    record {
      states_is = refl;
      questions_is = refl;
      class = zeros 512;
      exact = λ v b t s ht hs. one_exact z z (zeros 512) (zeros 512) ns e v b t s;
      shallow = λ t ht. one_shallow z z (zeros 512) (zeros 512) ns e t;
    }
