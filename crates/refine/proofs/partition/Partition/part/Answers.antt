use Rattle.std.proofs.Common.{suc, ◌+◌, ◌<◌, not, ◌≤◌, sym, refl, ap, ◌∙◌, subst, add-one, arith, rules}
use Rattle.kripke.specs.Ctl.{Formula, nesting}
use Rattle.refine.specs.Steps.{at}
use Rattle.refine.specs.declared.partition.Partition.{Partition}
use Rattle.refine.proofs.Grown.{extends_trans, names_on}
use Rattle.refine.proofs.Part.{Cut, cut, from_bool_le, part_low, part_led, part_here, part_exact, part_shallow, part_orderly, part_leaders, part_extends, part_nodes}
use Rattle.refine.proofs.Scan.{odd_fewer, room_left}
use Rattle.refine.proofs.partition.Partition.part.Goals as goal

pub name-x-requires-clause-few : goal.name-x-requires-clause-few
name-x-requires-clause-few c = omega (arith, room_left c.args.self.now c.args.s c.args.row.now c.requires.odd)

pub overflow_add-x : goal.overflow_add-x
overflow_add-x c =
    let p : Partition = c.args.self.now in
    let l : c.name-x.result + c.from.result < 65536 = omega (
      arith,
      room_left p c.args.s c.args.row.now c.requires.odd,
      c.name-x.ensures.count,
      c.name-x.ensures.names.inside,
      c.from.ensures,
      from_bool_le (at c.args.row.now c.args.s),
    ) in
    search rules

pub conjoin-stay-requires-clause-few : goal.conjoin-stay-requires-clause-few
conjoin-stay-requires-clause-few c = omega (arith, room_left c.args.self.now c.args.s c.args.row.now c.requires.odd, c.name-x.ensures.count)

pub overflow_add-x-2 : goal.overflow_add-x-2
overflow_add-x-2 c =
    let p : Partition = c.args.self.now in
    let l : c.name-x.result + c.from-2.result < 65536 = omega (
      arith,
      room_left p c.args.s c.args.row.now c.requires.odd,
      c.name-x.ensures.count,
      c.name-x.ensures.names.inside,
      c.from-2.ensures,
      from_bool_le (not (at c.args.row.now c.args.s)),
    ) in
    search rules

pub conjoin-leave-requires-clause-few : goal.conjoin-leave-requires-clause-few
conjoin-leave-requires-clause-few c = omega (
  arith,
  room_left c.args.self.now c.args.s c.args.row.now c.requires.odd,
  c.name-x.ensures.count,
  c.conjoin-stay.ensures.count,
)

pub overflow_add-self : goal.overflow_add-self
overflow_add-self c =
    let p : Partition = c.args.self.now in
    let l : p.count + 1 < 65536 = omega (arith, odd_fewer p c.args.s c.args.row.now c.requires.odd, p.counted, p.few) in
    search rules

pub invariant_of-self : goal.invariant_of-self
invariant_of-self c =
    let p : Partition = c.args.self.now in
    let k : Cut = cut p c.args.s c.args.row.now c.requires.odd (search rules) c.args.test c.args.name c.requires.ready _ c.name-x.result c.name-x.ensures
    c.from.result c.from-2.result c.from.ensures c.from-2.ensures _ _ _ _ c.conjoin-stay.ensures c.conjoin-leave.ensures _ c.renumber.ensures in
    record {
      few = p.few;
      spare = omega (arith, p.spare, c.name-x.ensures.count, part_nodes k);
      low = part_low k;
      led = part_led k;
      here = part_here k;
      orderly = part_orderly k;
      counted = add-one p.count ∙ ap suc p.counted ∙ sym (part_leaders k);
    }

pub returns : goal.returns
returns c =
    let p : Partition = c.args.self.now in
    let n = c.name-x.ensures in
    let k : Cut = cut p c.args.s c.args.row.now c.requires.odd (search rules) c.args.test c.args.name c.requires.ready _ c.name-x.result n
    c.from.result c.from-2.result c.from.ensures c.from-2.ensures _ _ _ _ c.conjoin-stay.ensures c.conjoin-leave.ensures _ c.renumber.ensures in
    record {
      parted = record {
        keeps = record { states = refl; questions = refl; extends = extends_trans _ _ _ n.extends (part_extends k); more = omega arith; still = λ h. absurd (omega arith) };
        count = add-one p.count;
        class = c.renumber.ensures;
        exact = λ v w g old. part_exact k v w
            (λ t h. ap (λ (f : Formula). v f t) n.names.yes ∙ g t h)
            (λ t h. ap (λ (f : Formula). v f t) n.names.no ∙ w.negates _ t ∙ ap not (g t h))
            (λ t r ht hr. ap (λ (f : Formula). v f r) (n.extends.same _ (p.here t ht)) ∙ old t r ht hr);
        shallow = λ d h old. part_shallow k d
            (subst (λ (f : Formula). nesting f ≤ d) (sym n.names.yes) h)
            (subst (λ (f : Formula). nesting f ≤ d) (sym n.names.no) h)
            (λ t ht. subst (λ (f : Formula). nesting f ≤ d) (sym (n.extends.same _ (p.here t ht))) (old t ht));
      };
      named = names_on _ _ c.name-x.result _ (part_extends k) n.names;
    }
