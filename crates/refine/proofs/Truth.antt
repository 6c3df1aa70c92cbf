-- A next-only formula passes its test exactly where it holds.
use Rattle.std.proofs.Common.{ℕ, ◌<◌, Bool, true, false, not, T, ◌↔◌, sym, subst}
use Rattle.kripke.specs.Structure.{Kripke, Closed, Member, size, successors}
use Rattle.kripke.specs.Ctl.{Formula, truth, question, and, or, EX, AX, EF, AF, EG, AG, EU, AU, Holds, NextOnly}
use Rattle.kripke.proofs.Reflect.{T_true, and_T, some-T}
use Rattle.kripke.proofs.Walks.{through, second}
use Rattle.refine.specs.Tests.{test}

not_T : (b : Bool) → T (not b) ↔ (¬ T b)
not_T true = (λ h. absurd h, λ h. h tt)
not_T false = (λ h z. z, λ h. tt)

pub test_holds : (u : Kripke) → Closed u → (f : Formula) → NextOnly f → (s : ℕ) → s < size u → T (test u f s) ↔ Holds u f s
test_holds u law truth n s h = (λ x. tt, λ x. tt)
test_holds u law (question q) n s h = T_true _
test_holds u law (Formula.not f) n s h =
    let w = test_holds u law f n s h in
    (λ x y. (not_T (test u f s)).0 x (w.1 y), λ x. (not_T (test u f s)).1 (λ y. x (w.0 y)))
test_holds u law (and f g) n s h =
    let a = test_holds u law f n.0 s h in
    let b = test_holds u law g n.1 s h in (
      λ x. let r = (and_T (test u f s) (test u g s)).0 x in (a.0 r.0, b.0 r.1),
      λ x. (and_T (test u f s) (test u g s)).1 (a.1 x.0, b.1 x.1),
    )
test_holds u law (or f g) n s h = absurd n
test_holds u law (EX f) n s h = (
  λ x. let r = (some-T (test u f) (successors u s)).0 x in
      let p = through u law s r.0 h r.1 in
      (p.0, p.1, subst (λ (v : ℕ). Holds u f v) (sym p.2) ((test_holds u law f n r.0 (law.inside s r.0 h r.1)).0 r.2)),
  λ x. let m : Member (x.0 1) (successors u s) = second u s x.0 x.1 in
      (some-T (test u f) (successors u s)).1 (x.0 1, m, (test_holds u law f n (x.0 1) (law.inside s (x.0 1) h m)).1 x.2),
)
test_holds u law (AX f) n s h = absurd n
test_holds u law (EF f) n s h = absurd n
test_holds u law (AF f) n s h = absurd n
test_holds u law (EG f) n s h = absurd n
test_holds u law (AG f) n s h = absurd n
test_holds u law (EU f g) n s h = absurd n
test_holds u law (AU f g) n s h = absurd n
