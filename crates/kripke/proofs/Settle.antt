-- Where a round splits nothing, states that are together agree on every CTL formula.
use Rattle.std.proofs.Common.{ℕ, suc, ◌<◌, ◌↔◌}
use Rattle.kripke.specs.Structure.{Kripke, Closed, size}
use Rattle.kripke.specs.Ctl.{Formula, Holds}
use Rattle.kripke.specs.Rounds.{Same, home, place}
use Rattle.kripke.specs.Theorems.{SettledAgree}
use Rattle.kripke.proofs.Bisim.{Bisim, agree}
use Rattle.kripke.proofs.Sound.{same_answers}
use Rattle.kripke.proofs.Numbers.{home_closed, home_listed, place_inside, settled_at}

module _ (x y : Kripke) (lx : Closed x) (ly : Closed y) (k : ℕ) (stable : (s t : ℕ) → s < size x → t < size y → Same x y k s t → Same x y (suc k) s t) where
  abbrev Kept : ℕ → ℕ → Type 0
  Kept s t = (s < size x) × (t < size y) × Same x y k s t

  kept_bisim : Bisim x y Kept
  kept_bisim = record {
    alike = λ s t i r. same_answers x y k s t r.2 i;
    forth = λ s t r u m. let v = (stable s t r.0 r.1 r.2).1 u m in (v.0, v.1, (lx.inside s u r.0 m, ly.inside t v.0 r.1 v.1, v.2));
    back = λ s t r v m. let u = (stable s t r.0 r.1 r.2).2 v m in (u.0, u.1, (lx.inside s u.0 r.0 u.1, ly.inside t v r.1 m, u.2));
  }

  pub stable_agree : (s t : ℕ) → s < size x → t < size y → Same x y k s t → (f : Formula) → Holds x f s ↔ Holds y f t
  stable_agree s t hs ht h f = agree x y Kept kept_bisim f s t (hs, ht, h)

pub settled_agree : SettledAgree
settled_agree a b la lb k settled i j hi hj h f =
    stable_agree (home a b i) (home a b j) (home_closed a b la lb i) (home_closed a b la lb j) k
    (settled_at a b k settled (home a b i) (home a b j) (home_listed a b i) (home_listed a b j))
    (place a b i) (place a b j) (place_inside a b i hi) (place_inside a b j hj) h f
