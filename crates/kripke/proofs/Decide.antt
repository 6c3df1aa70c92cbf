-- Every CTL formula is decided at every state of a closed structure.
use Rattle.std.proofs.Common.{ℕ, true, sym, subst, inl, inr, ⊎_elim}
use Rattle.kripke.specs.Structure.{Kripke, Closed, answer}
use Rattle.kripke.specs.Ctl.{Formula, truth, question, and, or, EX, AX, EF, AF, EG, AG, EU, AU}
use Rattle.kripke.specs.Ctl.{Next, Always, Until, OnSome, OnEach, Anything, Holds}
use Rattle.kripke.specs.Theorems.{Decided}
use Rattle.kripke.proofs.Either.{either_not, either_and, either_or, either_equal, surely}
use Rattle.kripke.proofs.Walks.{through, second, path_inside}
use Rattle.kripke.proofs.Untils.{DecidedAt, some_decided, every_decided, until_some, until_each}

module _ (k : Kripke) (law : Closed k) where
  anything : DecidedAt k Anything
  anything s h = inl tt

  -- EX and AX by the successors, the untils by what grows, EG and AG as the untils' opposites.
  some_next : (P : ℕ → Type 0) → DecidedAt k P → DecidedAt k (λ s. OnSome k s (Next P))
  some_next P d s h =
      ⊎_elim
      (λ z. let (p, way, e) = through k law s z.0 h z.1 in inl (p, way, subst P (sym e) z.2))
      (λ no. inr (λ z. no (z.0 1, second k s z.0 z.1, z.2)))
      (some_decided k law P d s h)

  each_next : (P : ℕ → Type 0) → DecidedAt k P → DecidedAt k (λ s. OnEach k s (Next P))
  each_next P d s h =
      ⊎_elim
      (λ all. inl (λ p way. all (p 1) (second k s p way)))
      (λ no. inr (λ each. no (λ u m. let (p, way, e) = through k law s u h m in subst P e (each p way))))
      (every_decided k law P d s h)

  some_until : (P Q : ℕ → Type 0) → DecidedAt k P → DecidedAt k Q → DecidedAt k (λ s. OnSome k s (Until P Q))
  some_until P Q d_p d_q s h = ⊎_elim inl (λ no. inr (λ z. no z.0 z.1 z.2)) (until_some k law P Q d_p d_q s h)

  each_until : (P Q : ℕ → Type 0) → DecidedAt k P → DecidedAt k Q → DecidedAt k (λ s. OnEach k s (Until P Q))
  each_until P Q d_p d_q s h = ⊎_elim inl (λ z. inr (λ each. z.2 (each z.0 z.1))) (until_each k law P Q d_p d_q s h)

  some_always : (P : ℕ → Type 0) → DecidedAt k P → DecidedAt k (λ s. OnSome k s (Always P))
  some_always P d s h =
      ⊎_elim
      (λ each. inr (λ z. let u = each z.0 z.1 in u.1 (z.2 u.0)))
      (λ z. inl (z.0, z.1, λ i. surely (d (z.0 i) (path_inside k law s h z.0 z.1 i)) (λ n. z.2 (i, n, λ j l. tt))))
      (until_each k law Anything (λ u. ¬ P u) anything (λ u l. either_not (d u l)) s h)

  each_always : (P : ℕ → Type 0) → DecidedAt k P → DecidedAt k (λ s. OnEach k s (Always P))
  each_always P d s h =
      ⊎_elim
      (λ z. inr (λ each. z.2.1 (each z.0 z.1 z.2.0)))
      (λ no. inl (λ p way i. surely (d (p i) (path_inside k law s h p way i)) (λ n. no p way (i, n, λ j l. tt))))
      (until_some k law Anything (λ u. ¬ P u) anything (λ u l. either_not (d u l)) s h)

  pub decided_at : (f : Formula) → DecidedAt k (Holds k f)
  decided_at truth = anything
  decided_at (question i) = λ s h. either_equal (answer k s i) true
  decided_at (Formula.not f) = λ s h. either_not (decided_at f s h)
  decided_at (and f g) = λ s h. either_and (decided_at f s h) (decided_at g s h)
  decided_at (or f g) = λ s h. either_or (decided_at f s h) (decided_at g s h)
  decided_at (EX f) = some_next _ (decided_at f)
  decided_at (AX f) = each_next _ (decided_at f)
  decided_at (EF f) = some_until _ _ anything (decided_at f)
  decided_at (AF f) = each_until _ _ anything (decided_at f)
  decided_at (EG f) = some_always _ (decided_at f)
  decided_at (AG f) = each_always _ (decided_at f)
  decided_at (EU f g) = some_until _ _ (decided_at f) (decided_at g)
  decided_at (AU f g) = each_until _ _ (decided_at f) (decided_at g)

pub decided : Decided
decided k law f s h = decided_at k law f s h
