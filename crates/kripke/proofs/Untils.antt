-- E[P U Q] and A[P U Q] are decided where P and Q are: the states from which one can, or must, come to Q by way of P grow until they rest.
use Rattle.std.proofs.Common.{ℕ, zero, suc, ◌<◌, ◌⊎◌, sym, subst, inl, inr, ⊎_elim, arith}
use Rattle.kripke.specs.Structure.{Kripke, Closed, Member, size, successors}
use Rattle.kripke.specs.Ctl.{Path, Until, OnSome, OnEach}
use Rattle.kripke.proofs.Either.{Either, either_and, either_or, each_or_some}
use Rattle.kripke.proofs.Growth.{count_exists, at_rest}
use Rattle.kripke.proofs.Walks.{first, first_member, Choice, walk, walk_path, ahead, ahead_path, tail_path, second, from_here}

-- P is decided at every state.
abbrev pub DecidedAt : Kripke → (ℕ → Type 0) → Type 0
DecidedAt k P = (s : ℕ) → s < size k → Either (P s)

pub some_decided : (k : Kripke) → Closed k → (P : ℕ → Type 0) → DecidedAt k P → DecidedAt k (λ s. (u : ℕ) × Member u (successors k s) × P u)
some_decided k law P d s h =
    ⊎_elim (λ all. inr (λ z. all z.0 z.1 z.2)) inl
    (each_or_some (λ u. ¬ P u) P (successors k s) (λ u m. ⊎_elim inr inl (d u (law.inside s u h m))))

pub every_decided : (k : Kripke) → Closed k → (P : ℕ → Type 0) → DecidedAt k P → DecidedAt k (λ s. (u : ℕ) → Member u (successors k s) → P u)
every_decided k law P d s h =
    ⊎_elim inl (λ z. inr (λ all. z.2 (all z.0 z.1))) (each_or_some P _ (successors k s) (λ u m. d u (law.inside s u h m)))

module _ (k : Kripke) (law : Closed k) (P Q : ℕ → Type 0) (d_p : DecidedAt k P) (d_q : DecidedAt k Q) where
  -- From s one can, or must, come to Q by way of P within j steps.
  abbrev Can : ℕ → ℕ → Type 0
  Can zero s = Q s
  Can (suc j) s = Can j s ⊎ (P s × ((u : ℕ) × Member u (successors k s) × Can j u))

  abbrev Must : ℕ → ℕ → Type 0
  Must zero s = Q s
  Must (suc j) s = Must j s ⊎ (P s × ((u : ℕ) → Member u (successors k s) → Must j u))

  can_decided : (j : ℕ) → DecidedAt k (Can j)
  can_decided zero s h = d_q s h
  can_decided (suc j) s h = either_or (can_decided j s h) (either_and (d_p s h) (some_decided k law (Can j) (can_decided j) s h))

  must_decided : (j : ℕ) → DecidedAt k (Must j)
  must_decided zero s h = d_q s h
  must_decided (suc j) s h = either_or (must_decided j s h) (either_and (d_p s h) (every_decided k law (Must j) (must_decided j) s h))

  can_rest : (j : ℕ) × ((s : ℕ) → s < size k → Can (suc j) s → Can j s)
  can_rest =
      let (c, l, x) = count_exists (Can 0) (size k) (can_decided 0) in
      let (j, b, r) = at_rest Can (size k) can_decided (λ j s h. inl) c x in
      (j, r)

  must_rest : (j : ℕ) × ((s : ℕ) → s < size k → Must (suc j) s → Must j s)
  must_rest =
      let (c, l, x) = count_exists (Must 0) (size k) (must_decided 0) in
      let (j, b, r) = at_rest Must (size k) must_decided (λ j s h. inl) c x in
      (j, r)

  can_from : (j s : ℕ) → Q s → Can j s
  can_from zero s q = q
  can_from (suc j) s q = inl (can_from j s q)

  must_from : (j s : ℕ) → Q s → Must j s
  must_from zero s q = q
  must_from (suc j) s q = inl (must_from j s q)

  -- Until, one place later.
  until_ahead : (p : ℕ → ℕ) → P (p 0) → Until P Q (λ i. p (suc i)) → Until P Q p
  until_ahead p x (n, q, before) = (suc n, q, all)
    where
      all : (i : ℕ) → i < suc n → P (p i)
      all zero l = x
      all (suc i) l = before i (omega arith)

  -- From where one can come to Q a path does so, and from where one must each path does.
  can_in : (j s : ℕ) → s < size k → Can j s → OnSome k s (Until P Q)
  can_in zero s h q =
      let (p, way) = from_here k law s h in
      (p, way, (0, subst Q (sym way.starts) q, λ i l. absurd (omega arith)))
  can_in (suc j) s h (inl c) = can_in j s h c
  can_in (suc j) s h (inr (x, (u, m, c))) =
      let (p, way, goes) = can_in j u (law.inside s u h m) c in
      (ahead s p, ahead_path k s u p m way, until_ahead (ahead s p) x goes)

  must_in : (j s : ℕ) → s < size k → Must j s → OnEach k s (Until P Q)
  must_in zero s h q p way = (0, subst Q (sym way.starts) q, λ i l. absurd (omega arith))
  must_in (suc j) s h (inl c) p way = must_in j s h c p way
  must_in (suc j) s h (inr (x, c)) p way =
      let m = second k s p way in
      until_ahead p (subst P (sym way.starts) x) (must_in j (p 1) (law.inside s (p 1) h m) (c (p 1) m) (λ i. p (suc i)) (tail_path k s p way))

  -- From outside of what has come to rest no path comes to Q.
  can_out : (j : ℕ) → ((s : ℕ) → s < size k → Can (suc j) s → Can j s)
      → (n s : ℕ) → s < size k → (¬ Can j s) → (p : ℕ → ℕ) → Path k s p → Q (p n) → ¬ ((i : ℕ) → i < n → P (p i))
  can_out j rest zero s h out p way q before = out (can_from j s (subst Q way.starts q))
  can_out j rest (suc n) s h out p way q before =
      let m = second k s p way in
      can_out j rest n (p 1) (law.inside s (p 1) h m) (λ c. out (rest s h (inr (subst P way.starts (before 0 (omega arith)), (p 1, m, c)))))
      (λ i. p (suc i)) (tail_path k s p way) q (λ i l. before (suc i) (omega arith))

  pub until_some : (s : ℕ) → s < size k → OnSome k s (Until P Q) ⊎ ((p : ℕ → ℕ) → Path k s p → ¬ Until P Q p)
  until_some s h =
      let (j, rest) = can_rest in
      ⊎_elim (λ c. inl (can_in j s h c)) (λ out. inr (λ p way goes. can_out j rest goes.0 s h out p way goes.1 goes.2)) (can_decided j s h)

  -- From outside of what has come to rest a path that stays outside, as long as it can, does not come to Q by way of P.
  module _ (j : ℕ) (rest : (s : ℕ) → s < size k → Must (suc j) s → Must j s) where
    abbrev onward : (s : ℕ) → s < size k
        → (u : ℕ) × Member u (successors k s) × (((v : ℕ) → Member v (successors k s) → Must j v) ⊎ (¬ Must j u))
    onward s h =
        ⊎_elim (λ all. (first (successors k s), first_member (successors k s) (law.onward s h), inl all)) (λ z. (z.0, z.1, inr z.2))
        (each_or_some (Must j) _ (successors k s) (λ v m. must_decided j v (law.inside s v h m)))

    abbrev next : Choice k
    next s h = ((onward s h).0, (onward s h).1)

    must_out : (n s : ℕ) (h : s < size k) → (¬ Must j s) → Q (walk k law next s h n) → ¬ ((i : ℕ) → i < n → P (walk k law next s h i))
    unfolding walk
    must_out zero s h out q before = out (must_from j s q)
    must_out (suc n) s h out q before =
        ⊎_elim
        (λ all. out (rest s h (inr (before 0 (omega arith), all))))
        (λ out'. must_out n (onward s h).0 (law.inside s (onward s h).0 h (onward s h).1) out' q (λ i l. before (suc i) (omega arith)))
        (onward s h).2

  pub until_each : (s : ℕ) → s < size k → OnEach k s (Until P Q) ⊎ OnSome k s (λ p. ¬ Until P Q p)
  until_each s h =
      let (j, rest) = must_rest in
      ⊎_elim (λ c. inl (must_in j s h c)) (λ out. inr (walk k law (next j rest) s h, walk_path k law (next j rest) s h, λ goes. must_out j rest goes.0 s h out goes.1 goes.2)) (must_decided j s h)
