-- Paths: through each successor goes a path, and a path can be cut and prolonged at its front.
use Rattle.std.proofs.Common.{◌≡◌, ℕ, zero, suc, ◌<◌, ◌≤◌, List, [], ◌∷◌, length, sym, refl, subst, inl, arith}
use Rattle.kripke.specs.Structure.{Kripke, Closed, Member, size, successors}
use Rattle.kripke.specs.Ctl.{Path}

abbrev pub first : List ℕ → ℕ
first [] = 0
first (x ∷ xs) = x

pub first_member : (xs : List ℕ) → 1 ≤ length xs → Member (first xs) xs
first_member [] h = omega arith
first_member (x ∷ xs) h = inl refl

-- A state, and then a path.
abbrev pub ahead : ℕ → (ℕ → ℕ) → ℕ → ℕ
ahead s p zero = s
ahead s p (suc i) = p i

-- A successor of each state.
abbrev pub Choice : Kripke → Type 0
Choice k = (s : ℕ) → s < size k → (u : ℕ) × Member u (successors k s)

module _ (k : Kripke) where
  pub ahead_path : (s u : ℕ) (p : ℕ → ℕ) → Member u (successors k s) → Path k u p → Path k s (ahead s p)
  ahead_path s u p m way = record { starts = refl; steps = steps }
    where
      steps : (i : ℕ) → Member (ahead s p (suc i)) (successors k (ahead s p i))
      steps zero = subst (λ y. Member y (successors k s)) (sym way.starts) m
      steps (suc i) = way.steps i

  pub tail_path : (s : ℕ) (p : ℕ → ℕ) → Path k s p → Path k (p 1) (λ i. p (suc i))
  tail_path s p way = record { starts = refl; steps = λ i. way.steps (suc i) }

  -- The state at position 1 is a successor of the one at 0.
  pub second : (s : ℕ) (p : ℕ → ℕ) → Path k s p → Member (p 1) (successors k s)
  second s p way = subst (λ y. Member (p 1) (successors k y)) way.starts (way.steps 0)

  module _ (law : Closed k) where
    -- From s always on to the chosen successor.
    unfoldable pub walk : Choice k → (s : ℕ) → s < size k → ℕ → ℕ
    walk next s h zero = s
    walk next s h (suc i) = walk next (next s h).0 (law.inside s (next s h).0 h (next s h).1) i

    walk_steps : (next : Choice k) (s : ℕ) (h : s < size k) (i : ℕ) → Member (walk next s h (suc i)) (successors k (walk next s h i))
    unfolding walk
    walk_steps next s h zero = (next s h).1
    walk_steps next s h (suc i) = walk_steps next (next s h).0 (law.inside s (next s h).0 h (next s h).1) i

    pub walk_path : (next : Choice k) (s : ℕ) (h : s < size k) → Path k s (walk next s h)
    unfolding walk
    walk_path next s h = record { starts = refl; steps = walk_steps next s h }

    -- From each state there is a path, and one through each successor.
    pub from_here : (s : ℕ) → s < size k → (p : ℕ → ℕ) × Path k s p
    from_here s h =
        let next : Choice k = λ t l. (first (successors k t), first_member (successors k t) (law.onward t l)) in
        (walk next s h, walk_path next s h)

    pub through : (s t : ℕ) → s < size k → Member t (successors k s) → (p : ℕ → ℕ) × Path k s p × (p 1 ≡ t)
    through s t h m =
        let (p, way) = from_here t (law.inside s t h m) in
        (ahead s p, ahead_path s t p m way, way.starts)

    -- A path never leaves the structure.
    pub path_inside : (s : ℕ) → s < size k → (p : ℕ → ℕ) → Path k s p → (i : ℕ) → p i < size k
    path_inside s h p way zero = subst (λ y. y < size k) (sym way.starts) h
    path_inside s h p way (suc i) = law.inside (p i) (p (suc i)) (path_inside s h p way i) (way.steps i)
