-- Places of a text in order.
use Rattle.std.proofs.Common.{◌≡◌, ℕ, suc, ◌<◌, ◌⊎◌, List, [], ◌∷◌, ◌++◌, sym, refl, ap, ◌∙◌, inl, inr, ⊎_elim, arith}
use Rattle.kripke.specs.Refusals.{number_of}
use Rattle.kripke.specs.declared.refusal.Cause.{Cause}
use Rattle.reader.specs.declared.token.Token.{Token}
use Rattle.reader.specs.Tokens.{Stream, done, next, first, offset, After}
use Rattle.reader.specs.Breaches.{stage, Sooner}
use Rattle.reader.proofs.Streams.{Rising, later}

-- Of two places the second is passed by the first, or after it, or the same.
pub compare : (l : ℕ) (s : Stream) → Rising l s → (a b : List Token) (s1 s2 : Stream) → After s a s1 → After s b s2
    → ((m : List Token) × (a ≡ b ++ (first s2 ∷ m))) ⊎ ((offset s1 < offset s2) ⊎ (a ≡ b))
compare l s p [] [] s1 s2 h g = inr (inr refl)
compare l (done o) p [] (t ∷ b) s1 s2 h g = absurd g
compare l (next o u s) p [] (t ∷ b) s1 s2 h g = inr (inl (omega (arith, ap offset h, later (suc o) s b s2 g.1 p.2)))
compare l (done o) p (t ∷ a) [] s1 s2 h g = absurd h
compare l (next o u s) p (t ∷ a) [] s1 s2 h g = inl (a, ap (λ z. z ∷ a) (sym h.0 ∙ ap first g))
compare l (done o) p (t ∷ a) (t' ∷ b) s1 s2 h g = absurd h
compare l (next o u s) p (t ∷ a) (t' ∷ b) s1 s2 h g =
    let e : t ≡ t' = sym h.0 ∙ g.0 in
    ⊎_elim (λ z. inl (z.0, ap (λ l. t ∷ l) z.1 ∙ ap (λ y. y ∷ (b ++ (first s2 ∷ z.0))) e))
    (λ z. inr (⊎_elim inl (λ p. inr (ap (λ l. t ∷ l) p ∙ ap (λ y. y ∷ b) e)) z))
    (compare (suc o) s p.2 a b s1 s2 h.1 g.1)

-- What is told sooner of two causes that are told by their places.
pub nearer : (d k : Cause) (q p : ℕ) → stage d ≡ stage k → Sooner d q k p → (q < p) ⊎ ((q ≡ p) × (number_of d < number_of k))
nearer d k q p e s = ⊎_elim (λ h. absurd (omega arith)) (λ h. h.1) s
