-- The exits of a chain of `?`.
use Rattle.std.proofs.Common.{◌≡◌, ℕ, IsErrAnd, Result, sym, subst}
use Rattle.std.proofs.lemmas.Result.{err_from_is_err_and}
use Rattle.kripke.specs.declared.refusal.Refusal.{Refusal}
use Rattle.reader.specs.Tokens.{Stream}
use Rattle.reader.specs.Phrases.{Phrase, Refused, Owes}

pub broke : {R : Type 0} (P : Phrase) (Is : P.A → R → Type 0) (c : ℕ) (s s' : Stream) (r : Result R Refusal) (e : Refusal) → IsErrAnd r (λ y. y ≡ e) → Refused P c s e
    → Owes {R = R} P Is c s s' r
broke {R} P Is c s s' r e by h =
    let p = err_from_is_err_and r by in
    subst (λ (q : Result R Refusal). Owes {R = R} P Is c s s' q) (sym p.1) (subst (Refused P c s) (sym p.2) h)
