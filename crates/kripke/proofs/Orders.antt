-- The order in which breaches are told, and that the first is one.
use Rattle.std.proofs.Common.{◌≡◌, ℕ, ◌-◌, ◌<◌, ◌≤◌, ◌⊎◌, List, [], ◌∷◌, get_or, refl, sym, ap, ◌∙◌, inl, inr, ⊎_elim, arith}
use Rattle.std.proofs.lemmas.Bool.{cases_order}
use Rattle.kripke.specs.Refusals.{Rules, number_of, FirstBreach}
use Rattle.kripke.specs.declared.refusal.Cause.{Cause}
use Rattle.kripke.specs.declared.refusal.Cause.TheVariants as cause
use Rattle.kripke.specs.declared.refusal.Layer.{Layer}
use Rattle.kripke.specs.declared.refusal.Refusal.{Refusal}

-- what (j, q) before (k, p) says of the numbers, and of the places where the numbers are one
pub lower : {j q k p : ℕ} → (j < k) ⊎ ((j ≡ k) × (q < p)) → j ≤ k
lower (inl h) = omega arith
lower (inr h) = omega arith

pub same_lower : {q k p : ℕ} → (k < k) ⊎ ((k ≡ k) × (q < p)) → q < p
same_lower (inl h) = omega arith
same_lower (inr h) = h.1

-- The causes, each at the place before its number: so no two causes have one number.
abbrev causes : List Cause
causes =
    cause.ShortImage ∷ cause.HeaderField ∷ cause.ImageLength ∷ cause.StateRecord ∷ cause.LinkRecord ∷ cause.LongChain ∷ cause.RuleLimits
    ∷ cause.UnlawfulRule ∷ cause.TextLimits ∷ cause.Unexpected ∷ cause.QuestionNumber ∷ cause.TooDeep ∷ cause.ManyNodes ∷ cause.NodeCount
    ∷ cause.BadNode ∷ cause.FewWords ∷ cause.ClosedComparison ∷ cause.StateNumber ∷ cause.OpenComparison ∷ cause.NotDifferent ∷ cause.FewPlaces
    ∷ cause.ReportSize ∷ []

numbered : (c : Cause) → get_or causes (number_of c - 1) cause.ShortImage ≡ c
numbered cause.ShortImage = refl
numbered cause.HeaderField = refl
numbered cause.ImageLength = refl
numbered cause.StateRecord = refl
numbered cause.LinkRecord = refl
numbered cause.LongChain = refl
numbered cause.RuleLimits = refl
numbered cause.UnlawfulRule = refl
numbered cause.TextLimits = refl
numbered cause.Unexpected = refl
numbered cause.QuestionNumber = refl
numbered cause.TooDeep = refl
numbered cause.ManyNodes = refl
numbered cause.NodeCount = refl
numbered cause.BadNode = refl
numbered cause.FewWords = refl
numbered cause.ClosedComparison = refl
numbered cause.StateNumber = refl
numbered cause.OpenComparison = refl
numbered cause.NotDifferent = refl
numbered cause.FewPlaces = refl
numbered cause.ReportSize = refl

pub one_cause : (c d : Cause) → number_of c ≡ number_of d → c ≡ d
one_cause c d e = sym (numbered c) ∙ ap (λ (n : ℕ). get_or causes (n - 1) cause.ShortImage) e ∙ numbered d

whole : (e f : Refusal) → e.cause ≡ f.cause → e.layer ≡ f.layer → e.place ≡ f.place → e ≡ f
whole e f p q r = λ i. record { cause = p i; layer = q i; place = r i }

-- two first refusals of one input are one
pub one_refusal : (V : Rules) (layer : Layer) (e f : Refusal) → FirstBreach V layer e → FirstBreach V layer f → e ≡ f
one_refusal V layer e f p q =
    let number : number_of e.cause ≡ number_of f.cause =
    ⊎_elim (λ h. h) (⊎_elim (λ h. absurd (q.least e.cause e.place (inl h) p.broken)) (λ h. absurd (p.least f.cause f.place (inl h) q.broken)))
    (cases_order (number_of e.cause) (number_of f.cause)) in
    let place : e.place ≡ f.place =
    ⊎_elim (λ h. h) (⊎_elim (λ h. absurd (q.least e.cause e.place (inr (number, h)) p.broken)) (λ h. absurd (p.least f.cause f.place (inr (sym number, h)) q.broken)))
    (cases_order e.place f.place) in
    whole e f (one_cause e.cause f.cause number) (p.layered ∙ sym q.layered) place
