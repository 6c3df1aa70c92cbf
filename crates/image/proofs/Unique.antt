-- The format determines the model and the refusal.
use Rattle.std.proofs.Common.{◌≡◌, ℕ, Bool, List, ◌∷◌, Some, Ok, Err, Result, unwrap_or, sym, refl, ap, ◌∙◌, arith}
use Rattle.std.proofs.lemmas.List.{ext_get_or, get_or_default}
use Rattle.kripke.proofs.Orders.{one_refusal}
use Rattle.kripke.specs.Structure.{Kripke, State, blank_state, state}
use Rattle.kripke.specs.Refusals.{FirstBreach, Judged, Judgement}
use Rattle.kripke.specs.declared.refusal.Refusal.{Refusal}
use Rattle.labels.specs.Kinds.{Coding}
use Rattle.image.specs.Image.{first, target, Chain, end, more}
use Rattle.image.specs.Loading.{ImageBreach, Describes}
use Rattle.image.specs.Theorems.{OneModel, OneRefusal}

-- a chain has one list of targets
one_chain : {img : List ℕ} {l : ℕ} {ts us : List ℕ} → Chain img l ts → Chain img l us → ts ≡ us
one_chain end end = refl
one_chain end (more k c) = absurd (omega arith)
one_chain (more k c) end = absurd (omega arith)
one_chain {img} (more {l = l} k c) (more j d) = ap (λ ts. target img l ∷ ts) (one_chain c d)

same_some : (x y : List Bool) → Some x ≡ Some y → x ≡ y
same_some x y e = ap (λ o. unwrap_or o x) e

pub one_model : (c : Coding) (img : List ℕ) (k l : Kripke) → Describes c img k → Describes c img l → k ≡ l
one_model c img k l d e =
    let n = d.counted in
    let m = e.counted in
    let same : k.states ≡ l.states =
    ext_get_or blank_state k.states l.states (omega arith)
    (λ s h.
    let answers = same_some _ _ (sym (d.labelled s (omega arith)) ∙ e.labelled s (omega arith)) in
    let next = one_chain (d.linked s (omega arith)) (e.linked s (omega arith)) in
    get_or_default k.states s blank_state _ h ∙ (both (state k s) (state l s) answers next ∙ sym (get_or_default l.states s blank_state _ (omega arith)))) in
    whole k l (d.begins ∙ sym e.begins) same
  where
    both : (x y : State) → x.answers ≡ y.answers → x.next ≡ y.next → x ≡ y
    both x y p q = λ i. record { answers = p i; next = q i }

    whole : (x y : Kripke) → x.initial ≡ y.initial → x.states ≡ y.states → x ≡ y
    whole x y p q = λ i. record { initial = p i; states = q i }

-- a call's result is the only refusal that the breaches allow
pub one_given : (r : Result (Unit {0}) Refusal) (j : Judgement (Unit {0})) (e : Refusal) → Judged r j → FirstBreach j.breaches j.layer e → r ≡ Err e
one_given (Ok x) j e (clean, good) first = absurd (clean e.cause e.place first.broken)
one_given (Err f) j e (told, after) first = ap Err (one_refusal j.breaches j.layer f e told first)

pub models_one : OneModel
models_one = one_model

pub refusals_one : OneRefusal
refusals_one c img layer = (one_refusal (ImageBreach c img) layer, λ clean e first. clean e.cause e.place first.broken)
