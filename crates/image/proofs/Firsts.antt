-- The first breach of an image, for each way that the check can end.
use Rattle.std.proofs.Common.{◌≡◌, ◌≢◌, ℕ, suc, ◌<◌, ◌≤◌, List, length, sym, refl, subst, arith}
use Rattle.kripke.proofs.Orders.{lower, same_lower}
use Rattle.kripke.specs.Refusals.{Before, FirstBreach, Clean}
use Rattle.kripke.specs.declared.refusal.Cause.{Cause}
use Rattle.kripke.specs.declared.refusal.Cause.TheVariants.{ShortImage, HeaderField, ImageLength, StateRecord, LinkRecord, LongChain}
use Rattle.kripke.specs.declared.refusal.Layer.{Layer}
use Rattle.labels.specs.Kinds.{Coding}
use Rattle.image.specs.Checks.{GoodHeader}
use Rattle.image.specs.Image.{most_states, most_links, most_successors, byte_at, kind_of, states, links, whole, state_at, link_at, first, Link, Walk}
use Rattle.image.specs.Loading.{BadField, kind, gap, state_count, link_count, begins, GoodState, GoodLink, ImageBreach, short, field, sized, entry, link, chain}

module _ (c : Coding) (img : List ℕ) where
  -- the fields before a place are in order
  pub fields_before : (p : ℕ) → p ≤ 6 → (0 < p → kind_of img ≡ c.kind) → (1 < p → byte_at img 1 ≡ 0)
      → (2 < p → (1 ≤ states img) × (states img ≤ most_states)) → (4 < p → (1 ≤ links img) × (links img ≤ most_links)) → (q : ℕ) → q < p → ¬ BadField c img q
  fields_before p six f0 f1 f2 f4 q l (kind h) = h (f0 l)
  fields_before p six f0 f1 f2 f4 q l (gap h) = h (f1 l)
  fields_before p six f0 f1 f2 f4 q l (state_count h) = h (f2 l)
  fields_before p six f0 f1 f2 f4 q l (link_count h) = h (f4 l)
  fields_before p six f0 f1 f2 f4 q l (begins h) = omega arith

  -- all fields are in order
  no_field : GoodHeader c img → (p : ℕ) → ¬ BadField c img p
  no_field g p (kind h) = h g.kind
  no_field g p (gap h) = h g.gap
  no_field g p (state_count h) = h (g.some, g.few)
  no_field g p (link_count h) = h (g.some_links, g.few_links)
  no_field g p (begins h) = h g.begins

  module _ (layer : Layer) where
    pub first_short : length img < 8 → FirstBreach (ImageBreach c img) layer record { cause = ShortImage; layer = layer; place = length img }
    first_short n = record { broken = short n; least = refute; layered = refl }
      where
        refute : (d : Cause) (q : ℕ) → Before d q ShortImage (length img) → ¬ ImageBreach c img d q
        refute d q b (short h) = let l = same_lower b in omega arith
        refute d q b (field h) = let l = lower b in omega arith
        refute d q b (sized h) = let l = lower b in omega arith
        refute d q b (entry s h) = let l = lower b in omega arith
        refute d q b (link s h) = let l = lower b in omega arith
        refute d q b (chain s h) = let l = lower b in omega arith

    pub first_field : (p : ℕ) → 8 ≤ length img → BadField c img p → ((q : ℕ) → q < p → ¬ BadField c img q)
        → FirstBreach (ImageBreach c img) layer record { cause = HeaderField; layer = layer; place = p }
    first_field p n bad before = record { broken = field bad; least = refute; layered = refl }
      where
        refute : (d : Cause) (q : ℕ) → Before d q HeaderField p → ¬ ImageBreach c img d q
        refute d q b (short h) = omega arith
        refute d q b (field h) = before q (same_lower b) h
        refute d q b (sized h) = let l = lower b in omega arith
        refute d q b (entry s h) = let l = lower b in omega arith
        refute d q b (link s h) = let l = lower b in omega arith
        refute d q b (chain s h) = let l = lower b in omega arith

    module _ (header : GoodHeader c img) where
      pub first_sized : (p : ℕ) → 8 ≤ length img → p ≡ whole img → length img ≢ whole img → FirstBreach (ImageBreach c img) layer record { cause = ImageLength; layer = layer; place = p }
      first_sized p long e bad = record { broken = subst (λ (x : ℕ). ImageBreach c img ImageLength x) (sym e) (sized bad); least = refute; layered = refl }
        where
          refute : (d : Cause) (q : ℕ) → Before d q ImageLength p → ¬ ImageBreach c img d q
          refute d q b (short h) = omega arith
          refute d q b (field h) = no_field header q h
          refute d q b (sized h) = let l = same_lower b in omega arith
          refute d q b (entry s h) = let l = lower b in omega arith
          refute d q b (link s h) = let l = lower b in omega arith
          refute d q b (chain s h) = let l = lower b in omega arith

      module _ (full : length img ≡ whole img) where
        pub first_state : (s : ℕ) → s < states img → ¬ GoodState c img s → ((t : ℕ) → t < s → GoodState c img t)
            → FirstBreach (ImageBreach c img) layer record { cause = StateRecord; layer = layer; place = state_at s }
        first_state s n bad before = record { broken = entry n bad; least = refute; layered = refl }
          where
            refute : (d : Cause) (q : ℕ) → Before d q StateRecord (state_at s) → ¬ ImageBreach c img d q
            refute d q b (short h) = omega arith
            refute d q b (field h) = no_field header q h
            refute d q b (sized h) = h full
            refute d q b (entry {s = t} i h) = let l = same_lower b in h (before t (omega arith))
            refute d q b (link i h) = let l = lower b in omega arith
            refute d q b (chain i h) = let l = lower b in omega arith

        module _ (good : (s : ℕ) → s < states img → GoodState c img s) where
          pub first_link : (k : ℕ) → Link img k → ¬ GoodLink img k → ((i : ℕ) → 1 ≤ i → i < k → GoodLink img i)
              → FirstBreach (ImageBreach c img) layer record { cause = LinkRecord; layer = layer; place = link_at img k }
          first_link k n bad before = record { broken = link n bad; least = refute; layered = refl }
            where
              refute : (d : Cause) (q : ℕ) → Before d q LinkRecord (link_at img k) → ¬ ImageBreach c img d q
              refute d q b (short h) = omega arith
              refute d q b (field h) = no_field header q h
              refute d q b (sized h) = h full
              refute d q b (entry {s = t} i h) = h (good t i)
              refute d q b (link {l = j} i h) = let l = same_lower b in h (before j i.0 (omega arith))
              refute d q b (chain i h) = let l = lower b in omega arith

          module _ (linked : (k : ℕ) → Link img k → GoodLink img k) where
            pub first_chain : (s : ℕ) → s < states img → Walk img (first img s) (suc most_successors) → ((t : ℕ) → t < s → ¬ Walk img (first img t) (suc most_successors))
                → FirstBreach (ImageBreach c img) layer record { cause = LongChain; layer = layer; place = state_at s }
            first_chain s n bad before = record { broken = chain n bad; least = refute; layered = refl }
              where
                refute : (d : Cause) (q : ℕ) → Before d q LongChain (state_at s) → ¬ ImageBreach c img d q
                refute d q b (short h) = omega arith
                refute d q b (field h) = no_field header q h
                refute d q b (sized h) = h full
                refute d q b (entry {s = t} i h) = h (good t i)
                refute d q b (link {l = j} i h) = h (linked j i)
                refute d q b (chain {s = t} i h) = let l = same_lower b in before t (omega arith) h

            pub no_breach : ((s : ℕ) → s < states img → ¬ Walk img (first img s) (suc most_successors)) → Clean (ImageBreach c img)
            no_breach ends d q (short h) = omega arith
            no_breach ends d q (field h) = no_field header q h
            no_breach ends d q (sized h) = h full
            no_breach ends d q (entry {s = t} i h) = h (good t i)
            no_breach ends d q (link {l = j} i h) = h (linked j i)
            no_breach ends d q (chain {s = t} i h) = ends t i h
