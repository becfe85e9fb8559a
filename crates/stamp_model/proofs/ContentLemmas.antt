-- Content may be read before a request or after it.
use Rattle.std.proofs.Common.{◌≡◌, ℕ, List, Option, Some, None, refl, sym, ap, ◌∙◌}
use Rattle.stamp_types.specs.declared.piece.Piece.{Piece}
use Rattle.stamp_types.specs.Changes.{KeyedAct}
use Rattle.stamp_types.specs.Contents.{EachContent}
use Rattle.stamp_types.specs.Requests.{Asked}
use Rattle.stamp_types.specs.World.{Part, World, part_at, part_value, world_value}
use Rattle.stamp_types.proofs.WorldLemmas.{part_at-world_value}
use Rattle.stamp_types.proofs.ContentReadings.{part_value-chain, part_value-alike, world_value-changed_in}
use Rattle.access_rules.specs.declared.keys.Keys.{Keys}
use Rattle.stamp_model.specs.Effects.{accepted, world_after, effect_as}

module _ {C D : Type 0} (read : C → D) (size : C → ℕ) (other : D → ℕ) where
  -- the container has the same sizes, if each content keeps its size when it is read
  pub sizes-read : (p : Part C) → EachContent (λ c. other (read c) ≡ size c) p → part_value other (part_value read p) ≡ part_value size p
  sizes-read p sized = part_value-chain other read p ∙ part_value-alike (λ c. other (read c)) size p sized

  module _ (f : List Piece → C) where
    world_value-after : (change : Option KeyedAct) (w : World C) → world_value read (world_after f change w) ≡ world_after (λ ps. read (f ps)) change (world_value read w)
    world_value-after None w = refl
    world_value-after (Some c) w = world_value-changed_in read f w c

    pub world_value-effect : (keys : Option Keys) (w : World C) (q : Asked) (t : ℕ) → EachContent (λ c. other (read c) ≡ size c) (part_at w q.ask.key)
        → world_value read (effect_as size f keys w q t) ≡ effect_as other (λ ps. read (f ps)) keys (world_value read w) q t
    world_value-effect keys w q t sized =
        world_value-after (accepted keys (part_value size (part_at w q.ask.key)) q t) w
        ∙ ap (λ (p : Part ℕ). world_after (λ ps. read (f ps)) (accepted keys p q t) (world_value read w))
        (sym (ap (part_value other) (part_at-world_value read w q.ask.key) ∙ sizes-read (part_at w q.ask.key) sized))
