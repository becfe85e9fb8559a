-- A walk over all blocks.
use Rattle.std.proofs.Common.{◌≡◌, ◌<◌, ◌+◌, ℕ, zero, suc, Some, List, [], ◌∷◌, ◌++◌, length, map, take, sym, ap, refl, arith, append-nil, append_assoc}
use Rattle.std.specs.List.{slice_get}
use Rattle.std.proofs.lemmas.Grind.{flat_map-append}
use Rattle.std.proofs.lemmas.List.{take_all}
use Rattle.std.proofs.lemmas.Option.{get_or_from_slice_get}
use Rattle.std.specs.Option.{option_and_then}
use Rattle.extent_node.specs.Copies.{Block}
use Rattle.extent_seal.specs.Extents.{Open, Closed}
use Rattle.extent_seal.proofs.RepairLemmas.{take_next}
use Rattle.stream_manager.specs.Extents.{extents, closed_blocks}
use Rattle.stream_manager.specs.Places.{blocks_of}
use Rattle.stream_manager.specs.Walks.{before}

-- one more block of an extent
pub before_next : (es : List (List Block)) (e i : ℕ) (blocks : List Block) (b : Block)
    → slice_get es e ≡ Some blocks → slice_get blocks i ≡ Some b → before es e (i + 1) ≡ before es e i ++ b ∷ []
before_next es e i blocks b h k =
    let there = get_or_from_slice_get es e blocks [] h in
    rw (there, take_next blocks i b k) (sym (append_assoc (blocks_of (take e es)) (take i blocks) (b ∷ [])))

-- from the end of an extent to the beginning of the next one
pub before_over : (es : List (List Block)) (e : ℕ) (blocks : List Block) → slice_get es e ≡ Some blocks → before es (e + 1) 0 ≡ before es e (length blocks)
before_over es e blocks h =
    let there = get_or_from_slice_get es e blocks [] h in
    let all = take_all (length blocks) blocks (omega arith) in
    rw (there, all, take_next es e blocks h) (grind (arith, flat_map-append, append-nil))

-- after the last extent
pub before_all : (es : List (List Block)) → before es (length es) 0 ≡ blocks_of es
before_all es = rw (take_all (length es) es (omega arith)) (append-nil (blocks_of es))

-- an extent before the last one does not depend on the last one
front_any : (sealed : List Closed) (a b : List Block) (e : ℕ) → e < length sealed
    → slice_get (map closed_blocks sealed ++ a ∷ []) e ≡ slice_get (map closed_blocks sealed ++ b ∷ []) e
front_any [] a b e h = absurd (omega arith)
front_any (x ∷ sealed) a b zero h = refl
front_any (x ∷ sealed) a b (suc e) h = front_any sealed a b e (omega arith)

pub shared_at : (old new : List Closed) (a b : Open) (e i : ℕ) → new ≡ old → e < length old
    → option_and_then (λ blocks. slice_get blocks i) (slice_get (extents new b) e) ≡ option_and_then (λ blocks. slice_get blocks i) (slice_get (extents old a) e)
shared_at old new a b e i h l = rw h (ap (λ o. option_and_then (λ blocks. slice_get blocks i) o) (front_any old b.blocks a.blocks e l))
