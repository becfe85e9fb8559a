-- The block at a place, in a sealed extent or in the last one.
use Rattle.std.proofs.Common.{◌≡◌, ◌&&◌, nat_lt, nat_eq, ◌<◌, ◌+◌, ◌∙◌, ℕ, zero, suc, Some, None, IsSome, List, [], ◌∷◌, ◌++◌, length, map, ap, refl, arith}
use Rattle.std.specs.List.{slice_get}
use Rattle.std.specs.Option.{option_and_then, option_map, is_some}
use Rattle.stamp_values.specs.declared.place.Place.{Place}
use Rattle.extent_node.specs.Copies.{Block}
use Rattle.extent_seal.specs.Extents.{Open, Closed}
use Rattle.stream_manager.specs.Extents.{closed_blocks, extents}
use Rattle.stream_manager.specs.Places.{block_at}

-- the block at an index of a sealed extent
at_sealed : (sealed : List Closed) (last : List Block) (e i : ℕ) (c : Closed) → slice_get sealed e ≡ Some c
    → option_and_then (λ blocks. slice_get blocks i) (slice_get (map closed_blocks sealed ++ last ∷ []) e) ≡ slice_get c.blocks i
at_sealed [] last e i c h = absurd (grind arith)
at_sealed (x ∷ sealed) last zero i c h = ap (λ o. option_and_then (λ k. slice_get k.blocks i) o) h
at_sealed (x ∷ sealed) last (suc e) i c h = at_sealed sealed last e i c h

-- the block at an index of the last extent
at_last : (sealed : List Closed) (last : List Block) (e i : ℕ) → slice_get sealed e ≡ None
    → IsSome (option_and_then (λ blocks. slice_get blocks i) (slice_get (map closed_blocks sealed ++ last ∷ []) e))
    → option_and_then (λ blocks. slice_get blocks i) (slice_get (map closed_blocks sealed ++ last ∷ []) e) ≡ slice_get last i
at_last [] last zero i h s = refl
at_last [] last (suc e) i h s = absurd (grind arith)
at_last (x ∷ sealed) last zero i h s = absurd (grind arith)
at_last (x ∷ sealed) last (suc e) i h s = at_last sealed last e i h s

-- a place in a sealed extent
pub in_sealed : (sealed : List Closed) (last : Open) (p : Place) (c : Closed) → slice_get sealed p.extent ≡ Some c
    → block_at (extents sealed last) p ≡ slice_get c.blocks p.index
in_sealed sealed last p c h = at_sealed sealed last.blocks p.extent p.index c h

-- a place past the sealed extents is in the last one
pub in_last : (sealed : List Closed) (last : Open) (p : Place) → slice_get sealed p.extent ≡ None
    → IsSome (block_at (extents sealed last) p) → block_at (extents sealed last) p ≡ slice_get last.blocks p.index
in_last sealed last p h s = at_last sealed last.blocks p.extent p.index h s

-- how many extents there are
pub count_of_extents : (sealed : List Closed) (last : Open) → length (extents sealed last) ≡ length sealed + 1
count_of_extents [] last = refl
count_of_extents (x ∷ sealed) last = let h = count_of_extents sealed last in omega arith

sealed_at : (sealed : List Closed) (last : List Block) (e : ℕ) (c : Closed) → slice_get sealed e ≡ Some c
    → slice_get (map closed_blocks sealed ++ last ∷ []) e ≡ Some c.blocks
sealed_at [] last e c h = absurd (grind arith)
sealed_at (x ∷ sealed) last zero c h = ap (λ o. option_map closed_blocks o) h
sealed_at (x ∷ sealed) last (suc e) c h = sealed_at sealed last e c h

last_at : (sealed : List Closed) (last : List Block) (e : ℕ) → slice_get sealed e ≡ None → e < length (map closed_blocks sealed ++ last ∷ [])
    → slice_get (map closed_blocks sealed ++ last ∷ []) e ≡ Some last
last_at [] last zero h s = refl
last_at [] last (suc e) h s = absurd (omega arith)
last_at (x ∷ sealed) last zero h s = absurd (grind arith)
last_at (x ∷ sealed) last (suc e) h s = last_at sealed last e h (omega arith)

-- the blocks of a sealed extent
pub sealed_extent : (sealed : List Closed) (last : Open) (e : ℕ) (c : Closed) → slice_get sealed e ≡ Some c → slice_get (extents sealed last) e ≡ Some c.blocks
sealed_extent sealed last e c h = sealed_at sealed last.blocks e c h

-- the extent after the sealed ones is the last one
pub last_extent : (sealed : List Closed) (last : Open) (e : ℕ) → slice_get sealed e ≡ None → e < length (extents sealed last)
    → slice_get (extents sealed last) e ≡ Some last.blocks
last_extent sealed last e h s = last_at sealed last.blocks e h s

lt_suc : (i n : ℕ) → nat_lt i n ≡ nat_lt (suc i) (suc n)
lt_suc i n = grind arith

eq_suc : (i n : ℕ) → nat_eq i n ≡ nat_eq (suc i) (suc n)
eq_suc i n = grind arith

-- there is something at the indexes below the length, and nowhere else
some_below : {X : Type 0} (xs : List X) (i : ℕ) → is_some (slice_get xs i) ≡ nat_lt i (length xs)
some_below [] i = grind arith
some_below (x ∷ xs) zero = grind arith
some_below (x ∷ xs) (suc i) = some_below xs i ∙ lt_suc i (length xs)

has_last_at : (sealed : List Closed) (last : List Block) (e i : ℕ) → slice_get sealed e ≡ None
    → is_some (option_and_then (λ blocks. slice_get blocks i) (slice_get (map closed_blocks sealed ++ last ∷ []) e)) ≡ (nat_eq e (length sealed) && nat_lt i (length last))
has_last_at [] last zero i h = some_below last i
has_last_at [] last (suc e) i h = grind arith
has_last_at (x ∷ sealed) last zero i h = absurd (grind arith)
has_last_at (x ∷ sealed) last (suc e) i h = has_last_at sealed last e i h ∙ ap (λ b. b && nat_lt i (length last)) (eq_suc e (length sealed))

-- whether a sealed extent has a block at an index
pub has_sealed : (sealed : List Closed) (last : Open) (p : Place) (c : Closed) → slice_get sealed p.extent ≡ Some c
    → is_some (block_at (extents sealed last) p) ≡ nat_lt p.index (length c.blocks)
has_sealed sealed last p c h = ap is_some (in_sealed sealed last p c h) ∙ some_below c.blocks p.index

-- whether the last extent has it
pub has_last : (sealed : List Closed) (last : Open) (p : Place) → slice_get sealed p.extent ≡ None
    → is_some (block_at (extents sealed last) p) ≡ (nat_eq p.extent (length sealed) && nat_lt p.index (length last.blocks))
has_last sealed last p h = has_last_at sealed last.blocks p.extent p.index h
