-- A walk over blocks.
use Rattle.std.proofs.Common.{◌≡◌, ◌≤◌, ◌+◌, ◌∙◌, ℕ, zero, suc, Option, Some, None, IfSome, IsSome, IsSomeAnd, List, [], ◌∷◌, ◌++◌, All, length, ap, refl, arith, append-nil}
use Rattle.std.specs.List.{slice_get}
use Rattle.std.specs.Option.{option_and_then}
use Rattle.std.proofs.lemmas.List.{get_or_past, take_all}
use Rattle.std.proofs.lemmas.List.Elements.{All-head, All-tail}
use Rattle.std.proofs.lemmas.Option.{get_or_from_slice_get}
use Rattle.stamp_values.specs.declared.place.Place.{Place}
use Rattle.extent_node.specs.Copies.{Block}
use Rattle.stream_manager.specs.Places.{block_at, blocks_of}
use Rattle.stream_manager.specs.Walks.{before}
use Rattle.stream_manager.proofs.WalkLemmas.{before_next, before_over}
use Rattle.partition_stream.specs.Changes.{Recorded, change_in, changes_of}
use Rattle.partition_stream.proofs.ChangeLemmas.{changes_of-next}

abbrev no_extent : List Block
no_extent = []

-- past the last extent
pub before-past : (es : List (List Block)) (e i : ℕ) → length es ≤ e → before es e i ≡ blocks_of es
before-past es e i past =
    rw (take_all e es past, get_or_past es e [] past, take_all i (no_extent) (omega arith)) (append-nil (blocks_of es))

-- past the last block of an extent
pub before-over : (es : List (List Block)) (e i : ℕ) (blocks : List Block) → slice_get es e ≡ Some blocks → length blocks ≤ i → before es (e + 1) 0 ≡ before es e i
before-over es e i blocks h past =
    let there = get_or_from_slice_get es e blocks [] h in
    before_over es e blocks h ∙ rw (there, take_all i blocks past, take_all (length blocks) blocks (omega arith)) refl

extent_over : (es : List (List Block)) (e i n : ℕ) (o : Option (List Block)) → slice_get es e ≡ o → IsSomeAnd o (λ blocks. n ≡ length blocks) → n ≤ i → before es (e + 1) 0 ≡ before es e i
extent_over es e i n (Some blocks) h len past = before-over es e i blocks h (omega arith)
extent_over es e i n None h len past = absurd len

-- past the length of an extent
pub before-extent : (es : List (List Block)) (e i n : ℕ) → IsSomeAnd (slice_get es e) (λ blocks. n ≡ length blocks) → n ≤ i → before es (e + 1) 0 ≡ before es e i
before-extent es e i n len past = extent_over es e i n (slice_get es e) refl len past

-- ---- the blocks at places

front_all : {X : Type 0} (P : X → Type 0) (xs ys : List X) (i : ℕ) → All P (xs ++ ys) → IfSome (slice_get xs i) P
front_all P [] ys i all = tt
front_all P (x ∷ xs) ys zero all = All-head P x (xs ++ ys) all
front_all P (x ∷ xs) ys (suc i) all = front_all P xs ys i (All-tail P x (xs ++ ys) all)

back_all : {X : Type 0} (P : X → Type 0) (xs ys : List X) → All P (xs ++ ys) → All P ys
back_all P [] ys all = all
back_all P (x ∷ xs) ys all = back_all P xs ys (All-tail P x (xs ++ ys) all)

block_all : (P : Block → Type 0) (es : List (List Block)) (e i : ℕ) → All P (blocks_of es) → IfSome (option_and_then (λ blocks. slice_get blocks i) (slice_get es e)) P
block_all P [] e i all = tt
block_all P (blocks ∷ es) zero i all = front_all P blocks (blocks_of es) i all
block_all P (blocks ∷ es) (suc e) i all = block_all P es e i (back_all P blocks (blocks_of es) all)

there_and : (P : Block → Type 0) (o : Option Block) → IfSome o P → IsSome o → IsSomeAnd o P
there_and P (Some block) own some = own
there_and P None own some = absurd cc

-- what is so of each block is so of the block at a place
pub at_place : (P : Block → Type 0) (es : List (List Block)) (p : Place) → All P (blocks_of es) → IsSome (block_at es p) → IsSomeAnd (block_at es p) P
at_place P es p all some = there_and P (block_at es p) (block_all P es p.extent p.index all) some

-- ---- the changes before a position

after_block : (es : List (List Block)) (e i : ℕ) (blocks : List Block) (o : Option Block) (c : Recorded) → slice_get es e ≡ Some blocks → slice_get blocks i ≡ o
    → IsSomeAnd o (λ block. change_in block ≡ Some c) → changes_of (before es e (i + 1)) ≡ changes_of (before es e i) ++ c ∷ []
after_block es e i blocks (Some block) c h k own = changes_of-next (before es e i) (before es e (i + 1)) block c (before_next es e i blocks block h k) own
after_block es e i blocks None c h k own = absurd own

after_extent : (es : List (List Block)) (e i : ℕ) (o : Option (List Block)) (c : Recorded) → slice_get es e ≡ o
    → IsSomeAnd (option_and_then (λ blocks. slice_get blocks i) o) (λ block. change_in block ≡ Some c) → changes_of (before es e (i + 1)) ≡ changes_of (before es e i) ++ c ∷ []
after_extent es e i (Some blocks) c h own = after_block es e i blocks (slice_get blocks i) c h refl own
after_extent es e i None c h own = absurd own

-- after a block there is one change more
pub changes_after : (es : List (List Block)) (e i : ℕ) (p : Place) (c : Recorded) → before es p.extent p.index ≡ before es e i
    → IsSomeAnd (block_at es p) (λ block. change_in block ≡ Some c) → changes_of (before es p.extent (p.index + 1)) ≡ changes_of (before es e i) ++ c ∷ []
changes_after es e i p c same own =
    after_extent es p.extent p.index (slice_get es p.extent) c refl own ∙ ap (λ blocks. changes_of blocks ++ c ∷ []) same
