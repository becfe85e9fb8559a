-- The parts of a stream before and after a call (SOSP 2011, sections 4.1 and 4.3).
use Rattle.std.specs.Prelude.{◌≡◌, ◌≤◌, ◌<◌, ◌+◌, Bool, true, None, List, [], ◌∷◌, ◌++◌, length}
use Rattle.std.specs.Option.{is_some}
use Rattle.extent_node.specs.Copies.{Block}
use Rattle.extent_node.specs.Faults.{Calls, held}
use Rattle.extent_seal.specs.Counting.{FailsEach}
use Rattle.stream_manager.specs.Counting.{FailsNoPut}
use Rattle.stream_manager.specs.Extents.{extents}
use Rattle.stream_manager.specs.Places.{Decides, Follows}
use Rattle.stream_manager.specs.Sizes.{IsWithin, AreSized, AreCounted}
use Rattle.stream_manager.specs.declared.parts.Parts.{Parts}

-- the blocks of each extent
abbrev pub extents_of : Parts → List (List Block)
extents_of p = extents p.sealed.extents p.last.extent

-- no extent has too many bytes, and the number that is kept beside the last extent is its bytes
pub record IsWhole (p : Parts) : Type 0 where
  pub sized : AreSized p.limit p.sealed.extents p.last.extent
  pub counted : AreCounted p.bytes p.last.extent

-- the parts after a call are whole, and have the limit of those before it
pub record StaysWhole (p q : Parts) : Type 0 where
  pub whole : IsWhole q
  pub limit : q.limit ≡ p.limit

-- a block may be tried on the last extent: nothing is in doubt, the block is not too large for the extent, and there is room for it
pub record IsReadyFor (p : Parts) (block : Block) : Type 0 where
  pub fits : IsWithin p.limit (p.last.extent.blocks ++ block ∷ [])
  pub clear : p.last.extent.tried ≡ None
  pub last_room : 0 < p.last.room

-- no extent was sealed, and each extent is as it was
pub record IsUnsealed (p q : Parts) : Type 0 where
  pub same_sealed : q.sealed.extents ≡ p.sealed.extents
  pub same_len : length q.sealed.extents ≡ length p.sealed.extents
  pub same_last : q.last.extent ≡ p.last.extent

-- nothing changed but the room for what comes
pub record IsSame (p q : Parts) : Type 0 where
  pub unsealed : IsUnsealed p q
  pub same_limit : q.limit ≡ p.limit
  pub same_bytes : q.bytes ≡ p.bytes

-- no node answered the seal of the last extent: no extent was sealed, and the ask of each node failed
pub record IsUnanswered (p q : Parts) (from to : Calls) : Type 0 where
  pub unsealed : IsUnsealed p q
  pub unanswered : FailsEach from to

-- the last extent was sealed: there is one sealed extent more, an extent without blocks follows, which was made before, and no put failed
pub record SealsLast (p q : Parts) (from to : Calls) : Type 0 where
  pub blocks : q.last.extent.blocks ≡ []
  pub tried : q.last.extent.tried ≡ None
  pub longer : length q.sealed.extents ≡ length p.sealed.extents + 1
  pub last_room : q.last.room ≡ p.spares.next
  pub next_room : q.spares.next ≡ p.spares.after
  pub counted : FailsNoPut from to

-- a doubt has ended, if there was one: its block follows if it was kept, and the extent that had it is sealed
pub record EndsDoubt (kept : Bool) (p q : Parts) : Type 0 where
  pub follows : Follows (extents_of p) (held kept p.last.extent.tried) (extents_of q)
  pub decided : is_some p.last.extent.tried ≡ true → Decides kept (length p.sealed.extents) p.last.extent (extents_of q)

-- at most one extent was sealed, in room that was there before
pub record SealsAtMostOne (p q : Parts) : Type 0 where
  pub one_more : length q.sealed.extents ≤ length p.sealed.extents + 1
  pub room : q.sealed.room + length q.sealed.extents ≡ p.sealed.room + length p.sealed.extents
