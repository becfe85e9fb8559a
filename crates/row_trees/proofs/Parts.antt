-- The parts of a world that rows look up and write back, and content that stays as it is.
use Rattle.std.proofs.Common.{◌≡◌, ◌∙◌, Bool, List, [], ◌∷◌, ℕ, Option, Some, None, filter, map, refl, ap, sym}
use Rattle.std.proofs.lemmas.List.{nil_from_length}
use Rattle.std.specs.Option.{option_map}
use Rattle.std.specs.FinMap.{entries, get, insert, get-empty, len-empty, len-entries}
use Rattle.stamp_values.specs.declared.key.Key.{Key}
use Rattle.stamp_values.specs.Order.{name_cmp, keys_total, keys_exact}
use Rattle.stamp_values.proofs.TreeMaps.{insert_same}
use Rattle.stamp_types.specs.declared.committed.Block.{Block}
use Rattle.stamp_types.specs.declared.committed.Committed.{Committed}
use Rattle.stamp_types.specs.declared.piece.Piece.{Piece}
use Rattle.stamp_types.specs.World.{Blob, World, Part, no_part, block_value, committed_value, same_pieces}

-- a world does not change if a container that it has is put under its own key
pub same_world : (w : World (List Piece)) (k : Key) (p : Part (List Piece)) → get w k ≡ Some p → insert w k p ≡ w
same_world = insert_same keys_total keys_exact

-- a container that never was has no blobs
pub blob_of_no_part : (name : List ℕ) → get (no_part {C = List Piece}).blobs name ≡ None
blob_of_no_part = get-empty name_cmp

no_entries : entries (no_part {C = List Piece}).blobs ≡ []
no_entries = nil_from_length _ (sym (len-entries _) ∙ len-empty name_cmp (Blob (List Piece)))

-- nothing is left of the blobs of a container that never was
pub no_blobs : (test : List ℕ × Blob (List Piece) → Bool) → [] ≡ filter test (entries (no_part {C = List Piece}).blobs)
no_blobs test = ap (filter test) (sym no_entries)

same_blocks : (bs : List (Block (List Piece))) → map (block_value same_pieces) bs ≡ bs
same_blocks [] = refl
same_blocks (b ∷ bs) = ap (λ (r : List (Block (List Piece))). b ∷ r) (same_blocks bs)

-- a committed part with its own pieces as its content is that committed part
pub same_committed : (o : Option (Committed (List Piece))) → option_map (committed_value same_pieces) o ≡ o
same_committed None = refl
same_committed (Some c) = ap (λ (bs : List (Block (List Piece))). Some (record { etag = c.etag; made = c.made; props = c.props; metadata = c.metadata; blocks = bs })) (same_blocks c.blocks)
