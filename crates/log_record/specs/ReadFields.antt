-- The values of which changes are made, read from the front of bytes (docs/formats/records.md).
use Rattle.std.specs.Prelude.{ℕ, zero, suc, Bool, ◌==◌, ◌&&◌, nat_le, List, [], ◌∷◌, length, Option, Some, None, option_and_then, option_map, if◌then◌else◌}
use Rattle.std.specs.Int.{w32, w64}
use Rattle.base64_text.specs.Base64.{standard, decoded_of}
use Rattle.stamp_values.specs.Texts.{is_visible}
use Rattle.stamp_values.specs.MetadataLists.{is_metadata}
use Rattle.stamp_values.specs.Letters.{Permissions, letters_of}
use Rattle.stamp_values.specs.Policies.{is_policies}
use Rattle.stamp_values.specs.declared.level.Level.{Level}
use Rattle.stamp_values.specs.declared.level.Level.TheVariants as level
use Rattle.stamp_values.specs.declared.meta.Meta.{Meta}
use Rattle.stamp_values.specs.declared.policy.Policy.{Policy}
use Rattle.stamp_values.specs.declared.acl.Acl.{Acl}
use Rattle.stamp_values.specs.declared.place.Place.{Place}
use Rattle.stamp_values.specs.declared.key.Key.{Key}
use Rattle.stamp_values.specs.declared.block.Taken.{Taken}
use Rattle.stamp_values.specs.declared.block.BlockSource.{BlockSource}
use Rattle.stamp_values.specs.declared.block.BlockSource.TheVariants as source
use Rattle.stamp_types.specs.declared.piece.Piece.{Piece}
use Rattle.stamp_types.specs.declared.piece.Piece.TheVariants.{Bytes, At}
use Rattle.stamp_types.specs.Pieces.{is_pieces}
use Rattle.stamp_types.specs.PropsFields.{PropsFields, is_props}
use Rattle.stamp_types.specs.declared.standing.Standing.{Standing}
use Rattle.stamp_types.specs.declared.committed.Block.{Block}
use Rattle.stamp_types.specs.declared.committed.Committed.{Committed}
use Rattle.stamp_types.specs.declared.committed.UncommittedBlock.{UncommittedBlock}
use Rattle.log_record.specs.Fits.{last_moment, is_text}
use Rattle.log_record.specs.Reading.{Read, ◌>>=◌, number_at, string_at, option_at, list_at, both_at, tested_at, made_at, parsed_at}

-- 1 to 64 bytes
abbrev pub is_id : List ℕ → Bool
is_id t = nat_le 1 (length t) && nat_le (length t) 64

unfoldable pub moment_at : List ℕ → Read ℕ
moment_at = tested_at (λ n. nat_le n last_moment) (number_at w64)

unfoldable pub level_at : List ℕ → Read Level
level_at [] = None
level_at (b ∷ t) =
    if b == 0 then Some (level.Closed, t)
    else if b == 1 then Some (level.Blob, t)
    else if b == 2 then Some (level.Container, t)
    else None

unfoldable pub source_at : List ℕ → Read BlockSource
source_at [] = None
source_at (b ∷ t) = if b == 1 then Some (source.Uncommitted, t) else if b == 2 then Some (source.Committed, t) else None

unfoldable pub text_at : List ℕ → Read (List ℕ)
text_at = tested_at is_text string_at

unfoldable pub visible_at : List ℕ → Read (List ℕ)
visible_at = tested_at is_visible text_at

unfoldable pub id_at : List ℕ → Read (List ℕ)
id_at = tested_at is_id string_at

-- the id that a text is
abbrev pub id_of : List ℕ → Option (List ℕ)
id_of t = if is_id t then Some t else None

-- the id that a text is; the empty text is not an id
abbrev pub optional_id_of : List ℕ → Option (Option (List ℕ))
optional_id_of [] = Some None
optional_id_of (b ∷ t) = option_map Some (id_of (b ∷ t))

unfoldable pub optional_id_at : List ℕ → Read (Option (List ℕ))
optional_id_at = parsed_at optional_id_of string_at

abbrev pub meta_of : List ℕ × List ℕ → Meta
meta_of p = record { name = p.0; value = p.1 }

unfoldable pub meta_at : List ℕ → Read Meta
meta_at = made_at meta_of (both_at text_at visible_at)

unfoldable pub metadata_at : List ℕ → Read (List Meta)
metadata_at = tested_at is_metadata (list_at meta_at)

-- the MD5 that 16 bytes are; nothing if there are no bytes
abbrev pub sum_of : List ℕ → Option (Option (List ℕ))
sum_of [] = Some None
sum_of (b ∷ t) = if length (b ∷ t) == 16 then Some (Some (b ∷ t)) else None

-- the MD5 whose Base64 a text is
abbrev pub md5_of : List ℕ → Option (Option (List ℕ))
md5_of text = option_and_then sum_of (decoded_of standard text)

unfoldable pub md5_at : List ℕ → Read (Option (List ℕ))
md5_at = parsed_at md5_of string_at

abbrev pub props_of : List ℕ × (List ℕ × (List ℕ × (Option (List ℕ) × List ℕ))) → PropsFields
props_of p = record { content_type = p.0; encoding = p.1.0; language = p.1.1.0; cache_control = p.1.1.1.1; md5 = p.1.1.1.0 }

unfoldable pub props_at : List ℕ → Read PropsFields
props_at =
    tested_at is_props (made_at props_of (both_at visible_at (both_at visible_at (both_at visible_at (both_at md5_at visible_at)))))

unfoldable pub letters_at : List ℕ → Read Permissions
letters_at = parsed_at letters_of string_at

abbrev pub policy_of : List ℕ × (Option ℕ × (Option ℕ × Option Permissions)) → Policy
policy_of p = record { id = p.0; start = p.1.0; expiry = p.1.1.0; letters = p.1.1.1 }

unfoldable pub policy_at : List ℕ → Read Policy
policy_at = made_at policy_of (both_at text_at (both_at (option_at moment_at) (both_at (option_at moment_at) (option_at letters_at))))

unfoldable pub policies_at : List ℕ → Read (List Policy)
policies_at = tested_at is_policies (list_at policy_at)

abbrev pub acl_of : Level × List Policy → Acl
acl_of p = record { level = p.0; policies = p.1 }

unfoldable pub acl_at : List ℕ → Read Acl
acl_at = made_at acl_of (both_at level_at policies_at)

abbrev pub place_of : ℕ → ℕ → Place
place_of extent index = record { extent = extent; index = index }

abbrev pub placed_of : ℕ × (ℕ × ℕ) → Place × ℕ
placed_of p = (place_of p.0 p.1.0, p.1.1)

unfoldable pub placed_at : List ℕ → Read (Place × ℕ)
placed_at = made_at placed_of (both_at (number_at w64) (both_at (number_at w64) (number_at w32)))

unfoldable pub piece_at : List ℕ → Read Piece
piece_at [] = None
piece_at (zero ∷ t) = string_at t >>= (λ s. Some (Bytes s.0, s.1))
piece_at (suc zero ∷ t) = placed_at t >>= (λ p. Some (At p.0.0 p.0.1, p.1))
piece_at (suc (suc b) ∷ t) = None

unfoldable pub pieces_at : List ℕ → Read (List Piece)
pieces_at = tested_at is_pieces (list_at piece_at)

abbrev pub block_of : Option (List ℕ) × List Piece → Block (List Piece)
block_of p = record { id = p.0; content = p.1 }

unfoldable pub block_at : List ℕ → Read (Block (List Piece))
block_at = made_at block_of (both_at optional_id_at pieces_at)

abbrev pub committed_of : ℕ × (ℕ × (PropsFields × (List Meta × List (Block (List Piece))))) → Committed (List Piece)
committed_of p = record { etag = p.0; made = p.1.0; props = p.1.1.0; metadata = p.1.1.1.0; blocks = p.1.1.1.1 }

unfoldable pub committed_at : List ℕ → Read (Committed (List Piece))
committed_at = made_at committed_of (both_at (number_at w64) (both_at moment_at (both_at props_at (both_at metadata_at (list_at block_at)))))

abbrev pub uncommitted_of : List ℕ × List Piece → UncommittedBlock
uncommitted_of p = record { id = p.0; content = p.1 }

unfoldable pub uncommitted_at : List ℕ → Read UncommittedBlock
uncommitted_at = made_at uncommitted_of (both_at id_at pieces_at)

abbrev pub standing_of : ℕ × (ℕ × (Level × (List Meta × List Policy))) → Standing
standing_of p = record { etag = p.0; made = p.1.0; metadata = p.1.1.1.0; acl = acl_of (p.1.1.0, p.1.1.1.1) }

unfoldable pub standing_at : List ℕ → Read Standing
standing_at = made_at standing_of (both_at (number_at w64) (both_at moment_at (both_at level_at (both_at metadata_at policies_at))))

abbrev pub taken_of : List ℕ × BlockSource → Taken
taken_of p = record { id = p.0; from = p.1 }

unfoldable pub taken_at : List ℕ → Read Taken
taken_at = made_at taken_of (both_at id_at source_at)

abbrev pub key_of : List ℕ × List ℕ → Key
key_of p = record { account = p.0; container = p.1 }

unfoldable pub key_at : List ℕ → Read Key
key_at = made_at key_of (both_at text_at text_at)
