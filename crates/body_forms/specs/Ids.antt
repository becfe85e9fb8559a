-- The ids of a block list (Blob service REST reference, 2012-02-12, Put Block and Put Block List; RFC 4648, section 4).
use Rattle.std.specs.Prelude.{◌≡◌, ℕ, Bool, true, not, if◌then◌else◌, List, [], ◌∷◌, All, length, Option, Some, None, option_map, option_and_then, Result, Ok, Err}
use Rattle.stamp_values.specs.Names.{is_within}
use Rattle.stamp_values.specs.declared.block.Wanted.{Wanted}
use Rattle.base64_text.specs.Base64.{standard, encode_of, decoded_of, is_base64_within, IsBytes}
use Rattle.body_forms.specs.declared.body_fault.BodyFault.{BodyFault}
use Rattle.body_forms.specs.declared.body_fault.BodyFault.TheVariants as fault
use Rattle.body_forms.specs.BlockLists.{Entry}
use Rattle.body_forms.specs.BlockListReading.{body_entries}

-- the text of the entry is not the strict Base64 of 1 to 64 bytes
abbrev pub has_bad_id : Entry → Bool
has_bad_id e = not (is_base64_within 1 64 e.id_text)

-- a block that is wanted, as an entry: the text is the Base64 of the id
abbrev pub wanted_entry : Wanted → Entry
wanted_entry w = record { lookup = w.lookup; id_text = encode_of standard w.id }

-- the id of a block: 1 to 64 bytes
abbrev pub IsBlockId : List ℕ → Type 0
IsBlockId id = IsBytes id × (is_within 1 64 (length id) ≡ true)

-- each block that is wanted has such an id
abbrev pub HaveBlockIds : List Wanted → Type 0
HaveBlockIds ws = All (λ w. IsBlockId w.id) ws

-- ---- the reading as a function

-- the bytes, if there are 1 to 64 bytes
abbrev pub if_id : List ℕ → Option (List ℕ)
if_id bytes = if is_within 1 64 (length bytes) then Some bytes else None

-- the id that the text is the strict Base64 of
unfoldable pub id_of : List ℕ → Option (List ℕ)
id_of text = option_and_then if_id (decoded_of standard text)

-- the block that an entry wants, if its text is the text of an id
abbrev pub wanted_of : Entry → Option Wanted
wanted_of e = option_map (λ id. record { id = id; lookup = e.lookup }) (id_of e.id_text)

-- the blocks that the entries want, if each text is the text of an id
unfoldable pub wanted_list : List Entry → Option (List Wanted)
wanted_list [] = Some []
wanted_list (e ∷ es) = option_and_then (λ w. option_map (λ ws. w ∷ ws) (wanted_list es)) (wanted_of e)

-- the blocks that are wanted, or the fault of the ids
abbrev pub listed_ids : Option (List Wanted) → Result (List Wanted) BodyFault
listed_ids (Some ws) = Ok ws
listed_ids None = Err fault.Id

-- the blocks that a list of entries wants, or the fault of the form or of the ids
abbrev pub listed_blocks : Option (List Entry) → Result (List Wanted) BodyFault
listed_blocks (Some es) = listed_ids (wanted_list es)
listed_blocks None = Err fault.Form

-- what a body says as a block list: the blocks that it wants, or its fault
abbrev pub block_list_reading : List ℕ → Result (List Wanted) BodyFault
block_list_reading body = listed_blocks (body_entries body)
