-- The changes of blocks.
use Rattle.std.proofs.Common.{◌≡◌, ◌∙◌, ◌<◌, ◌^◌, ℕ, Bool, true, false, Option, Some, None, Ok, List, [], ◌∷◌, ◌++◌, All, map, ap, refl}
use Rattle.std.specs.List.{cons_option}
use Rattle.std.specs.Option.{option_and_then, option_to_list}
use Rattle.std.specs.Result.{result_ok}
use Rattle.std.proofs.lemmas.List.Elements.{All-head, All-tail, filter_map-append}
use Rattle.extent_node.specs.Copies.{Block}
use Rattle.extent_node.specs.Faults.{held}
use Rattle.stamp_types.specs.Changes.{KeyedAct}
use Rattle.log_record.specs.Fits.{IsRecorded}
use Rattle.log_record.specs.Records.{record_bytes}
use Rattle.log_record.specs.ReadRecords.{record_of}
use Rattle.log_record.proofs.RecordLemmas.{bytes_again, record_again, second_version}
use Rattle.partition_stream.specs.Changes.{Recorded, change_in, changes_of}
use Rattle.partition_stream.specs.Storing.{IsRecord}
use Rattle.partition_stream.specs.Written.{Written, IsWritten, said_of, written_bytes}

-- a block that was written of a change and its epoch is read as these
pub change_in-written : (block : Block) (c : KeyedAct) (epoch : ℕ) → IsRecorded c → epoch < 2 ^ 64 → block ≡ record_bytes 2 c epoch → change_in block ≡ Some (c, epoch)
change_in-written block c epoch fits within bytes = ap result_ok (bytes_again block c epoch fits within (second_version block c epoch bytes))

pub record_read : (block : Block) (r : IsRecord block) → record_of block ≡ Ok (r.change, r.epoch)
record_read block r = bytes_again block r.change r.epoch r.fits r.within r.bytes

pub change_in-block : (block : Block) (r : IsRecord block) → change_in block ≡ Some (r.change, r.epoch)
change_in-block block r = ap result_ok (record_read block r)

one_of : (o : Option Recorded) → cons_option o [] ≡ option_to_list o
one_of None = refl
one_of (Some c) = refl

-- what was kept of a doubt
pub changes_of-held : (kept : Bool) (tried : Option Block) → changes_of (held kept tried) ≡ held kept (option_and_then change_in tried)
changes_of-held false tried = refl
changes_of-held true None = refl
changes_of-held true (Some d) = one_of (change_in d)

-- one more record is one more change
pub changes_of-one : (block : Block) (c : Recorded) → change_in block ≡ Some c → changes_of (block ∷ []) ≡ c ∷ []
changes_of-one block c e = ap (λ o. cons_option o []) e

pub changes_of-more : (blocks added : List Block) → changes_of (blocks ++ added) ≡ changes_of blocks ++ changes_of added
changes_of-more blocks added = filter_map-append change_in blocks added

pub changes_of-next : (blocks more : List Block) (block : Block) (c : Recorded) → more ≡ blocks ++ block ∷ [] → change_in block ≡ Some c → changes_of more ≡ changes_of blocks ++ c ∷ []
changes_of-next blocks more block c m e =
    ap changes_of m ∙ changes_of-more blocks (block ∷ []) ∙ ap (λ l. changes_of blocks ++ l) (changes_of-one block c e)

-- a record that was written is read as what it was written of
pub change_in-record : (w : Written) → IsWritten w → change_in (written_bytes w) ≡ Some (said_of w)
change_in-record w is = ap result_ok (record_again w.version w.change w.epoch is.known is.fits is.epoch)

changes_of-records : (ws : List Written) → All IsWritten ws → changes_of (map written_bytes ws) ≡ map said_of ws
changes_of-records [] fit = refl
changes_of-records (w ∷ ws) fit =
    ap (λ o. cons_option o (changes_of (map written_bytes ws))) (change_in-record w (All-head IsWritten w ws fit))
    ∙ ap (λ l. said_of w ∷ l) (changes_of-records ws (All-tail IsWritten w ws fit))

pub changes_of-written : (blocks : List Block) (ws : List Written) → All IsWritten ws → blocks ≡ map written_bytes ws → changes_of blocks ≡ map said_of ws
changes_of-written blocks ws fit bytes = ap changes_of bytes ∙ changes_of-records ws fit
