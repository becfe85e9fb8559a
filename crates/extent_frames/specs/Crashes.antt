-- The bytes that a crash leaves of a segment, and the frames that are read of them (docs/formats/journal.md).
use Rattle.std.specs.Prelude.{◌≡◌, ◌≢◌, ◌<◌, ◌≤◌, ◌⊎◌, ◌^◌, ℕ, List, [], ◌∷◌, ◌++◌, length, take, replicate, Some}
use Rattle.std.specs.List.{slice_get}
use Rattle.extent_frames.specs.Frames.{EntryBytes, SegmentDigest, AreEntries, frame_of, frames_of}
use Rattle.extent_frames.specs.ReadFrames.{HasFrames, first_frame}

-- a length that a file can have
abbrev pub IsFileLength : List ℕ → Type 0
IsFileLength file = length file < 2 ^ 64

-- a file has only one list of entries
abbrev pub HasOneReading : SegmentDigest → Type 0
HasOneReading digest = (file : List ℕ) (xs ys : List EntryBytes) → IsFileLength file → HasFrames digest file xs → HasFrames digest file ys → xs ≡ ys

-- if a file begins with the frames of acknowledged entries, they are read first, whatever the other bytes are
abbrev pub KeepsAcknowledged : SegmentDigest → Type 0
KeepsAcknowledged digest = (acknowledged : List EntryBytes) (tail : List ℕ) (entries : List EntryBytes)
    → AreEntries acknowledged
    → IsFileLength (frames_of digest 0 acknowledged ++ tail)
    → HasFrames digest (frames_of digest 0 acknowledged ++ tail) entries
    → (more : List EntryBytes) × (entries ≡ acknowledged ++ more)

-- the first n of these bytes are not all of them
abbrev pub IsCut : ℕ → List ℕ → Type 0
IsCut n bytes = n < length bytes

-- if a file ends inside its last frame, the entries of the other frames are read, and no more
abbrev pub DropsCutFrame : SegmentDigest → Type 0
DropsCutFrame digest = (acknowledged : List EntryBytes) (entry : EntryBytes) (n : ℕ) (entries : List EntryBytes)
    → AreEntries (acknowledged ++ entry ∷ [])
    → IsFileLength (frames_of digest 0 acknowledged ++ frame_of digest (length acknowledged) entry)
    → IsCut n (frame_of digest (length acknowledged) entry)
    → HasFrames digest (frames_of digest 0 acknowledged ++ take n (frame_of digest (length acknowledged) entry)) entries
    → entries ≡ acknowledged

-- the bytes after the acknowledged entries begin with the frame of an entry that nobody appended: its digest is the one that the bytes name
pub record Forged (digest : SegmentDigest) (index : ℕ) (entry : EntryBytes) (tail : List ℕ) : Type 0 where
  pub other : EntryBytes
  pub after : List ℕ
  pub found : first_frame digest index tail ≡ Some (other, after)
  pub differs : other ≢ entry

-- if any bytes are in the place of the last frame, and only zeros after them, its entry is read whole, or it is missing, or an entry is forged
abbrev pub TornIsWholeOrMissing : SegmentDigest → Type 0
TornIsWholeOrMissing digest = (acknowledged : List EntryBytes) (entry : EntryBytes) (torn : List ℕ) (zeros : ℕ) (entries : List EntryBytes)
    → AreEntries acknowledged
    → IsFileLength (frames_of digest 0 acknowledged ++ (torn ++ replicate zeros 0))
    → length torn ≤ length (frame_of digest (length acknowledged) entry)
    → HasFrames digest (frames_of digest 0 acknowledged ++ (torn ++ replicate zeros 0)) entries
    → (entries ≡ acknowledged) ⊎ ((entries ≡ acknowledged ++ entry ∷ []) ⊎ Forged digest (length acknowledged) entry (torn ++ replicate zeros 0))

-- if only zeros are after the frames of a file, the entries of these frames are read, and no more
abbrev pub EndsBeforeZeros : SegmentDigest → Type 0
EndsBeforeZeros digest = (acknowledged : List EntryBytes) (zeros : ℕ) (entries : List EntryBytes)
    → AreEntries acknowledged
    → IsFileLength (frames_of digest 0 acknowledged ++ replicate zeros 0)
    → HasFrames digest (frames_of digest 0 acknowledged ++ replicate zeros 0) entries
    → entries ≡ acknowledged

-- no digest of the file is forged: a frame that comes right after the frames of the first entries has the next entry that was appended
abbrev pub IsHonest : SegmentDigest → List ℕ → List EntryBytes → Type 0
IsHonest digest file appended = (tail after : List ℕ) (index : ℕ) (entry : EntryBytes)
    → file ≡ frames_of digest 0 (take index appended) ++ tail
    → first_frame digest index tail ≡ Some (entry, after)
    → slice_get appended index ≡ Some entry

-- if no digest of a file is forged, the entries that are read are the first of those that were appended
abbrev pub ReadsFirst : SegmentDigest → Type 0
ReadsFirst digest = (file : List ℕ) (appended entries : List EntryBytes)
    → IsFileLength file
    → IsHonest digest file appended
    → HasFrames digest file entries
    → (n : ℕ) × (entries ≡ take n appended)
