-- The bytes of a segment: a frame for each entry, in their order (docs/formats/journal.md).
use Rattle.std.specs.Prelude.{ℕ, ◌+◌, ◌<◌, ◌≤◌, ◌^◌, List, [], ◌∷◌, ◌++◌, All, length}
use Rattle.std.specs.Int.{w64, to_be_bytes}

-- an entry is its bytes
abbrev pub EntryBytes : Type 0
EntryBytes = List ℕ

-- the digest of each entry at each index of one segment
abbrev pub SegmentDigest : Type 0
SegmentDigest = ℕ → EntryBytes → ℕ

-- eight bytes can write each digest
abbrev pub IsOf64Bits : SegmentDigest → Type 0
IsOf64Bits digest = (index : ℕ) (entry : EntryBytes) → digest index entry < 2 ^ 64

-- how many bytes an entry has at least
abbrev pub least_entry : ℕ
least_entry = 16

-- each of them is long enough for a frame
abbrev pub AreEntries : List EntryBytes → Type 0
AreEntries entries = All (λ e. least_entry ≤ length e) entries

-- a number as eight bytes, the highest byte first
unfoldable pub eight_bytes : ℕ → List ℕ
eight_bytes n = to_be_bytes w64 n

-- the frame of an entry at an index: the length of the entry, its digest, and its bytes
unfoldable pub frame_of : SegmentDigest → ℕ → EntryBytes → List ℕ
frame_of digest index entry = eight_bytes (length entry) ++ (eight_bytes (digest index entry) ++ entry)

-- the frames of entries, the first of which has this index
abbrev pub frames_of : SegmentDigest → ℕ → List EntryBytes → List ℕ
frames_of digest index [] = []
frames_of digest index (e ∷ es) = frame_of digest index e ++ frames_of digest (index + 1) es
