-- The entries that are read of the bytes of a segment (docs/formats/journal.md).
use Rattle.std.specs.Prelude.{◌≡◌, ◌<◌, ◌==◌, ℕ, List, ◌++◌, length, take, drop, get_or, Option, Some, None, option_and_then, nat_lt, if◌then◌else◌}
use Rattle.std.specs.Int.{w64, from_be_bytes}
use Rattle.extent_frames.specs.Frames.{EntryBytes, SegmentDigest, AreEntries, least_entry, frames_of}

-- each number is a byte
abbrev pub IsBytes : List ℕ → Type 0
IsBytes t = (i : ℕ) → get_or t i 0 < 256

-- a value, and the bytes after it
abbrev pub WithRest : Type 0 → Type 0
WithRest A = Option (A × List ℕ)

infixl 10 ◌>>=◌
-- nothing if there is no value, and otherwise what the function gives for the value
abbrev pub ◌>>=◌ : {A B : Type 0} → Option A → (A → Option B) → Option B
o >>= f = option_and_then f o

-- the first n bytes
abbrev pub first_bytes : ℕ → List ℕ → WithRest (List ℕ)
first_bytes n t = if nat_lt (length t) n then None else Some (take n t, drop n t)

-- the number that the first eight bytes write
abbrev pub first_number : List ℕ → WithRest ℕ
first_number t = first_bytes 8 t >>= (λ f. Some (from_be_bytes w64 f.0, f.1))

-- the entry whose length and digest were read: it is there whole, and has this digest
abbrev pub first_entry : SegmentDigest → ℕ → ℕ → ℕ → List ℕ → WithRest EntryBytes
first_entry digest index len sum t = first_bytes len t >>= (λ e. if sum == digest index e.0 then Some e else None)

-- the entry of the frame at the front: it is long enough, it is there whole, and its digest is the one that the frame names
unfoldable pub first_frame : SegmentDigest → ℕ → List ℕ → WithRest EntryBytes
first_frame digest index t = first_number t >>= (λ n. first_number n.1 >>= (λ s.
    if nat_lt n.0 least_entry then None else first_entry digest index n.0 s.0 s.1))

-- an answer, seen by a function, is what these bytes begin with, and these bytes are left
abbrev pub IsTaken : {A B : Type 0} → (A → B) → Option A → List ℕ → WithRest B → Type 0
IsTaken f (Some a) left expected = expected ≡ Some (f a, left)
IsTaken f None left expected = expected ≡ None

-- a file has these entries: their frames are at its front, and no frame begins after them
pub record HasFrames (digest : SegmentDigest) (file : List ℕ) (entries : List EntryBytes) : Type 0 where
  pub rest : List ℕ
  pub split : file ≡ frames_of digest 0 entries ++ rest
  pub long : AreEntries entries
  pub ended : first_frame digest (length entries) rest ≡ None
