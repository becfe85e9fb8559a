use Rattle.std.proofs.Common.{◌≡◌, ◌/◌, length, map}
use Rattle.std.specs.Prelude.{vec_len, vec_capacity}
use Rattle.extent_frames.proofs.FrameLemmas.{HasRead}
use Rattle.extent_frames.proofs.reading.read_frames.Given as goal

-- the entries so far were read from the front of the file, the rest of it is still to be read, and the list has room for the most entries of a file
abbrev pub invariant-loop-entry : goal.invariant-loop-entry
invariant-loop-entry g l =
    HasRead (g.D.Digest.digest_of l.digest l.segment) l.file (map (λ e. e.now) l.entries.items) l.index l.unread.bytes.now
    × (vec_len l.entries ≡ l.index) × (vec_capacity l.entries ≡ length l.file / 32)

abbrev pub decreases-loop-entry : goal.decreases-loop-entry
decreases-loop-entry g l = length l.unread.bytes.now
