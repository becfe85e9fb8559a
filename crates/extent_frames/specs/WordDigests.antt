-- A digest of 64 bits by words of eight bytes, under a key (docs/formats/journal.md).
use Rattle.std.specs.Prelude.{ℕ, zero, suc, ◌+◌, ◌-◌, ◌*◌, ◌/◌, ◌%◌, ◌^◌, List, [], ◌∷◌, ◌++◌, length, take, drop, replicate, bit_xor}
use Rattle.std.specs.Int.{w64, rotate_left, from_be_bytes}
use Rattle.extent_frames.specs.Frames.{SegmentDigest}

-- a sum with one more word in it
unfoldable pub mixed : ℕ → ℕ → ℕ
mixed sum word = rotate_left w64 (bit_xor sum word * 0x2545f4914f6cdd1d % 2 ^ 64) 23

-- a sum with more words in it, one after the other
abbrev pub mixed_words : ℕ → List ℕ → ℕ
mixed_words sum [] = sum
mixed_words sum (w ∷ ws) = mixed_words (mixed sum w) ws

-- the word that the first eight bytes write, the highest first, with a zero in the place of each byte that is missing
unfoldable pub first_word : List ℕ → ℕ
first_word t = from_be_bytes w64 (take 8 t ++ replicate (8 - length t) 0)

-- the first n words
unfoldable pub first_words : ℕ → List ℕ → List ℕ
first_words zero t = []
first_words (suc n) t = first_word t ∷ first_words n (drop 8 t)

-- all words: the last one has less than eight bytes of its own, if eight does not divide the length
abbrev pub words_of : List ℕ → List ℕ
words_of t = first_words ((length t + 7) / 8) t

-- the digests of a segment under a key: the index, the words of the entry and its length are mixed into both
unfoldable pub word_digest : ℕ → ℕ → SegmentDigest
word_digest key segment index entry = mixed_words (bit_xor key segment) (index ∷ words_of entry ++ length entry ∷ [])
