use Rattle.std.proofs.Common.{◌≡◌, length}
use Rattle.extent_frames.specs.WordDigests.{mixed_words, words_of}
use Rattle.extent_frames.proofs.word_digest.mix_words.Given as goal

-- the words that are left lead to the sum of all words
abbrev pub invariant-loop-word : goal.invariant-loop-word
invariant-loop-word l = mixed_words l.sum (words_of l.left) ≡ mixed_words l.start (words_of l.bytes)

abbrev pub decreases-loop-word : goal.decreases-loop-word
decreases-loop-word l = length l.left
