use Rattle.extent_frames.proofs.WordLemmas.{word_digest-lt}
use Rattle.extent_frames.proofs.laws.the_word_digest_has_64_bits.Goals as goal

pub returns : goal.returns
returns c = word_digest-lt
