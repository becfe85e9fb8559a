use Rattle.std.proofs.Common.{ℕ, List, [], ◌∷◌, ◌++◌, length, ap, ◌∙◌}
use Rattle.extent_frames.specs.WordDigests.{mixed, mixed_words, words_of, word_digest}
use Rattle.extent_frames.proofs.WordLemmas.{mixed_last}
use Rattle.extent_frames.proofs.word_digest.WordDigestDigest.digest.Goals as goal

pub returns : goal.returns
unfolding word_digest
returns c =
    let words : List ℕ = words_of c.args.entry.now in
    let len : ℕ = length c.args.entry.now in
    let entry = ap (λ (s : ℕ). mixed s len) c.mix_words.ensures ∙ mixed_last c.mix-sum.result words len in
    c.mix.ensures ∙ entry ∙ ap (λ (s : ℕ). mixed_words s (words ++ len ∷ [])) c.mix-sum.ensures
