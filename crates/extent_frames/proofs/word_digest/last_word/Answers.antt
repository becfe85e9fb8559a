use Rattle.std.proofs.Common.{◌++◌, List, ℕ, length, drop, replicate, sym, ap, ◌∙◌}
use Rattle.std.specs.Int.{w64, from_be_bytes}
use Rattle.extent_frames.proofs.WordLemmas.{short_word}
use Rattle.extent_frames.proofs.word_digest.last_word.Goals as goal

pub returns : goal.returns
returns c =
    let copied = ap (λ (u : List ℕ). from_be_bytes w64 (u ++ drop (length c.args.bytes.now) (replicate 8 0))) c.copy_from_slice.ensures.after in
    c.from_be_bytes.ensures ∙ copied ∙ sym (short_word c.args.bytes.now c.requires)
