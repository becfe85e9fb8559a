use Rattle.std.proofs.Common.{rules, arith, ◌≡◌, ◌≤◌, ◌<◌, ℕ, length, ap, ◌∙◌}
use Rattle.extent_frames.specs.WordDigests.{mixed}
use Rattle.extent_frames.proofs.WordLemmas.{step_words, one_word, no_word}
use Rattle.extent_frames.proofs.word_digest.mix_words.Goals as goal

pub loop-word-preserved : goal.loop-word-preserved
loop-word-preserved c =
    let cases = c.in-Some.ensures.cases in
    let long : 8 ≤ length c.loop-word.left.now = omega (arith, cases.2) in
    step_words c.loop-word.sum c.mix-sum.result c.from_be_bytes.result c.loop-word.left.now c.in-Some.word.now c.in-Some.rest.now long cases.0 cases.1 c.from_be_bytes.ensures c.mix-sum.ensures ∙ c.loop-word.invariant

pub returns-then-is_empty : goal.returns-then-is_empty
returns-then-is_empty c =
    let none : length c.loop-word.left.now ≡ 0 = search rules in
    no_word c.loop-word.sum c.loop-word.left.now none ∙ c.loop-word.invariant

pub returns-else-is_empty : goal.returns-else-is_empty
returns-else-is_empty c =
    let short : length c.loop-word.left.now < 8 = search rules in
    let some : 0 < length c.loop-word.left.now = search rules in
    c.mix.ensures ∙ ap (λ (w : ℕ). mixed c.loop-word.sum w) c.last_word.ensures ∙ one_word c.loop-word.sum c.loop-word.left.now some short ∙ c.loop-word.invariant
