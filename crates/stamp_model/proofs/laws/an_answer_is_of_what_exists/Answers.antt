use Rattle.std.proofs.Common.{◌∙◌, ap, List, ℕ}
use Rattle.std.specs.Prelude.{is_some}
use Rattle.stamp_types.specs.Pieces.{held}
use Rattle.stamp_types.specs.World.{Part, part_at}
use Rattle.range_rows.specs.SentContent.{byte_count}
use Rattle.range_rows.specs.ObjectRules.{named_blob}
use Rattle.stamp_model.proofs.AnswerLemmas.{standing-unrefused, named_blob-unrefused, blocks-unrefused, answer_of-nothing}
use Rattle.stamp_model.proofs.EffectLemmas.{part_at-effect}
use Rattle.stamp_model.proofs.ReplyLemmas.{reply-unrefused}
use Rattle.stamp_model.proofs.laws.an_answer_is_of_what_exists.Goals as goal

pub returns-clause-container : goal.returns-clause-container
returns-clause-container c = λ keys w q t bound none tells.
    ap (λ (p : Part (List ℕ)). is_some p.standing) (part_at-effect byte_count held keys w q t)
    ∙ standing-unrefused keys (part_at w q.ask.key) q t (reply-unrefused keys w q t bound none) tells

pub returns-clause-blob : goal.returns-clause-blob
returns-clause-blob c = λ keys w q t bound fits none tells.
    ap (λ (p : Part (List ℕ)). is_some (named_blob p q.ask)) (part_at-effect byte_count held keys w q t)
    ∙ named_blob-unrefused keys (part_at w q.ask.key) q t (reply-unrefused keys w q t bound none) fits tells

pub returns-clause-blocks : goal.returns-clause-blocks
returns-clause-blocks c = λ keys w q t bound none tells. blocks-unrefused keys w q t (reply-unrefused keys w q t bound none) tells

pub returns-clause-nothing : goal.returns-clause-nothing
returns-clause-nothing c = λ w v q bound tells. answer_of-nothing w v q bound tells
