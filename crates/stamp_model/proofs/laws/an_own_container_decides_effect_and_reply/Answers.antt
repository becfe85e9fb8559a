use Rattle.stamp_types.specs.Pieces.{held}
use Rattle.range_rows.specs.SentContent.{byte_count}
use Rattle.stamp_model.proofs.EffectLemmas.{part_at-effect_agrees}
use Rattle.stamp_model.proofs.SeenContainerLemmas.{reply-agrees}
use Rattle.stamp_model.proofs.laws.an_own_container_decides_effect_and_reply.Goals as goal

pub returns-clause-reply : goal.returns-clause-reply
returns-clause-reply c = λ keys w v q t bound names same. reply-agrees keys w v q t bound names same

pub returns-clause-effect : goal.returns-clause-effect
returns-clause-effect c = λ keys w v q t same. part_at-effect_agrees byte_count held keys w v q t same
