use Rattle.stamp_types.specs.Pieces.{held}
use Rattle.range_rows.specs.SentContent.{byte_count}
use Rattle.stamp_model.proofs.EffectLemmas.{part_at-effect, part_at-effect_others}
use Rattle.stamp_model.proofs.laws.an_effect_reaches_its_own_container_alone.Goals as goal

pub returns-clause-own : goal.returns-clause-own
returns-clause-own c = λ keys w q t. part_at-effect byte_count held keys w q t

pub returns-clause-others : goal.returns-clause-others
returns-clause-others c = λ keys w q t k other. part_at-effect_others byte_count held keys w q t k other
