use Rattle.stamp_types.proofs.ContentReadings.{changed-act_with_alike, changed-alike, part_value-alike, part_value-sizes, world_value-alike}
use Rattle.stamp_types.proofs.content_laws.containers_are_alike_if_each_content_is.Goals as goal

pub returns-clause-part : goal.returns-clause-part
returns-clause-part g c = λ f h p alike. part_value-alike f h p alike

pub returns-clause-world : goal.returns-clause-world
returns-clause-world g c = λ f h w alike. world_value-alike f h w alike

pub returns-clause-sizes : goal.returns-clause-sizes
returns-clause-sizes g c = λ f p long. part_value-sizes f p long

pub returns-clause-change : goal.returns-clause-change
returns-clause-change g c = λ f h a p alike. changed-alike f h p a alike

pub returns-clause-other_pieces : goal.returns-clause-other_pieces
returns-clause-other_pieces g c = λ f h a ps p kept alike rest. changed-act_with_alike f h a ps p kept alike rest
