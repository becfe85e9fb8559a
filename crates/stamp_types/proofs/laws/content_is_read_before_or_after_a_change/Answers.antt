use Rattle.stamp_types.specs.World.{same_pieces}
use Rattle.stamp_types.proofs.ContentReadings.{part_value-changed, world_value-changed_in}
use Rattle.stamp_types.proofs.laws.content_is_read_before_or_after_a_change.Goals as goal

pub returns-clause-part : goal.returns-clause-part
returns-clause-part c = λ f a p. part_value-changed f same_pieces a p

pub returns-clause-world : goal.returns-clause-world
returns-clause-world c = λ f w change. world_value-changed_in f same_pieces w change
