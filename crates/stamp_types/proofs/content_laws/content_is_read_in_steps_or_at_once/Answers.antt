use Rattle.stamp_types.proofs.ContentReadings.{part_value-chain, part_value-changed, world_value-chain, world_value-changed_in}
use Rattle.stamp_types.specs.World.{same_pieces}
use Rattle.stamp_types.proofs.content_laws.content_is_read_in_steps_or_at_once.Goals as goal

pub returns-clause-steps : goal.returns-clause-steps
returns-clause-steps g c = λ f h p. part_value-chain h f p

pub returns-clause-change : goal.returns-clause-change
returns-clause-change g c = λ f h a p. part_value-changed h f a p

pub returns-clause-pieces : goal.returns-clause-pieces
returns-clause-pieces g c = λ f a p. part_value-changed f same_pieces a p

pub returns-clause-world_steps : goal.returns-clause-world_steps
returns-clause-world_steps g c = λ f h w. world_value-chain h f w

pub returns-clause-world_change : goal.returns-clause-world_change
returns-clause-world_change g c = λ f h w change. world_value-changed_in h f w change
