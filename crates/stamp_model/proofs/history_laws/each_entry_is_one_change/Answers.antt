use Rattle.std.proofs.Common.{◌∙◌}
use Rattle.stamp_types.specs.World.{no_part}
use Rattle.stamp_model.proofs.CountLemmas.{count-accepted, count-replayed, pair_of-epoch, none_before}
use Rattle.stamp_model.proofs.MakingLemmas.{exists-replayed, first_creates}
use Rattle.stamp_model.proofs.history_laws.each_entry_is_one_change.Goals as goal

pub returns-clause-one : goal.returns-clause-one
returns-clause-one c = λ pairs key p e new. count-accepted pairs key p e new

pub returns-clause-counted : goal.returns-clause-counted
returns-clause-counted c = λ pairs key start history legal. count-replayed pairs key start history legal

pub returns-clause-all : goal.returns-clause-all
returns-clause-all c = λ pairs key history legal. count-replayed pairs key no_part history legal ∙ none_before history

pub returns-clause-first : goal.returns-clause-first
returns-clause-first c = λ pairs key e rest legal. first_creates pairs key e rest legal

pub returns-clause-exists : goal.returns-clause-exists
returns-clause-exists c = λ pairs key history legal. exists-replayed pairs key history legal

pub returns-clause-epoch : goal.returns-clause-epoch
returns-clause-epoch c = λ pairs epoch pair h. pair_of-epoch pairs epoch pair h
