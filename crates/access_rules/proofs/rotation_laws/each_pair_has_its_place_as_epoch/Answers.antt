use Rattle.std.proofs.Common.{◌+◌}
use Rattle.access_rules.specs.Rotation.{rotated}
use Rattle.access_rules.proofs.RotationLemmas.{numbered_one, numbered_more, epoch-place, epoch-rotated}
use Rattle.access_rules.proofs.rotation_laws.each_pair_has_its_place_as_epoch.Goals as goal

pub returns-clause-first : goal.returns-clause-first
returns-clause-first c = λ pair h. numbered_one 0 pair h

pub returns-clause-next : goal.returns-clause-next
returns-clause-next c = λ pairs last which key h.
    numbered_more 0 pairs last (rotated last which key (last.epoch + 1)) h (epoch-rotated last which key (last.epoch + 1))

pub returns-clause-place : goal.returns-clause-place
returns-clause-place c = λ pairs pair place h there. epoch-place pairs pair place h there
