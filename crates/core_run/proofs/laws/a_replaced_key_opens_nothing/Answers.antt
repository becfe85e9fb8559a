use Rattle.std.proofs.Common.{refl}
use Rattle.slot_state.specs.Pairs.{current_at}
use Rattle.core_run.proofs.KeyLemmas.{rotates}
use Rattle.core_run.proofs.PlaceLemmas.{admitted}
use Rattle.core_run.proofs.laws.a_replaced_key_opens_nothing.Goals as goal

pub returns-clause-served : goal.returns-clause-served
returns-clause-served c = λ s s' q t faulted answer o takes gives none. admitted s s' q t faulted answer o takes gives none

pub returns-clause-rotated : goal.returns-clause-rotated
returns-clause-rotated c = λ s s' account which key faulted n takes. rotates (current_at s.pairs account) s s' account which key n refl takes
