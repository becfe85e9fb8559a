use Rattle.std.proofs.Common.{refl}
use Rattle.slot_state.proofs.MapLemmas.{taken_back}
use Rattle.slot_state.specs.HistoryMaps.{with_entry, without_last}
use Rattle.slot_state.proofs.laws.what_is_pushed_back_was_not_there.Goals as goal

pub returns : goal.returns
returns c = λ h e none. taken_back h (with_entry h e) (without_last (with_entry h e) e.request.ask.key) e e.request.ask.key none refl refl refl
