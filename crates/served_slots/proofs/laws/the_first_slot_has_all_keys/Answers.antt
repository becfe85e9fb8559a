use Rattle.std.proofs.Common.{refl}
use Rattle.slot_state.specs.Pairs.{first_pairs}
use Rattle.served_slots.proofs.FirstLemmas.{first_left}
use Rattle.served_slots.proofs.laws.the_first_slot_has_all_keys.Goals as goal

pub returns : goal.returns
returns c = λ own first slot log numbered. first_left own first (first_pairs first) slot log refl numbered
