use Rattle.std.proofs.Common.{sym, subst}
use Rattle.slot_state.specs.Slots.{KeepsToRange, SlotState}
use Rattle.slot_state.proofs.RangeLemmas.{empty_keeps, lower_keeps, served_keeps, upper_keeps}
use Rattle.slot_state.proofs.laws.a_slot_keeps_to_its_range.Goals as goal

pub returns-clause-empty : goal.returns-clause-empty
returns-clause-empty c = λ pairs. empty_keeps pairs

pub returns-clause-served : goal.returns-clause-served
returns-clause-served c = λ s after q t bound r keeps covered served. subst (λ (x : SlotState). KeepsToRange x) (sym served.after) (served_keeps s q t keeps covered)

pub returns-clause-lower : goal.returns-clause-lower
returns-clause-lower c = λ s middle keeps. lower_keeps s middle keeps

pub returns-clause-upper : goal.returns-clause-upper
returns-clause-upper c = λ s middle keeps. upper_keeps s middle keeps
