use Rattle.std.proofs.Common.{◌∙◌, ap}
use Rattle.stamp_types.specs.declared.past.Past.{Past}
use Rattle.slot_state.specs.HistoryMaps.{with_entry}
use Rattle.slot_state.specs.Told.{told, told_next}
use Rattle.slot_state.proofs.proved.ProvedHistoriesHistories.push.Goals as goal

pub returns-clause-pushed : goal.returns-clause-pushed
returns-clause-pushed c = told_next _ _ _ _ c.and-self.ensures ∙ ap (λ (e : Past). with_entry (told c.args.self.now.log.items) e) c.in_ok-copy_of.ensures
