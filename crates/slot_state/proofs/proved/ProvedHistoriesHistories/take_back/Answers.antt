use Rattle.slot_state.specs.Told.{told_next}
use Rattle.slot_state.proofs.proved.ProvedHistoriesHistories.take_back.Goals as goal

pub returns : goal.returns
returns c = told_next _ _ _ _ c.and-self.ensures
