use Rattle.stored_slot.proofs.LawLemmas.{loaded_apart, loaded_replayed}
use Rattle.stored_slot.proofs.laws.after_unload_and_load_the_rows_are_the_replay.Goals as goal

pub returns-clause-bytes : goal.returns-clause-bytes
returns-clause-bytes x = λ pairs h s m t w key are dropped loaded rows covered. loaded_replayed s m t w key dropped loaded rows pairs h are covered

pub returns-clause-others : goal.returns-clause-others
returns-clause-others x = λ s m t w key dropped loaded rows apart. loaded_apart s m t w key dropped loaded rows apart
