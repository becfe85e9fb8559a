use Rattle.served_slots.proofs.sweep_tests.a_slot_at_rest_is_swept.Given as goal

-- the history that was just made
abbrev pub ghosts-sweeps_at_rest : goal.ghosts-sweeps_at_rest
ghosts-sweeps_at_rest g a = record { history = a.history.book }
