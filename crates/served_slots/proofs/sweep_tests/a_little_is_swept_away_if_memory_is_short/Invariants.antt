use Rattle.served_slots.proofs.sweep_tests.a_little_is_swept_away_if_memory_is_short.Given as goal

-- the history that was just made
abbrev pub ghosts-sweeps_in_need : goal.ghosts-sweeps_in_need
ghosts-sweeps_in_need g a = record { history = a.history.book }
