use Rattle.served_slots.proofs.sweep_tests.puts_sweep_what_a_connection_wastes.Given as goal

-- the history that was just made
abbrev pub ghosts-sweeps_for_another : goal.ghosts-sweeps_for_another
ghosts-sweeps_for_another g a = record { history = a.history.book }
