use Rattle.stamp_main.proofs.sweeper_tests.a_slot_is_swept_to_which_no_request_comes.Given as goal

-- the history that was just made
abbrev pub ghosts-sweeps_alone : goal.ghosts-sweeps_alone
ghosts-sweeps_alone g a = record { history = a.history.book }
