use Rattle.served_history.proofs.history_tests.a_split_makes_two_slots.Given as goal

-- the history that was just made
abbrev pub ghosts-split_first : goal.ghosts-split_first
ghosts-split_first g a = record { history = a.history.book }
