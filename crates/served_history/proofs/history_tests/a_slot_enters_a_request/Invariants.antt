use Rattle.served_history.proofs.history_tests.a_slot_enters_a_request.Given as goal

-- the history that was just made
abbrev pub ghosts-enter_first : goal.ghosts-enter_first
ghosts-enter_first g a = record { history = a.history.book }
