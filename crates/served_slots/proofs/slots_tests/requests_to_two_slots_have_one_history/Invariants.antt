use Rattle.served_slots.proofs.slots_tests.requests_to_two_slots_have_one_history.Given as goal

-- the history that was just made
abbrev pub ghosts-two_slots : goal.ghosts-two_slots
ghosts-two_slots g a = record { history = a.history.book }
