use Rattle.served_slots.proofs.rotation_tests.a_replaced_key_opens_nothing_on_any_slot.Given as goal

-- the history that was just made
abbrev pub ghosts-rotates : goal.ghosts-rotates
ghosts-rotates g a = record { history = a.history.book }
