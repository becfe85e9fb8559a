use Rattle.served_slots.proofs.rotation_tests.slots_share_the_new_pair.Given as goal

-- the history that was just made
abbrev pub ghosts-shares : goal.ghosts-shares
ghosts-shares g a = record { history = a.history.book }
