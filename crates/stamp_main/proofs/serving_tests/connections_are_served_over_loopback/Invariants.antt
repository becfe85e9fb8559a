use Rattle.stamp_main.proofs.serving_tests.connections_are_served_over_loopback.Given as goal

-- the history that was just made
abbrev pub ghosts-both_ends : goal.ghosts-both_ends
ghosts-both_ends g a = record { history = a.opening.history.book }
