use Rattle.stamp_main.proofs.serving_tests.a_listener_that_fails_for_good_ends_serving.Given as goal

-- the history that was just made
abbrev pub ghosts-serve_on : goal.ghosts-serve_on
ghosts-serve_on g a = record { history = a.opening.history.book }
