use Rattle.stamp_main.proofs.operator_lines_tests.lines_of_an_operator_are_obeyed.Given as goal

-- the history that was just made
abbrev pub ghosts-obeys : goal.ghosts-obeys
ghosts-obeys g a = record { history = a.history.book }
