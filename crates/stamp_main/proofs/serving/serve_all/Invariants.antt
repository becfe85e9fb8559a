use Rattle.stamp_main.proofs.serving.serve_all.Given as goal

-- the history that was just made
abbrev pub ghosts-serve_on : goal.ghosts-serve_on
ghosts-serve_on g a = record { history = a.opening.history.book }
