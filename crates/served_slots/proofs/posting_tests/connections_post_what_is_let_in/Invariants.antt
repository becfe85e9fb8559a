use Rattle.served_slots.proofs.posting_tests.connections_post_what_is_let_in.Given as goal

-- the history that was just made
abbrev pub ghosts-posts : goal.ghosts-posts
ghosts-posts g a = record { history = a.history.book }
