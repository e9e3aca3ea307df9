use Rattle.server_tests.proofs.feed_tests.a_feed_publishes_in_order.Given as goal

-- the feed's pass is named by its board, where that began and its number
abbrev pub ghosts-check_feed : goal.ghosts-check_feed
ghosts-check_feed g a = record { board = a.board.now.id; start = a.own.start; number = a.own.number }
