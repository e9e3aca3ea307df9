use Rattle.farm_board.proofs.calls.split.Given as goal

abbrev pub ghosts-split_off : goal.ghosts-split_off
ghosts-split_off g a = record { share = a.share }
