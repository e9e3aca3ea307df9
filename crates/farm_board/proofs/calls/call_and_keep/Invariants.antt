use Rattle.farm_board.specs.Marks.{entry_of}
use Rattle.farm_board.proofs.calls.call_and_keep.Given as goal

abbrev pub ghosts-mark_entry : goal.ghosts-mark_entry
ghosts-mark_entry g a = record { entry = entry_of a.what }
