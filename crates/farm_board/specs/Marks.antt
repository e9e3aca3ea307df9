-- What a turn enters into the history.
use Rattle.farm_board.specs.Passes.{call_of}
use Rattle.farm_board.specs.declared.calls.Mark.{Mark}
use Rattle.farm_board.specs.declared.calls.Mark.TheVariants as mark
use Rattle.farm_board.specs.declared.entries.HistoryEntry.{HistoryEntry}
use Rattle.farm_board.specs.declared.entries.HistoryEntry.TheVariants as entry

abbrev pub entry_of : Mark → HistoryEntry
entry_of (mark.Call number event reply) = entry.Call (call_of number event.now reply.now)
entry_of (mark.Split number new) = entry.Split number new
entry_of (mark.Join number old) = entry.Join number old
