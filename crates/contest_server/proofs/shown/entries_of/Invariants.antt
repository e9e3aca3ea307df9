use Rattle.std.proofs.Common.{◌≡◌, map, take}
use Rattle.contest_server.specs.Contest.{entry_of}
use Rattle.contest_server.proofs.shown.entries_of.Given as goal

abbrev pub invariant-loop-i : goal.invariant-loop-i
invariant-loop-i l = l.entries.items ≡ map entry_of (take l.i l.roster.submissions)
