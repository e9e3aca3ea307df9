-- The exit statuses of the program.
use Rattle.std.specs.Prelude.{ℕ}
use Rattle.exit_status.specs.declared.exit.Exit.{Exit}
use Rattle.exit_status.specs.declared.exit.Exit.TheVariants as exit

-- 0 is done; the others name what went wrong, by the numbers that scripts of contest staff look at
abbrev pub status_of : Exit → ℕ
status_of exit.Done = 0
status_of exit.Usage = 2
status_of exit.BadContest = 3
status_of exit.ReadFault = 4
status_of exit.WriteFault = 5
status_of exit.Memory = 6
status_of exit.TreeFault = 7
status_of exit.DoorFault = 8
status_of exit.InputLimit = 9
status_of exit.LinkFault = 10
status_of (exit.BadAnswer answer) = 11
status_of exit.StoreFault = 12
status_of (exit.BadStore flaw) = 13
status_of (exit.StoreFull mark) = 14
