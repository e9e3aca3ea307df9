use Rattle.std.proofs.Common.{◌≡◌, ◌++◌, take}
use Rattle.contest_page.specs.Page.{rows_from}
use Rattle.contest_page.proofs.table.push_rows.Given as goal

abbrev pub invariant-loop-i : goal.invariant-loop-i
invariant-loop-i l = l.page.items ≡ l.initial.page.items ++ rows_from 0 l.entries (take l.i l.answers)
