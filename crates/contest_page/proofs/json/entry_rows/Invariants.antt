use Rattle.std.proofs.Common.{◌≡◌, take, map}
use Rattle.serde_json.specs.View.{view}
use Rattle.contest_page.specs.Views.{entry_rows}
use Rattle.contest_page.proofs.json.entry_rows.Given as goal

abbrev pub invariant-loop-i : goal.invariant-loop-i
invariant-loop-i l = map view l.rows.items ≡ entry_rows 1 (take l.i l.entries)
