use Rattle.std.proofs.Common.{◌≡◌, ◌++◌, take}
use Rattle.farm_api.specs.Published.{rows_text}
use Rattle.farm_api.proofs.rows_text.push_rows.Given as goal

abbrev pub invariant-loop-i : goal.invariant-loop-i
invariant-loop-i l = l.out.items ≡ l.initial.out.items ++ rows_text 1 (take l.i l.answers)
