-- The rows as plain data.
use Rattle.std.specs.Prelude.{ℕ, ◌+◌, List, length, nat_lt, if◌then◌else◌, ◌||◌}
use Rattle.public_board.specs.declared.rows.Shown.{Shown}

module _ {R : Type 0} where
  abbrev pub shown : List R → ℕ → ℕ → Shown R
  shown rows count room = record { rows = rows; count = count; room = room }

  -- the rows of the next version, where there is room for them
  abbrev pub replaced : Shown R → List R → Shown R
  replaced s rows =
      if nat_lt s.room (length rows) || nat_lt 18446744073709551614 s.count then s else shown rows (s.count + 1) s.room
