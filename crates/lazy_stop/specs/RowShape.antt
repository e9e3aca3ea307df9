-- How a row lies in memory.
use Rattle.lazy_stop.specs.RowValue.{RowValue}
use Rattle.lazy_stop.specs.RowFacts.{IsRow}
use Rattle.lazy_stop.specs.declared.row.Row.TheInside.{Inside}

abbrev pub row_value : Inside → RowValue
row_value a = record { rule = a.rule; cells = a.cells }

abbrev pub IsRowShape : Inside → Type 0
IsRowShape a = IsRow a.rule a.extremes a.best a.first_empty a.cells
