-- What a cell of one byte holds.
use Rattle.std.specs.Prelude.{List, Option, Some, None, map}
use Rattle.farm_kinds.specs.declared.kinds.Kind.{Kind}
use Rattle.farm_kinds.specs.declared.kinds.Kind.TheVariants as kinds
use Rattle.farm_model.specs.Rows.{Row}
use Rattle.lazy_stop.specs.declared.cells.Cell.{Cell}
use Rattle.lazy_stop.specs.declared.cells.Cell.TheVariants.{Empty, Correct, WrongAnswer, RunError, TimeLimit, NoOutput, OutputLimit, MemoryLimit, JudgingError}

abbrev pub kind_in : Cell → Option Kind
kind_in Empty = None
kind_in Correct = Some kinds.Correct
kind_in WrongAnswer = Some kinds.WrongAnswer
kind_in RunError = Some kinds.RunError
kind_in TimeLimit = Some kinds.TimeLimit
kind_in NoOutput = Some kinds.NoOutput
kind_in OutputLimit = Some kinds.OutputLimit
kind_in MemoryLimit = Some kinds.MemoryLimit
kind_in JudgingError = Some kinds.JudgingError

abbrev pub kinds_in : List Cell → Row
kinds_in cells = map kind_in cells
