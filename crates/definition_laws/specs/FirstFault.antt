-- The first faulty line of a text.
use Rattle.std.specs.Prelude.{◌≡◌, List, [], ◌∷◌, ◌++◌, Result, Ok, Err}
use Rattle.problem_settings.specs.declared.yaml.BadLine.{BadLine}
use Rattle.problem_settings.specs.Lines.{LineValue}
use Rattle.problem_settings.specs.Entries.{entries}
use Rattle.problem_settings.specs.ProblemYaml.{Said, belongs, nothing, said_from}

-- what these lines of `problem.yaml` say, or their fault
abbrev pub said_of_lines : List LineValue → Result Said BadLine
said_of_lines lines = said_from nothing (entries belongs lines)

-- the lines before the one that is told have no fault, and with it they have this one
pub record IsFirstFault (lines : List LineValue) (fault : BadLine) : Type 0 where
  pub before : List LineValue
  pub line : LineValue
  pub behind : List LineValue
  pub lines_are : lines ≡ before ++ line ∷ behind
  pub told : fault.line ≡ line.number
  pub fine : (said : Said) × (said_of_lines before ≡ Ok said)
  pub faulty : said_of_lines (before ++ line ∷ []) ≡ Err fault
