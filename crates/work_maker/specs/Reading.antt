-- A made contest is one: its folder is read without a fault.
use Rattle.std.specs.Prelude.{◌≡◌, List, Ok}
use Rattle.farm_tree.specs.declared.reads.TreeFile.{TreeFile}
use Rattle.contest_folder.specs.RosterValue.{RosterValue}
use Rattle.contest_folder.specs.Contest.{contest_of}
use Rattle.work_maker.specs.Files.{contest_folder}

-- the files are those of a contest's folder that has no fault
abbrev pub IsContestFolder : List TreeFile → Type 0
IsContestFolder files = (roster : RosterValue) × (contest_of files contest_folder ≡ Ok roster)
