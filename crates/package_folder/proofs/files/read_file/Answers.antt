use Rattle.std.proofs.Common.{◌≡◌}
use Rattle.package_folder.proofs.files.read_file.Goals as goal

-- a failure of the tree ends the reading
pub returns-in-Err-Failed-clause-file : goal.returns-in-Err-Failed-clause-file
returns-in-Err-Failed-clause-file g c = λ files told going. absurd (going tt)

-- and a file that is not there is none
pub returns-in-Err-Absent-clause-cause : goal.returns-in-Err-Absent-clause-cause
returns-in-Err-Absent-clause-cause g c = λ is. cc
