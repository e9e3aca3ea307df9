-- The submissions that are held while images are read.
use Rattle.std.specs.Prelude.{ℕ, List, if◌then◌else◌, nat_le, Result, Ok, Err}
use Rattle.contest_folder.specs.declared.roster.Submission.{Submission}
use Rattle.contest_folder.specs.declared.images.Held.{Held}
use Rattle.contest_folder.specs.declared.faults.ContestFault.{ContestFault}
use Rattle.contest_folder.specs.declared.faults.ContestFault.TheVariants as fault
use Rattle.contest_folder.specs.RosterShape.{submission_limit}
use Rattle.contest_folder.specs.Images.{total_limit}

abbrev pub held_within : Held → ℕ → Result (List Submission) ContestFault
held_within held count =
    if nat_le count submission_limit
    then if nat_le held.total total_limit then Ok held.submissions.items else Err (fault.TooMuch held.total)
    else Err (fault.TooManySubmissions count)
