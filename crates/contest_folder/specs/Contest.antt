-- A contest, as the files of its folder say it, or its first fault.
use Rattle.std.specs.Prelude.{ℕ, List, Option, Some, None, Result, Ok, Err, codes}
use Rattle.farm_tree.specs.declared.reads.TreeFile.{TreeFile}
use Rattle.farm_model.specs.State.{SettingsValue, standard_settings}
use Rattle.farm_settings.specs.declared.faults.SettingsFault.{SettingsFault}
use Rattle.farm_settings.specs.FarmJson.{settings_of_text}
use Rattle.contest_folder.specs.declared.roster.Problem.{Problem}
use Rattle.contest_folder.specs.declared.roster.Submission.{Submission}
use Rattle.contest_folder.specs.declared.lines.Entry.{Entry}
use Rattle.contest_folder.specs.declared.faults.ContestFault.{ContestFault}
use Rattle.contest_folder.specs.declared.faults.ContestFault.TheVariants as fault
use Rattle.contest_folder.specs.RosterValue.{RosterValue}
use Rattle.contest_folder.specs.Telling.{and_then, file_in}
use Rattle.contest_folder.specs.Problems.{problems_in}
use Rattle.contest_folder.specs.SubmissionLines.{entries_said}
use Rattle.contest_folder.specs.Images.{submissions_in, images_of}

abbrev pub settings_or_fault : Result SettingsValue SettingsFault → Result SettingsValue ContestFault
settings_or_fault (Ok settings) = Ok settings
settings_or_fault (Err e) = Err (fault.Settings e)

-- the standard settings, where there is no `farm.json`
abbrev pub settings_said : Option (List ℕ) → Result SettingsValue ContestFault
settings_said None = Ok standard_settings
settings_said (Some text) = settings_or_fault (settings_of_text text)

abbrev pub settings_in : List TreeFile → List ℕ → Result SettingsValue ContestFault
settings_in files path = and_then settings_said (file_in files path (codes "farm.json"))

abbrev pub roster_with : SettingsValue → List Problem → List Submission → Result RosterValue ContestFault
roster_with settings problems submissions =
    Ok record { settings = settings; problems = problems; submissions = submissions }

abbrev pub with_entries : List TreeFile → List ℕ → SettingsValue → List Problem → List Entry
    → Result RosterValue ContestFault
with_entries files path settings problems entries =
    and_then (roster_with settings problems) (submissions_in files (images_of path) problems entries)

abbrev pub with_problems : List TreeFile → List ℕ → SettingsValue → List Problem → Result RosterValue ContestFault
with_problems files path settings problems =
    and_then (with_entries files path settings problems)
    (and_then (entries_said problems) (file_in files path (codes "submissions.txt")))

abbrev pub with_settings : List TreeFile → List ℕ → SettingsValue → Result RosterValue ContestFault
with_settings files path settings = and_then (with_problems files path settings) (problems_in files path settings.ips)

-- the contest in the folder at the path, or its first fault
unfoldable pub contest_of : List TreeFile → List ℕ → Result RosterValue ContestFault
contest_of files path = and_then (with_settings files path) (settings_in files path)
