-- The reading of a contest, step by step.
use Rattle.std.proofs.Common.{ℕ, List, Option, Some, Result, Ok, Err, codes, refl}
use Rattle.farm_tree.specs.declared.reads.TreeFile.{TreeFile}
use Rattle.farm_model.specs.State.{SettingsValue}
use Rattle.contest_folder.specs.declared.roster.Problem.{Problem}
use Rattle.contest_folder.specs.declared.roster.Submission.{Submission}
use Rattle.contest_folder.specs.declared.lines.Entry.{Entry}
use Rattle.contest_folder.specs.declared.faults.ContestFault.{ContestFault}
use Rattle.contest_folder.specs.RosterValue.{RosterValue}
use Rattle.contest_folder.specs.Telling.{Answers, and_then, file_in}
use Rattle.contest_folder.specs.Problems.{problems_in}
use Rattle.contest_folder.specs.SubmissionLines.{entries_said, entries_in}
use Rattle.contest_folder.specs.Images.{submissions_in, images_of}
use Rattle.contest_folder.specs.Contest.{contest_of, settings_in, with_settings, with_problems, with_entries, roster_with}
use Rattle.contest_folder.proofs.Steps.{err_then, ok_then}

module _ (files : List TreeFile) (path : List ℕ) where
  abbrev list_in : Result (Option (List ℕ)) ContestFault
  list_in = file_in files path (codes "submissions.txt")

  pub err_settings : (e : ContestFault) → Answers {A = SettingsValue} (Err e) (settings_in files path) → Answers {A = RosterValue} (Err e) (contest_of files path)
  unfolding contest_of
  err_settings e h = err_then e (settings_in files path) (with_settings files path) h

  pub after_settings : (s : SettingsValue) (r : Result RosterValue ContestFault) → Answers (Ok s) (settings_in files path) → Answers r (with_settings files path s) → Answers r (contest_of files path)
  unfolding contest_of
  after_settings s r h more = ok_then s (settings_in files path) (with_settings files path) r h more

  pub err_problems : (s : SettingsValue) (e : ContestFault) → Answers {A = List Problem} (Err e) (problems_in files path s.ips) → Answers {A = RosterValue} (Err e) (with_settings files path s)
  err_problems s e h = err_then e (problems_in files path s.ips) (with_problems files path s) h

  pub after_problems : (s : SettingsValue) (ps : List Problem) (r : Result RosterValue ContestFault) → Answers (Ok ps) (problems_in files path s.ips) → Answers r (with_problems files path s ps)
      → Answers r (with_settings files path s)
  after_problems s ps r h more = ok_then ps (problems_in files path s.ips) (with_problems files path s) r h more

  pub err_list : (s : SettingsValue) (ps : List Problem) (e : ContestFault) → Answers {A = Option (List ℕ)} (Err e) (file_in files path (codes "submissions.txt"))
      → Answers {A = RosterValue} (Err e) (with_problems files path s ps)
  err_list s ps e h = err_then e (and_then (entries_said ps) list_in) (with_entries files path s ps) (err_then e list_in (entries_said ps) h)

  pub err_entries : (s : SettingsValue) (ps : List Problem) (text : Option (List ℕ)) (e : ContestFault) → Answers (Ok text) (file_in files path (codes "submissions.txt"))
      → Answers {A = List Entry} (Err e) (entries_said ps text) → Answers {A = RosterValue} (Err e) (with_problems files path s ps)
  err_entries s ps text e t h = err_then e (and_then (entries_said ps) list_in) (with_entries files path s ps) (ok_then text list_in (entries_said ps) (Err e) t h)

  pub after_entries : (s : SettingsValue) (ps : List Problem) (text : List ℕ) (es : List Entry) (r : Result RosterValue ContestFault) → Answers (Ok (Some text)) (file_in files path (codes "submissions.txt"))
      → Answers (Ok es) (entries_in ps text) → Answers r (with_entries files path s ps es) → Answers r (with_problems files path s ps)
  after_entries s ps text es r t h more =
      ok_then es (and_then (entries_said ps) list_in) (with_entries files path s ps) r (ok_then (Some text) list_in (entries_said ps) (Ok es) t h) more

  pub err_submissions : (s : SettingsValue) (ps : List Problem) (es : List Entry) (e : ContestFault) → Answers {A = List Submission} (Err e) (submissions_in files (images_of path) ps es)
      → Answers {A = RosterValue} (Err e) (with_entries files path s ps es)
  err_submissions s ps es e h = err_then e (submissions_in files (images_of path) ps es) (roster_with s ps) h

  pub after_submissions : (s : SettingsValue) (ps : List Problem) (es : List Entry) (ss : List Submission) → Answers (Ok ss) (submissions_in files (images_of path) ps es)
      → Answers (roster_with s ps ss) (with_entries files path s ps es)
  after_submissions s ps es ss h = ok_then ss (submissions_in files (images_of path) ps es) (roster_with s ps) (roster_with s ps ss) h (λ going. refl)
