use Rattle.std.proofs.Common.{◌≡◌, List, Some, None, Ok, Err, refl, subst₂, ◌∙◌, rules}
use Rattle.contest_folder.specs.declared.roster.Problem.{Problem}
use Rattle.contest_folder.specs.declared.roster.Submission.{Submission}
use Rattle.contest_folder.specs.declared.lines.Entry.{Entry}
use Rattle.contest_folder.specs.declared.faults.ContestFault.TheVariants as fault
use Rattle.contest_folder.specs.Telling.{Answers}
use Rattle.contest_folder.specs.SubmissionLines.{entries_in}
use Rattle.contest_folder.specs.Images.{submissions_in, images_of}
use Rattle.contest_folder.specs.Contest.{roster_with}
use Rattle.contest_folder.proofs.Readings.{err_settings, after_settings, err_problems, after_problems, err_list, err_entries, after_entries, err_submissions, after_submissions}
use Rattle.contest_folder.proofs.reading.read_contest.Goals as goal

pub returns-in_err-settings-clause-contest : goal.returns-in_err-settings-clause-contest
returns-in_err-settings-clause-contest g c = λ files told.
    let e = c.in_err-settings.field-0.0 in
    let is : c.from_residual.result ≡ Err e = search rules in
    rw is (err_settings files c.args.path.now e (c.in_err-settings.ensures.settings files told))

pub returns-in_err-problems-clause-contest : goal.returns-in_err-problems-clause-contest
returns-in_err-problems-clause-contest g c = λ files told.
    let path = c.args.path.now in
    let s = c.in_ok-settings.settings in
    let e = c.in_err-problems.field-0.0 in
    let is : c.from_residual-in_err-problems.result ≡ Err e = search rules in
    let problems = rw c.ips.ensures.value at (c.in_err-problems.ensures.problems files (c.in_ok-settings.ensures.same ∙ told)) in
    rw is (after_settings files path s (Err e) (c.in_ok-settings.ensures.settings files told) (err_problems files path s e problems))

pub returns-in_err-text-clause-contest : goal.returns-in_err-text-clause-contest
returns-in_err-text-clause-contest g c = λ files told.
    let path = c.args.path.now in
    let s = c.in_ok-settings.settings in
    let ps = c.in_ok-problems.problems.items in
    let e = c.in_err-text.field-0.0 in
    let is : c.from_residual-in_err-text.result ≡ Err e = search rules in
    let told1 = c.in_ok-settings.ensures.same ∙ told in
    let told2 = c.in_ok-problems.ensures.same ∙ told1 in
    let problems = rw c.ips.ensures.value at (c.in_ok-problems.ensures.problems files told1) in
    rw is (after_settings files path s (Err e) (c.in_ok-settings.ensures.settings files told)
    (after_problems files path s ps (Err e) problems (err_list files path s ps e (c.in_err-text.ensures.file files told2))))

pub returns-in_default-clause-contest : goal.returns-in_default-clause-contest
returns-in_default-clause-contest g c = λ files told.
    let path = c.args.path.now in
    let s = c.in_ok-settings.settings in
    let ps = c.in_ok-problems.problems.items in
    let told1 = c.in_ok-settings.ensures.same ∙ told in
    let told2 = c.in_ok-problems.ensures.same ∙ told1 in
    let problems = rw c.ips.ensures.value at (c.in_ok-problems.ensures.problems files told1) in
    let text = rw c.in_default.is at (c.in_ok-text.ensures.file files told2) in
    after_settings files path s (Err fault.NoList) (c.in_ok-settings.ensures.settings files told)
    (after_problems files path s ps (Err fault.NoList) problems (err_entries files path s ps None fault.NoList text (λ going. refl)))

pub returns-in_err-entries-clause-contest : goal.returns-in_err-entries-clause-contest
returns-in_err-entries-clause-contest g c = λ files told.
    let path = c.args.path.now in
    let s = c.in_ok-settings.settings in
    let ps = c.in_ok-problems.problems.items in
    let e = c.in_err-entries.field-0.0 in
    let is : c.from_residual-in_err-entries.result ≡ Err e = search rules in
    let told1 = c.in_ok-settings.ensures.same ∙ told in
    let told2 = c.in_ok-problems.ensures.same ∙ told1 in
    let problems = rw c.ips.ensures.value at (c.in_ok-problems.ensures.problems files told1) in
    let text = rw c.in-Some.is at (c.in_ok-text.ensures.file files told2) in
    let entries : Answers {A = List Entry} (Err e) (entries_in ps c.in-Some.text) = search rules in
    rw is (after_settings files path s (Err e) (c.in_ok-settings.ensures.settings files told)
    (after_problems files path s ps (Err e) problems (err_entries files path s ps (Some c.in-Some.text) e text entries)))

pub returns-in_err-submissions-clause-contest : goal.returns-in_err-submissions-clause-contest
returns-in_err-submissions-clause-contest g c = λ files told.
    let path = c.args.path.now in
    let s = c.in_ok-settings.settings in
    let ps = c.in_ok-problems.problems.items in
    let es = c.in_ok-entries.entries.items in
    let e = c.in_err-submissions.field-0.0 in
    let is : c.from_residual-in_err-submissions.result ≡ Err e = search rules in
    let told1 = c.in_ok-settings.ensures.same ∙ told in
    let told2 = c.in_ok-problems.ensures.same ∙ told1 in
    let told3 = c.in_ok-text.ensures.same ∙ told2 in
    let problems = rw c.ips.ensures.value at (c.in_ok-problems.ensures.problems files told1) in
    let text = rw c.in-Some.is at (c.in_ok-text.ensures.file files told2) in
    let entries : Answers (Ok es) (entries_in ps c.in-Some.text) = search rules in
    let held : c.as_slice-3.result.now ≡ ps = search rules in
    let listed : c.as_slice-4.result.now ≡ es = search rules in
    let submissions : Answers {A = List Submission} (Err e) (submissions_in files (images_of path) ps es) =
    subst₂ (λ (p : List Problem) (x : List Entry). Answers {A = List Submission} (Err e) (submissions_in files (images_of path) p x)) held listed (c.in_err-submissions.ensures.submissions files told3) in
    rw is (after_settings files path s (Err e) (c.in_ok-settings.ensures.settings files told)
    (after_problems files path s ps (Err e) problems
    (after_entries files path s ps c.in-Some.text es (Err e) text entries (err_submissions files path s ps es e submissions))))

pub returns-clause-contest : goal.returns-clause-contest
returns-clause-contest g c = λ files told.
    let path = c.args.path.now in
    let s = c.in_ok-settings.settings in
    let ps = c.in_ok-problems.problems.items in
    let es = c.in_ok-entries.entries.items in
    let ss = c.in_ok-submissions.submissions.items in
    let told1 = c.in_ok-settings.ensures.same ∙ told in
    let told2 = c.in_ok-problems.ensures.same ∙ told1 in
    let told3 = c.in_ok-text.ensures.same ∙ told2 in
    let problems = rw c.ips.ensures.value at (c.in_ok-problems.ensures.problems files told1) in
    let text = rw c.in-Some.is at (c.in_ok-text.ensures.file files told2) in
    let entries : Answers (Ok es) (entries_in ps c.in-Some.text) = search rules in
    let held : c.as_slice-3.result.now ≡ ps = search rules in
    let listed : c.as_slice-4.result.now ≡ es = search rules in
    let submissions : Answers (Ok ss) (submissions_in files (images_of path) ps es) =
    subst₂ (λ (p : List Problem) (x : List Entry). Answers (Ok ss) (submissions_in files (images_of path) p x)) held listed (c.in_ok-submissions.ensures.submissions files told3) in
    let roster = after_settings files path s (roster_with s ps ss) (c.in_ok-settings.ensures.settings files told)
    (after_problems files path s ps (roster_with s ps ss) problems
    (after_entries files path s ps c.in-Some.text es (roster_with s ps ss) text entries (after_submissions files path s ps es ss submissions))) in
    rw c.new.ensures roster
