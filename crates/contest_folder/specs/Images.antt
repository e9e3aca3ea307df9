-- The images of submissions, and how many bytes a contest has.
use Rattle.std.specs.Prelude.{ℕ, ◌+◌, List, [], ◌∷◌, ◌++◌, length, map, find, if◌then◌else◌, nat_le, Bool, Option, Some, None, is_none, Result, Ok, Err, codes}
use Rattle.farm_tree.specs.declared.reads.TreeFile.{TreeFile}
use Rattle.farm_tree.specs.Reading.{file_at, file_limit}
use Rattle.farm_tree.specs.Listing.{in_folder}
use Rattle.package_folder.specs.declared.package.Test.{Test}
use Rattle.contest_folder.specs.declared.roster.Problem.{Problem}
use Rattle.contest_folder.specs.declared.roster.Submission.{Submission}
use Rattle.contest_folder.specs.declared.lines.Entry.{Entry}
use Rattle.contest_folder.specs.declared.faults.ContestFault.{ContestFault}
use Rattle.contest_folder.specs.declared.faults.ContestFault.TheVariants as fault
use Rattle.contest_folder.specs.RosterShape.{submission_limit}

abbrev pub images_of : List ℕ → List ℕ
images_of path = in_folder path (codes "submissions")

-- a file that is too large counts as an empty one
abbrev pub held_of : List ℕ → List ℕ
held_of bytes = if nat_le (length bytes) file_limit then bytes else []

-- the file of this name in the folder of submissions
abbrev pub image_file : List TreeFile → List ℕ → Entry → Option (List ℕ)
image_file files folder entry = file_at files (in_folder folder entry.file)

abbrev pub image_said : ℕ → Option (List ℕ) → Result (List ℕ) ContestFault
image_said line None = Err (fault.NoImage line)
image_said line (Some bytes) = Ok (held_of bytes)

-- the image of the entry, or that it is not there
abbrev pub image_in : List TreeFile → List ℕ → Entry → Result (List ℕ) ContestFault
image_in files folder entry = image_said entry.line (image_file files folder entry)

abbrev pub lacks_image : List TreeFile → List ℕ → Entry → Bool
lacks_image files folder entry = is_none (image_file files folder entry)

abbrev pub held_or_none : Option (List ℕ) → List ℕ
held_or_none None = []
held_or_none (Some bytes) = held_of bytes

abbrev pub submission_of : List TreeFile → List ℕ → Entry → Submission
submission_of files folder entry = record {
  team = entry.team;
  problem = entry.problem;
  image = held_or_none (image_file files folder entry);
}

-- how many bytes the test files of a contest and its images have at most
abbrev pub total_limit : ℕ
total_limit = 1073741824

-- a file more, where the limit is not passed yet
abbrev pub added : ℕ → ℕ → ℕ
added total size = if nat_le total total_limit then total + size else total

-- the bytes of the files of these sizes, up to the file that passed the limit
abbrev pub added_all : ℕ → List ℕ → ℕ
added_all total [] = total
added_all total (size ∷ sizes) = added_all (added total size) sizes

-- the input of a test, and then its answer
abbrev pub test_sizes : List Test → List ℕ
test_sizes [] = []
test_sizes (test ∷ tests) = length test.input ∷ length test.answer ∷ test_sizes tests

abbrev pub problem_sizes : List Problem → List ℕ
problem_sizes [] = []
problem_sizes (problem ∷ problems) = test_sizes problem.contents.tests ++ problem_sizes problems

abbrev pub image_sizes : List Submission → List ℕ
image_sizes submissions = map (λ submission. length submission.image) submissions

abbrev pub total_of : List Problem → List Submission → ℕ
total_of problems submissions = added_all 0 (problem_sizes problems ++ image_sizes submissions)

abbrev pub submissions_within : List Problem → List Submission → Result (List Submission) ContestFault
submissions_within problems submissions =
    if nat_le (total_of problems submissions) total_limit then Ok submissions
    else Err (fault.TooMuch (total_of problems submissions))

abbrev pub submissions_counted : List Problem → List Submission → Result (List Submission) ContestFault
submissions_counted problems submissions =
    if nat_le (length submissions) submission_limit then submissions_within problems submissions
    else Err (fault.TooManySubmissions (length submissions))

abbrev pub submissions_imaged : Option Entry → List Problem → List Submission → Result (List Submission) ContestFault
submissions_imaged (Some entry) problems submissions = Err (fault.NoImage entry.line)
submissions_imaged None problems submissions = submissions_counted problems submissions

-- the submissions with their images, which are all there and not too many
abbrev pub submissions_in : List TreeFile → List ℕ → List Problem → List Entry → Result (List Submission) ContestFault
submissions_in files folder problems entries =
    submissions_imaged (find (lacks_image files folder) entries) problems (map (submission_of files folder) entries)
