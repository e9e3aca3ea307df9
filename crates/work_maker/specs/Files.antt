-- The files of a made contest, which are those of a contest's folder.
use Rattle.std.specs.Prelude.{ℕ, suc, List, [], ◌∷◌, ◌++◌, codes}
use Rattle.std.specs.Fmt.{decimal}
use Rattle.std.specs.List.{flat_map}
use Rattle.farm_tree.specs.declared.reads.TreeFile.{TreeFile}
use Rattle.farm_tree.specs.MemoryValue.{MemoryValue}
use Rattle.work_maker.specs.Programs.{image_of}
use Rattle.work_maker.specs.Made.{MadeProblem, MadeSubmission, made_problems, made_submissions}

-- the folder of a made contest
abbrev pub contest_folder : List ℕ
contest_folder = codes "contest"

abbrev pub file_with : List ℕ → List ℕ → TreeFile
file_with path bytes = record { path = path; bytes = bytes }

abbrev pub problem_name : ℕ → List ℕ
problem_name number = 112 ∷ decimal number

abbrev pub team_name : ℕ → List ℕ
team_name number = 116 ∷ decimal number

-- ---- a problem: its settings, its time limit, and for each test an input and the answer, which is the same

abbrev pub problem_path : ℕ → List ℕ → List ℕ
problem_path number name = codes "contest/problems/" ++ (problem_name number ++ 47 ∷ name)

abbrev pub test_path : ℕ → ℕ → List ℕ → List ℕ
test_path number test ending = problem_path number (codes "data/secret/0" ++ (decimal test ++ ending))

abbrev pub yaml_text : ℕ → List ℕ
yaml_text number = codes "name: " ++ (problem_name number ++ codes "\nlimits:\n  memory: 1\n")

abbrev pub limit_text : List ℕ
limit_text = codes "timelimit=0.01\n"

abbrev pub input_text : ℕ → List ℕ
input_text input = decimal input ++ 10 ∷ []

-- the tests from this one on
abbrev pub test_files : ℕ → ℕ → List ℕ → List TreeFile
test_files number test [] = []
test_files number test (input ∷ inputs) =
    file_with (test_path number test (codes ".in")) (input_text input)
    ∷ file_with (test_path number test (codes ".ans")) (input_text input)
    ∷ test_files number (suc test) inputs

abbrev pub problem_files : MadeProblem → List TreeFile
problem_files problem =
    file_with (problem_path problem.number (codes "problem.yaml")) (yaml_text problem.number)
    ∷ file_with (problem_path problem.number (codes "domjudge-problem.ini")) limit_text
    ∷ test_files problem.number 1 problem.inputs

-- ---- submissions, which are numbered from 1: an image for each, and a line

abbrev pub image_name : ℕ → List ℕ
image_name number = decimal number ++ codes ".rv32"

abbrev pub image_path : ℕ → List ℕ
image_path number = codes "contest/submissions/" ++ image_name number

-- the images of the submissions from this one on
abbrev pub image_files : ℕ → List MadeSubmission → List TreeFile
image_files number [] = []
image_files number (submission ∷ submissions) =
    file_with (image_path number) (image_of submission.program) ∷ image_files (suc number) submissions

-- words with single spaces between them, and a line feed behind the last one
abbrev pub line_of : List (List ℕ) → List ℕ
line_of [] = 10 ∷ []
line_of (word ∷ []) = word ++ 10 ∷ []
line_of (word ∷ words) = word ++ 32 ∷ line_of words

-- `NUMBER TEAM PROBLEM FILE`
abbrev pub submission_line : ℕ → MadeSubmission → List ℕ
submission_line number submission =
    line_of (decimal number ∷ team_name submission.team ∷ problem_name submission.problem ∷ image_name number ∷ [])

-- the lines of the submissions from this one on
abbrev pub list_text : ℕ → List MadeSubmission → List ℕ
list_text number [] = []
list_text number (submission ∷ submissions) =
    submission_line number submission ++ list_text (suc number) submissions

abbrev pub list_path : List ℕ
list_path = codes "contest/submissions.txt"

abbrev pub submission_files : List MadeSubmission → List TreeFile
submission_files submissions = image_files 1 submissions ++ file_with list_path (list_text 1 submissions) ∷ []

-- the files of these problems and submissions
abbrev pub files_with : List MadeProblem → List MadeSubmission → List TreeFile
files_with problems submissions = flat_map problem_files problems ++ submission_files submissions

-- the files of the contest `number`, with `problems` problems and `submissions` submissions
abbrev pub made_files : ℕ → ℕ → ℕ → List TreeFile
made_files number problems submissions =
    files_with (made_problems number problems) (made_submissions number problems submissions)

-- a tree of these files that does not fail
abbrev pub tree_of : List TreeFile → MemoryValue
tree_of files = record { files = files; failing = []; calls = 0; faults = 0 }
