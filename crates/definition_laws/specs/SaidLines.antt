-- The lines of a contest's list of submissions.
use Rattle.std.specs.Prelude.{◌≡◌, ℕ, ◌+◌, List, [], ◌∷◌, ◌++◌, filter, not, ◌||◌, Some, codes, ⊤}
use Rattle.std.specs.Fmt.{decimal}
use Rattle.farm_tree.specs.declared.reads.TreeFile.{TreeFile}
use Rattle.farm_tree.specs.Reading.{file_at}
use Rattle.farm_tree.specs.Listing.{in_folder}
use Rattle.problem_settings.specs.Lines.{parts}
use Rattle.contest_folder.specs.declared.roster.Submission.{Submission}
use Rattle.contest_folder.specs.SubmissionLines.{is_blank, is_comment}
use Rattle.contest_folder.specs.Images.{held_of}

-- the lines of a text that are neither blank nor a comment
abbrev pub said_lines : List ℕ → List (List ℕ)
said_lines text = filter (λ line. not (is_blank line || is_comment line)) (parts 10 text)

-- the line `NUMBER TEAM PROBLEM FILE` of a submission
abbrev pub line_of : ℕ → Submission → List ℕ → List ℕ
line_of number submission file =
    decimal number ++ 32 ∷ (submission.team ++ 32 ∷ (submission.problem ++ 32 ∷ file))

-- the line says this submission, whose image is that of the file; a file that is too large counts as an empty one
abbrev pub Says : List TreeFile → List ℕ → ℕ → List ℕ → Submission → Type 0
Says files path number line submission =
    (file bytes : List ℕ) × (line ≡ line_of number submission file)
    × (file_at files (in_folder (in_folder path (codes "submissions")) file) ≡ Some bytes)
    × (submission.image ≡ held_of bytes)

-- each line says one submission, in order; the first of them has this number
abbrev pub AreSaid : List TreeFile → List ℕ → ℕ → List (List ℕ) → List Submission → Type 0
AreSaid files path number [] [] = ⊤
AreSaid files path number [] (submission ∷ submissions) = ⊥
AreSaid files path number (line ∷ lines) [] = ⊥
AreSaid files path number (line ∷ lines) (submission ∷ submissions) =
    Says files path number line submission × AreSaid files path (number + 1) lines submissions
