-- What a person is told of a contest that nobody asked about: the notes on its packages, the names in `problem_modes` that no
-- problem has, and the submissions whose files are no programs. No other setting has names of problems.
use Rattle.std.specs.Prelude.{ℕ, List, [], ◌∷◌, ◌++◌, take, map, flat_map, if◌then◌else◌, Option, Some, None, option_map, Result, Ok, Err, codes}
use Rattle.std.specs.Option.{option_and_then}
use Rattle.std.specs.List.{filter_map, list_any}
use Rattle.std.specs.Str.{bytes_eq}
use Rattle.farm_kinds.specs.declared.outcomes.NamedMode.{NamedMode}
use Rattle.farm_tree.specs.declared.reads.TreeFile.{TreeFile}
use Rattle.farm_tree.specs.Reading.{file_at}
use Rattle.farm_tree.specs.Listing.{in_folder}
use Rattle.farm_model.specs.State.{SettingsValue}
use Rattle.problem_settings.specs.Lines.{parts}
use Rattle.package_notes.specs.Package.{package_notes}
use Rattle.program_notes.specs.Faults.{program_fault}
use Rattle.contest_folder.specs.declared.faults.ContestFault.{ContestFault}
use Rattle.contest_folder.specs.Contest.{settings_in}
use Rattle.contest_folder.specs.Images.{held_of, held_or_none, images_of}
use Rattle.contest_folder.specs.Problems.{problems_of, shorts_in}
use Rattle.contest_folder.specs.SubmissionLines.{is_comment, is_file_name}
use Rattle.contest_notes.specs.declared.notes.ContestNote.{ContestNote}
use Rattle.contest_notes.specs.declared.notes.ContestNote.TheVariants as note

-- ---- packages

-- the notes on the package of this name in the folder
abbrev pub notes_of_package : List TreeFile → List ℕ → List ℕ → List ContestNote
notes_of_package files folder short = map (note.Package short) (package_notes files (in_folder folder short))

-- those on each of the packages, one package after another
abbrev pub notes_of_packages : List TreeFile → List ℕ → List (List ℕ) → List ContestNote
notes_of_packages files folder shorts = flat_map (notes_of_package files folder) shorts

-- ---- problem_modes

-- the note on the mode of a problem, where none of the problems has the name
abbrev pub note_of_mode : List (List ℕ) → NamedMode → Option ContestNote
note_of_mode shorts mode = if list_any (bytes_eq mode.name) shorts then None else Some (note.LostMode mode.name)

abbrev pub notes_of_modes : List (List ℕ) → List NamedMode → List ContestNote
notes_of_modes shorts modes = filter_map (note_of_mode shorts) modes

-- a `farm.json` that is at fault names no problem
abbrev pub modes_said : Result SettingsValue ContestFault → List NamedMode
modes_said (Ok settings) = settings.modes
modes_said (Err e) = []

-- ---- submissions

-- how a file begins that is not too large to be read
abbrev pub head_of : List ℕ → List ℕ
head_of bytes = take 20 (held_of bytes)

-- the note on a file with these bytes, where they are no program
abbrev pub program_note : List ℕ → List ℕ → List ℕ → Option ContestNote
program_note number file bytes =
    option_map (λ fault. note.NoProgram number file fault (head_of bytes)) (program_fault bytes)

-- the note on the file of this name in the folder, where it is there
abbrev pub note_of_file : List TreeFile → List ℕ → List ℕ × List ℕ → Option ContestNote
note_of_file files folder said = option_and_then (program_note said.0 said.1) (file_at files (in_folder folder said.1))

-- the number and the file that the words of a line say: NUMBER TEAM PROBLEM FILE
abbrev pub said_by : List (List ℕ) → Option (List ℕ × List ℕ)
said_by (number ∷ team ∷ problem ∷ file ∷ []) = if is_file_name file then Some (number, file) else None
said_by words = None

abbrev pub note_of_line : List TreeFile → List ℕ → List ℕ → Option ContestNote
note_of_line files folder line =
    if is_comment line then None else option_and_then (note_of_file files folder) (said_by (parts 32 line))

-- the notes on the lines of the text
abbrev pub notes_of_lines : List TreeFile → List ℕ → List ℕ → List ContestNote
notes_of_lines files folder text = filter_map (note_of_line files folder) (parts 10 text)

-- those on the lines of `submissions.txt`; a list that is not there or too large has none
abbrev pub notes_of_list : List TreeFile → List ℕ → List ContestNote
notes_of_list files path =
    notes_of_lines files (images_of path) (held_or_none (file_at files (in_folder path (codes "submissions.txt"))))

-- ---- all of them

-- The notes on the contest in the folder at the path: those on its packages in the order of their names, then on the modes in
-- the order of `problem_modes`, and then on the submissions in the order of their lines. Of a folder that is no contest there
-- are the same.
unfoldable pub contest_notes : List TreeFile → List ℕ → List ContestNote
contest_notes files path =
    notes_of_packages files (problems_of path) (shorts_in files path)
    ++ notes_of_modes (shorts_in files path) (modes_said (settings_in files path))
    ++ notes_of_list files path
