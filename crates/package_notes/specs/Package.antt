-- What a person is told of a package that nobody asked about: what lies in its folder and is not read, and what is otherwise
-- than one may think who wrote it.
use Rattle.std.specs.Prelude.{ℕ, List, [], ◌++◌, ◌&&◌, length, if◌then◌else◌, nat_le, Option, Some, None, codes}
use Rattle.std.specs.List.{filter_map}
use Rattle.farm_tree.specs.declared.reads.TreeFile.{TreeFile}
use Rattle.farm_tree.specs.Reading.{file_at, file_limit}
use Rattle.farm_tree.specs.Listing.{in_folder, entries_below}
use Rattle.package_folder.specs.Names.{name_below, paths_below}
use Rattle.package_folder.specs.Reading.{data_of, validators_of}
use Rattle.package_notes.specs.declared.notes.Note.{Note}
use Rattle.package_notes.specs.Notes.{yaml_notes, ini_notes_in}
use Rattle.package_notes.specs.Files.{file_notes, folder_notes, says_default, has_entries, validator_notes, says_custom, elf_note_on}

-- the bytes of a file that is not too large
abbrev pub text_of : Option (List ℕ) → Option (List ℕ)
text_of None = None
text_of (Some bytes) = if nat_le (length bytes) file_limit then Some bytes else None

abbrev pub text_in : List TreeFile → List ℕ → List ℕ → Option (List ℕ)
text_in files path name = text_of (file_at files (in_folder path name))

abbrev pub yaml_notes_in : Option (List ℕ) → List Note
yaml_notes_in None = []
yaml_notes_in (Some text) = yaml_notes text

-- what follows from these texts, these paths of the files below `data`, and whether something lies in `output_validators`
abbrev pub notes_from : List ℕ → Option (List ℕ) → Option (List ℕ) → List (List ℕ) → List Note → List Note
notes_from path yaml ini paths validators =
    yaml_notes_in yaml ++ ini_notes_in ini ++ file_notes path paths ++ folder_notes (data_of path) paths ++ validators

-- the notes on `problem.yaml` and on `domjudge-problem.ini` in the order of their lines, on the files and then on the folders of
-- `data` in the order of their paths, and on `output_validators`
abbrev pub skipped_notes : List TreeFile → List ℕ → List Note
skipped_notes files path =
    let yaml = text_in files path (codes "problem.yaml") in
    notes_from path yaml (text_in files path (codes "domjudge-problem.ini")) (paths_below (data_of path) files)
    (validator_notes (says_default yaml && has_entries (entries_below (validators_of path) files)))

-- the note on a file of `output_validators`
abbrev pub elf_note : List TreeFile → List ℕ → List ℕ → Option Note
elf_note files path file = elf_note_on (name_below path file) (text_of (file_at files file))

-- those on all of them, where one of them is asked for
abbrev pub elf_notes : List TreeFile → List ℕ → List Note
elf_notes files path =
    if says_custom (text_in files path (codes "problem.yaml"))
    then filter_map (elf_note files path) (paths_below (validators_of path) files) else []

-- The notes on the package in the folder at the path: on what is skipped, and on a validator that is run though it begins as an
-- ELF file.
abbrev pub package_notes : List TreeFile → List ℕ → List Note
package_notes files path = skipped_notes files path ++ elf_notes files path
