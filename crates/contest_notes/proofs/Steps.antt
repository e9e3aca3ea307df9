-- Notes one after another.
use Rattle.std.proofs.Common.{ℕ, ◌≡◌, ◌+◌, ◌<◌, List, [], ◌∷◌, ◌++◌, length, get_or, take, filter_map, flat_map, false, cond, Option, Some, None, option_and_then, string_bytes, refl, sym, ap, ◌∙◌, add-one, append-nil}
use Rattle.std.specs.Prelude.{String}
use Rattle.std.specs.Global.{Global}
use Rattle.std.specs.List.{cons_option}
use Rattle.std.proofs.lemmas.Grind.{flat_map-append}
use Rattle.std.proofs.lemmas.List.Elements.{filter_map-append}
use Rattle.package_folder.specs.Paths.{texts}
use Rattle.package_folder.proofs.Strings.{take_text}
use Rattle.farm_tree.specs.declared.reads.TreeFile.{TreeFile}
use Rattle.problem_settings.specs.Lines.{parts}
use Rattle.contest_folder.specs.SubmissionLines.{is_comment}
use Rattle.contest_folder.proofs.Items.{take_item}
use Rattle.contest_notes.specs.Notes.{note_of_file, note_of_line, said_by}
use Rattle.contest_notes.specs.declared.notes.ContestNote.{ContestNote}

-- the notes of one more text
pub text_step : (f : List ℕ → List ContestNote) (items : List (String Global)) (i : ℕ) (item : String Global) (more : List ContestNote) → i < length items
    → item ≡ get_or items i item → f (string_bytes item) ≡ more
    → flat_map f (take (i + 1) (texts items)) ≡ flat_map f (take i (texts items)) ++ more
text_step f items i item more lt e is =
    rw add-one
    (ap (flat_map f) (take_text items i item lt e)
    ∙ flat_map-append f (take i (texts items)) (string_bytes item ∷ [])
    ∙ ap (λ (q : List ContestNote). flat_map f (take i (texts items)) ++ q) (append-nil (f (string_bytes item)) ∙ is))

-- the note of one more item
pub item_step : {X : Type 0} (f : X → Option ContestNote) (items : List X) (i : ℕ) (item : X) (o : Option ContestNote) → i < length items
    → item ≡ get_or items i item → f item ≡ o
    → filter_map f (take (i + 1) items) ≡ filter_map f (take i items) ++ cons_option o []
item_step f items i item o lt e is =
    rw add-one
    (ap (filter_map f) (take_item items i item lt e)
    ∙ filter_map-append f (take i items) (item ∷ [])
    ∙ ap (λ (q : Option ContestNote). filter_map f (take i items) ++ cons_option q []) is)

-- a note in front of others
pub cons_more : (o : Option ContestNote) (notes : List ContestNote) → cons_option o notes ≡ cons_option o [] ++ notes
cons_more None notes = refl
cons_more (Some note) notes = refl

-- the note on a line that is no comment and says a file
pub line_note : (files : List TreeFile) (folder line number file : List ℕ) → is_comment line ≡ false → Some (number, file) ≡ said_by (parts 32 line)
    → note_of_line files folder line ≡ note_of_file files folder (number, file)
line_note files folder line number file plain said =
    ap (λ b. cond b None (option_and_then (note_of_file files folder) (said_by (parts 32 line)))) plain
    ∙ ap (option_and_then (note_of_file files folder)) (sym said)
