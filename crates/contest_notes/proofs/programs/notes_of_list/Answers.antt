use Rattle.std.proofs.Common.{◌≡◌, ℕ, List, IfOk, codes, ap, subst, ◌∙◌, rules}
use Rattle.farm_tree.specs.Listing.{in_folder}
use Rattle.farm_tree.specs.Reading.{file_at}
use Rattle.contest_folder.specs.Images.{held_or_none, images_of}
use Rattle.contest_notes.specs.Notes.{notes_of_lines}
use Rattle.contest_notes.proofs.programs.notes_of_list.Goals as goal

pub returns-clause-notes : goal.returns-clause-notes
returns-clause-notes g c = λ files told.
    let folder : c.as_str-2.result.now ≡ images_of c.args.path.now = c.as_str-2.ensures.value ∙ c.in_ok-folder.ensures in
    let list : c.as_str.result.now ≡ in_folder c.args.path.now (codes "submissions.txt") = c.as_str.ensures.value ∙ c.in_ok-list.ensures in
    let bytes : c.as_slice.result.now ≡ held_or_none (file_at files c.as_str.result.now) = search rules in
    let text = bytes ∙ ap (λ p. held_or_none (file_at files p)) list in
    subst (λ (t : List ℕ). IfOk c.notes_of_lines.result (λ notes. notes.items ≡ notes_of_lines files (images_of c.args.path.now) t)) text
    (subst (λ (f : List ℕ). IfOk c.notes_of_lines.result (λ notes. notes.items ≡ notes_of_lines files f c.as_slice.result.now)) folder
    (c.notes_of_lines.ensures.notes files (c.in_ok-text.ensures.same ∙ told)))
