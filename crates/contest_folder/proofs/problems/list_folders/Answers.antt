use Rattle.std.proofs.Common.{◌≡◌, [], sym, ap, ◌∙◌}
use Rattle.std.proofs.lemmas.Option.{MatchOption-at_some}
use Rattle.farm_tree.specs.Listing.{entries_below}
use Rattle.package_folder.specs.Order.{in_order}
use Rattle.contest_folder.specs.Problems.{folders_of}
use Rattle.contest_folder.proofs.Folders.{listed_folders}
use Rattle.contest_folder.proofs.problems.list_folders.Goals as goal

pub returns-in_ok-names_of_folders-in-Ok-clause-names : goal.returns-in_ok-names_of_folders-in-Ok-clause-names
returns-in_ok-names_of_folders-in-Ok-clause-names g c = λ files told.
    let listing = MatchOption-at_some _ _ files told c.in-Ok.ensures.answer in
    ap in_order (rw c.as_slice.ensures at c.in_ok-names_of_folders-in-Ok.ensures) ∙ listed_folders c.args.folder.now files c.in-Ok.entries listing.1

pub returns-in-Err-Absent-clause-names : goal.returns-in-Err-Absent-clause-names
returns-in-Err-Absent-clause-names g c = λ files told.
    let none : entries_below c.args.folder.now files ≡ [] = MatchOption-at_some _ _ files told (rw c.in-Err-Absent.field-0-is at c.in-Err-Absent.ensures.answer) in
    let empty : c.new.result ≡ folders_of (entries_below c.args.folder.now files) = c.new.ensures ∙ sym (ap folders_of none) in
    ap in_order empty
