use Rattle.std.proofs.Common.{◌≡◌, ◌++◌, List, ℕ, [], sym, subst, subst₂, rules}
use Rattle.std.proofs.lemmas.Option.{MatchOption-at_some}
use Rattle.package_folder.specs.Walk.{Visits, DeepensBy, files_among, folders_among}
use Rattle.package_folder.proofs.Walks.{visits, visits_nothing, deepens_listed}
use Rattle.package_folder.proofs.walk.list_folder.Goals as goal

pub returns-in_ok-add_entries-in-Ok-clause-visits : goal.returns-in_ok-add_entries-in-Ok-clause-visits
returns-in_ok-add_entries-in-Ok-clause-visits g c = λ files told.
    let folder = c.args.folder.now in
    let entries = c.in-Ok.entries in
    let listing = MatchOption-at_some _ _ files told c.in-Ok.ensures.answer in
    let there : c.add_entries.new.files ≡ c.args.found.now ++ files_among folder entries = rw c.as_slice.ensures at c.in_ok-add_entries-in-Ok.ensures.files in
    let inner : c.add_entries.new.folders ≡ c.args.folders.now ++ folders_among folder entries = rw c.as_slice.ensures at c.in_ok-add_entries-in-Ok.ensures.folders in
    rw (there, inner) (visits files folder entries c.args.found.now c.args.folders.now listing.1)

pub returns-in_ok-add_entries-in-Ok-clause-deepens : goal.returns-in_ok-add_entries-in-Ok-clause-deepens
returns-in_ok-add_entries-in-Ok-clause-deepens g c =
    let folder = c.args.folder.now in
    let entries = c.in-Ok.entries in
    let inner : c.add_entries.new.folders ≡ c.args.folders.now ++ folders_among folder entries = rw c.as_slice.ensures at c.in_ok-add_entries-in-Ok.ensures.folders in
    rw inner (deepens_listed folder entries c.args.folders.now c.in-Ok.ensures.within)

pub returns-in-Err-Absent-clause-visits : goal.returns-in-Err-Absent-clause-visits
returns-in-Err-Absent-clause-visits g c = λ files told.
    visits_nothing files c.args.folder.now c.args.found.now c.args.folders.now
    (MatchOption-at_some _ _ files told (rw c.in-Err-Absent.field-0-is at c.in-Err-Absent.ensures.answer))
