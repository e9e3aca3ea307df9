use Rattle.std.proofs.Common.{◌≡◌, None, refl, rules}
use Rattle.std.specs.List.{find}
use Rattle.package_folder.specs.Names.{is_groups}
use Rattle.package_folder.proofs.stems.stems_of.Goals as goal

-- no path is that of test groups, where none was found
pub returns-clause-stems : goal.returns-clause-stems
returns-clause-stems c =
    let none : find is_groups c.args.paths.now ≡ None = rw (← c.as_slice.ensures, ← c.first_groups.ensures, c.in_default.is) refl in
    search rules

pub returns-in-Some-2-clause-stems : goal.returns-in-Some-2-clause-stems
returns-in-Some-2-clause-stems c =
    let none : find is_groups c.args.paths.now ≡ None = rw (← c.as_slice.ensures, ← c.first_groups.ensures, c.in_default.is) refl in
    search rules
