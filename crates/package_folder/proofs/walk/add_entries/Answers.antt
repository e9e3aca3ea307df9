use Rattle.std.proofs.Common.{IsUtf8, subst, sym, arith}
use Rattle.std.proofs.lemmas.Grind.{common_steps}
use Rattle.farm_tree.specs.declared.entries.Entry.{Entry}
use Rattle.package_folder.proofs.walk.add_entries.Goals as goal

pub entry_path-requires : goal.entry_path-requires
entry_path-requires c =
    subst (λ (entry : Entry). IsUtf8 entry.name) (sym c.entry-item.is)
    (c.requires c.loop-entry.entry-index c.entry-item.result c.loop-entry-test.true)

pub loop-entry-preserved : goal.loop-entry-preserved
loop-entry-preserved c = grind (arith, common_steps)

pub returns-clause-files : goal.returns-clause-files
returns-clause-files c = grind (arith, common_steps)

pub returns-clause-folders : goal.returns-clause-folders
returns-clause-folders c = grind (arith, common_steps)
