use Rattle.std.proofs.Common.{◌≡◌, ◌++◌, ◌∷◌, [], List, ℕ, IsUtf8, subst, sym, ap, ◌∙◌, rules}
use Rattle.farm_tree.specs.declared.entries.Entry.{Entry}
use Rattle.contest_folder.specs.Problems.{folders_of}
use Rattle.contest_folder.proofs.Items.{folder_item}
use Rattle.contest_folder.proofs.problems.names_of_folders.Goals as goal

pub add_folder-requires : goal.add_folder-requires
add_folder-requires c =
    subst (λ (entry : Entry). IsUtf8 entry.name) (sym c.entry-item.is)
    (c.requires c.loop-entry.entry-index c.entry-item.result c.loop-entry-test.true)

pub loop-entry-preserved : goal.loop-entry-preserved
loop-entry-preserved c =
    let entry = c.entry-item.result in
    let added : c.add_folder.new.names ≡ c.loop-entry.names ++ folders_of (entry ∷ []) = search rules in
    added ∙ ap (λ (ns : List (List ℕ)). ns ++ folders_of (entry ∷ [])) c.loop-entry.invariant
    ∙ sym (folder_item c.args.entries.now c.loop-entry.entry-index entry c.loop-entry-test.true c.entry-item.is)
