use Rattle.std.proofs.Common.{All, IsUtf8, take}
use Rattle.farm_tree.specs.declared.entries.Entry.{Entry}
use Rattle.farm_tree.specs.Listing.{IsListing}
use Rattle.farm_tree.proofs.listing.list_files.Given as goal

abbrev pub invariant-loop-file : goal.invariant-loop-file
invariant-loop-file l = record {
  listing : IsListing l.folder (take l.file-index l.files) l.entries;
  text : All (λ (entry : Entry). IsUtf8 entry.name) l.entries;
}
