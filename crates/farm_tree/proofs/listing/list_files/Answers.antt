use Rattle.std.proofs.Common.{◌≡◌, List, [], Some, None, sym, ap, ◌∙◌, subst, arith, rules, get_or, length, eqb-true, false, ◌==◌, ◌<◌, ◌∷◌}
use Rattle.farm_tree.specs.declared.reads.TreeFile.{TreeFile}
use Rattle.farm_tree.specs.declared.entries.Entry.{Entry}
use Rattle.farm_tree.specs.Listing.{below, entry_to, with_entry, IsListing}
use Rattle.farm_tree.proofs.Listings.{listing_none, listing_same, listing_more, texts_below, absent, listed, short_folder}
use Rattle.farm_tree.proofs.listing.list_files.Goals as goal
use Rattle.farm_tree.proofs.listing.list_files.Goals.{in-Some+in_ok-map_err, in_default}

some : (entries : List Entry) → false ≡ (length entries == 0) → 0 < length entries
some [] e = cc
some (entry ∷ entries) e = omega arith

pub loop-file-init : goal.loop-file-init
loop-file-init c = record {
  listing = subst (λ (entries : List Entry). IsListing c.args.folder.now [] entries) (sym c.new-entries.ensures) (listing_none c.args.folder.now);
  text = rw c.new-entries.ensures (λ k d lt. absurd (omega arith));
}

pub loop-file-preserved : goal.loop-file-preserved
loop-file-preserved c =
    let folder = c.args.folder.now in
    let files = c.args.files.now in
    let at = c.loop-file.file-index in
    let file = c.file-item.result in
    let same : below folder file.path ≡ below folder (get_or files at file).path = ap (λ (f : TreeFile). below folder f.path) c.file-item.is in
    elim c.match-below.branch [
      | in-Some+in_ok-map_err w ↦
          let found : Some w.in-Some.rest.now ≡ below folder (get_or files at file).path = rw c.as_slice.ensures at w.in-Some.ensures ∙ same in
          let is : c.match-below.entries ≡ with_entry (entry_to w.in-Some.rest.now) c.loop-file.entries = search rules in
          record {
            listing = rw is (listing_more folder files at file c.loop-file.entries w.in-Some.rest.now c.loop-file-test.true found c.loop-file.invariant.listing);
            text = rw is (texts_below folder files at file c.loop-file.entries w.in-Some.rest.now c.loop-file-test.true found c.requires c.loop-file.invariant.text);
          }
      | in_default w ↦
          let none : None ≡ below folder (get_or files at file).path = rw c.as_slice.ensures at w.in_default.ensures ∙ same in
          record {
            listing = rw w.entries-is (listing_same folder files at file c.loop-file.entries c.loop-file-test.true none c.loop-file.invariant.listing);
            text = rw w.entries-is c.loop-file.invariant.text;
          }
    ]

pub returns-then-is_empty-clause-answer : goal.returns-then-is_empty-clause-answer
returns-then-is_empty-clause-answer c = absent c.args.folder.now c.args.files.now c.loop-file.file-index c.loop-file.entries c.loop-file-test.false (rw c.as_slice-2.ensures at (eqb-true _ _ (sym c.if-is_empty.ensures))) c.loop-file.invariant.listing

pub returns-clause-answer : goal.returns-clause-answer
returns-clause-answer c = listed c.args.folder.now c.args.files.now c.loop-file.file-index c.loop-file.entries c.loop-file-test.false (some c.loop-file.entries (rw c.as_slice-2.ensures at c.if-is_empty.ensures)) c.loop-file.invariant.listing

pub returns-clause-within : goal.returns-clause-within
returns-clause-within c =
    let is = listed c.args.folder.now c.args.files.now c.loop-file.file-index c.loop-file.entries c.loop-file-test.false (some c.loop-file.entries (rw c.as_slice-2.ensures at c.if-is_empty.ensures)) c.loop-file.invariant.listing in
    short_folder c.args.folder.now c.args.files.now c.requires is.0
