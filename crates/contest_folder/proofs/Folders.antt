-- The folders of a listing, whatever its order; and names that are none of a problem.
use Rattle.std.proofs.Common.{ℕ, ◌≡◌, List, filter, Bool, true, false, cond, not, find, Option, Some, None, is_some, Contains, refl, sym, ap, ◌∙◌, subst}
use Rattle.farm_kinds.specs.Names.{is_name, name_read}
use Rattle.farm_tree.specs.declared.reads.TreeFile.{TreeFile}
use Rattle.farm_tree.specs.declared.entries.Entry.{Entry}
use Rattle.farm_tree.specs.Listing.{entries_below, IsListing}
use Rattle.package_folder.specs.Order.{in_order}
use Rattle.package_folder.proofs.Members.{in_map, from_map, in_filter, from_filter}
use Rattle.package_folder.proofs.Ordered.{same_order}
use Rattle.contest_folder.specs.Problems.{folders_of, is_bad_name}
use Rattle.contest_folder.proofs.Items.{none_is}

moved : (from to : List Entry) → ((entry : Entry) → Contains from entry → Contains to entry) → (name : List ℕ) → Contains (folders_of from) name → Contains (folders_of to) name
moved from to each name h =
    let named = from_map (λ (x : Entry). x.name) name (filter (λ (x : Entry). x.folder) from) h in
    let passed = from_filter (λ (x : Entry). x.folder) named.0 from named.1 in
    subst (Contains (folders_of to)) named.2
    (in_map (λ (x : Entry). x.name) named.0 (filter (λ (x : Entry). x.folder) to)
    (in_filter (λ (x : Entry). x.folder) named.0 to (each named.0 passed.0) passed.1))

pub listed_folders : (folder : List ℕ) (files : List TreeFile) (entries : List Entry) → IsListing folder files entries
    → in_order (folders_of entries) ≡ in_order (folders_of (entries_below folder files))
listed_folders folder files entries listing =
    same_order (folders_of entries) (folders_of (entries_below folder files)) (λ name. (
      moved entries (entries_below folder files) (λ entry. (listing.each entry).0) name,
      moved (entries_below folder files) entries (λ entry. (listing.each entry).1) name,
    ))

pub bad_by : (name : List ℕ) (r : Option (List ℕ)) (b : Bool) → r ≡ name_read name → is_some r ≡ not b → is_bad_name name ≡ b
bad_by name r b e is = by (is_name name) b (sym (ap is_some e) ∙ is)
  where
    by : (t u : Bool) → is_some (cond t (Some name) None) ≡ not u → not t ≡ u
    by true true h = sym h
    by true false h = refl
    by false true h = refl
    by false false h = sym h

pub none_among : (p : List ℕ → Bool) (names : List (List ℕ)) (name : List ℕ) → find p names ≡ None → Contains names name → p name ≡ false
none_among p names name none h = none_is p names h.0 name none h.1 (sym h.2)
