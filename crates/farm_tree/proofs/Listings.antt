-- The entries of a folder, file by file.
use Rattle.std.proofs.Common.{ℕ, ◌≡◌, ◌≢◌, ◌+◌, ◌<◌, ◌≤◌, List, [], ◌∷◌, ◌++◌, Option, Some, None, Bool, true, false, not, cond, length, take, get_or, All, Contains, AllPairs, IsUtf8, refl, sym, ap, ◌∙◌, subst, arith, ⊎_elim, ◌↔◌, option_map, filter_map, append-nil, bytes_eq, take_all}
use Rattle.std.specs.List.{cons_option, list_any}
use Rattle.std.proofs.lemmas.Bool.{and_parts, and_from, cases_Bool, both_ways}
use Rattle.std.proofs.lemmas.List.{take_more}
use Rattle.std.proofs.lemmas.List.Elements.{filter_map-append, Contains-push, Contains-push_cases, Contains-append_left, All-push, All-tail}
use Rattle.std.proofs.lemmas.List.Folds.{list_any_at}
use Rattle.std.proofs.lemmas.List.Quantifiers.{all_pairs_push}
use Rattle.std.proofs.lemmas.Map.Views.{Contains-from_any}
use Rattle.std.proofs.lemmas.Slice.Eq.{bytes_eq-Decides}
use Rattle.farm_tree.specs.declared.reads.TreeFile.{TreeFile}
use Rattle.farm_tree.specs.declared.entries.Entry.{Entry}
use Rattle.farm_tree.specs.Reading.{IsPath, path_limit}
use Rattle.farm_tree.proofs.Components.{below_is, rest_text, name_text, longer}
use Rattle.farm_tree.specs.Listing.{below, in_folder, entry_to, entries_below, same_entry, with_entry, IsListing}

-- entries with one name and kind are one
same_kind : (a b : Bool) → cond a b (not b) ≡ true → a ≡ b
same_kind true true e = refl
same_kind true false e = sym e
same_kind false true e = e
same_kind false false e = refl

kind_of_itself : (a : Bool) → cond a a (not a) ≡ true
kind_of_itself true = refl
kind_of_itself false = refl

pub same_is : (a b : Entry) → same_entry a b ≡ true → a ≡ b
same_is a b h =
    let parts = and_parts (cond a.folder b.folder (not b.folder)) (bytes_eq a.name b.name) h in
    let name : a.name ≡ b.name = (bytes_eq-Decides a.name b.name).0 parts.1 in
    let kind : a.folder ≡ b.folder = same_kind a.folder b.folder parts.0 in
    let on_name : ◌≡◌ {A = Entry} (record { name = a.name; folder = a.folder }) (record { name = b.name; folder = a.folder }) = ap (λ (n : List ℕ). record { name = n; folder = a.folder }) name in
    let on_kind : ◌≡◌ {A = Entry} (record { name = b.name; folder = a.folder }) (record { name = b.name; folder = b.folder }) = ap (λ (f : Bool). record { name = b.name; folder = f }) kind in
    on_name ∙ on_kind

pub same_itself : (a : Entry) → same_entry a a ≡ true
same_itself a = and_from _ _ (kind_of_itself a.folder) ((bytes_eq-Decides a.name a.name).1 refl)

-- an entry that is not among the others differs from each
apart : (entry : Entry) (entries : List Entry) → list_any (same_entry entry) entries ≡ false
    → (k : ℕ) (d : Entry) → k < length entries → get_or entries k d ≢ entry
apart entry entries none k d lt e =
    let itself : same_entry entry (get_or entries k d) ≡ true = subst (λ (a : Entry). same_entry entry a ≡ true) (sym e) (same_itself entry) in
    both_ways (list_any (same_entry entry) entries) none (list_any_at (same_entry entry) entries k d lt itself)

abbrev Lists : List Entry → List Entry → Type 0
Lists entries all = (entry : Entry) → Contains entries entry ↔ Contains all entry

-- what one more entry does to the entries
abbrev Grows : List Entry → List Entry → Entry → Type 0
Grows all entries entry = Lists (with_entry entry entries) (all ++ entry ∷ []) × AllPairs (λ a b. a ≢ b) (with_entry entry entries)

grows_by : (all entries : List Entry) (entry : Entry) → Lists entries all → AllPairs (λ a b. a ≢ b) entries
    → (t : Bool) → list_any (same_entry entry) entries ≡ t
    → Lists (cond t entries (entries ++ entry ∷ [])) (all ++ entry ∷ []) × AllPairs (λ a b. a ≢ b) (cond t entries (entries ++ entry ∷ []))
grows_by all entries entry same once true among = (
  (λ (x : Entry). (
    (λ (h : Contains entries x). Contains-append_left all (entry ∷ []) x ((same x).0 h)),
    (λ (h : Contains (all ++ entry ∷ []) x).
        ⊎_elim
        (λ (before : Contains all x). (same x).1 before)
        (λ (e : entry ≡ x). subst (λ (y : Entry). Contains entries y) e (Contains-from_any same_is entry entries among))
        (Contains-push_cases all entry x h)),
  )),
  once,
)
grows_by all entries entry same once false none = (
  (λ (x : Entry). (
    (λ (h : Contains (entries ++ entry ∷ []) x).
        ⊎_elim
        (λ (before : Contains entries x). Contains-append_left all (entry ∷ []) x ((same x).0 before))
        (λ (e : entry ≡ x). subst (λ (y : Entry). Contains (all ++ entry ∷ []) y) e (Contains-push all entry))
        (Contains-push_cases entries entry x h)),
    (λ (h : Contains (all ++ entry ∷ []) x).
        ⊎_elim
        (λ (before : Contains all x). Contains-append_left entries (entry ∷ []) x ((same x).1 before))
        (λ (e : entry ≡ x). subst (λ (y : Entry). Contains (entries ++ entry ∷ []) y) e (Contains-push entries entry))
        (Contains-push_cases all entry x h)),
  )),
  all_pairs_push (λ a b. a ≢ b) entries entry once (apart entry entries none),
)

-- ---- the loop over the files

pub listing_none : (folder : List ℕ) → IsListing folder [] []
listing_none folder = record {
  each = λ entry. ((λ h. h), (λ h. h));
  once = λ i j d less within. absurd (omega arith);
}

more_below : (folder : List ℕ) (files : List TreeFile) (i : ℕ) (d : TreeFile) (found : Option (List ℕ)) → i < length files
    → found ≡ below folder (get_or files i d).path
    → entries_below folder (take (i + 1) files)
    ≡ entries_below folder (take i files) ++ filter_map (λ (o : Option (List ℕ)). option_map entry_to o) (found ∷ [])
more_below folder files i d found lt e =
    ap (entries_below folder) (take_more files i d lt)
    ∙ filter_map-append (λ (file : TreeFile). option_map entry_to (below folder file.path)) (take i files) (get_or files i d ∷ [])
    ∙ ap (λ (o : Option (List ℕ)). entries_below folder (take i files) ++ filter_map (λ (p : Option (List ℕ)). option_map entry_to p) (o ∷ [])) (sym e)

pub listing_same : (folder : List ℕ) (files : List TreeFile) (i : ℕ) (d : TreeFile) (entries : List Entry) → i < length files
    → None ≡ below folder (get_or files i d).path → IsListing folder (take i files) entries → IsListing folder (take (i + 1) files) entries
listing_same folder files i d entries lt e listing =
    let is : entries_below folder (take (i + 1) files) ≡ entries_below folder (take i files) =
    more_below folder files i d None lt e ∙ append-nil (entries_below folder (take i files)) in
    record {
      each = subst (λ (all : List Entry). Lists entries all) (sym is) listing.each;
      once = listing.once;
    }

pub listing_more : (folder : List ℕ) (files : List TreeFile) (i : ℕ) (d : TreeFile) (entries : List Entry) (rest : List ℕ) → i < length files
    → Some rest ≡ below folder (get_or files i d).path → IsListing folder (take i files) entries
    → IsListing folder (take (i + 1) files) (with_entry (entry_to rest) entries)
listing_more folder files i d entries rest lt e listing =
    let is : entries_below folder (take (i + 1) files) ≡ entries_below folder (take i files) ++ entry_to rest ∷ [] =
    more_below folder files i d (Some rest) lt e in
    let grows = grows_by (entries_below folder (take i files)) entries (entry_to rest) listing.each listing.once
    (list_any (same_entry (entry_to rest)) entries) refl in
    record {
      each = subst (λ (all : List Entry). Lists (with_entry (entry_to rest) entries) all) (sym is) grows.0;
      once = grows.1;
    }

-- the names stay texts
pub texts_more : (entries : List Entry) (entry : Entry) → All (λ (e : Entry). IsUtf8 e.name) entries → IsUtf8 entry.name
    → All (λ (e : Entry). IsUtf8 e.name) (with_entry entry entries)
texts_more entries entry all one =
    ⊎_elim
    (λ (h : list_any (same_entry entry) entries ≡ true). subst (λ (t : Bool). All (λ (e : Entry). IsUtf8 e.name) (cond t entries (entries ++ entry ∷ []))) (sym h) all)
    (λ (h : list_any (same_entry entry) entries ≡ false). subst (λ (t : Bool). All (λ (e : Entry). IsUtf8 e.name) (cond t entries (entries ++ entry ∷ []))) (sym h) (All-push (λ (e : Entry). IsUtf8 e.name) entries entry all one))
    (cases_Bool (list_any (same_entry entry) entries))

abbrev AllTexts : List Entry → Type 0
AllTexts entries = All (λ (entry : Entry). IsUtf8 entry.name) entries

abbrev AllPaths : List TreeFile → Type 0
AllPaths files = All (λ (file : TreeFile). IsPath file.path) files

pub texts_below : (folder : List ℕ) (files : List TreeFile) (i : ℕ) (d : TreeFile) (entries : List Entry) (rest : List ℕ) → i < length files
    → Some rest ≡ below folder (get_or files i d).path → AllPaths files → AllTexts entries → AllTexts (with_entry (entry_to rest) entries)
texts_below folder files i d entries rest lt e paths all =
    let path : IsUtf8 (get_or files i d).path = (paths i d lt).utf8 in
    let text : IsUtf8 rest = rest_text folder rest (subst IsUtf8 (below_is folder (get_or files i d).path rest (sym e)) path) in
    texts_more entries (entry_to rest) all (name_text rest text)

-- ---- the whole listing

none_in : (entries all : List Entry) → length entries ≡ 0 → Lists entries all → all ≡ []
none_in entries [] none same = refl
none_in entries (entry ∷ all) none same =
    let h = (same entry).1 (0, omega arith, refl) in absurd (let lt : h.0 < length entries = h.1 in omega arith)

some_in : (entries all : List Entry) → 0 < length entries → Lists entries all → all ≡ [] → ⊥
some_in [] all some same e = absurd (omega arith)
some_in (entry ∷ entries) all some same e =
    let h = subst (λ (xs : List Entry). Contains xs entry) e ((same entry).0 (0, omega arith, refl)) in absurd (let lt : h.0 < 0 = h.1 in omega arith)

pub absent : (folder : List ℕ) (files : List TreeFile) (i : ℕ) (entries : List Entry) → length files ≤ i → length entries ≡ 0
    → IsListing folder (take i files) entries → entries_below folder files ≡ []
absent folder files i entries le none listing =
    none_in entries (entries_below folder files) none
    (subst (λ (held : List TreeFile). Lists entries (entries_below folder held)) (take_all i files le) listing.each)

pub listed : (folder : List ℕ) (files : List TreeFile) (i : ℕ) (entries : List Entry) → length files ≤ i → 0 < length entries
    → IsListing folder (take i files) entries → (entries_below folder files ≢ []) × IsListing folder files entries
listed folder files i entries le some listing =
    let whole = subst (λ (held : List TreeFile). IsListing folder held entries) (take_all i files le) listing in
    (some_in entries (entries_below folder files) some whole.each, whole)

-- where something is below a folder, its path is short
short_by : (folder : List ℕ) (file : TreeFile) (files : List TreeFile) → IsPath file.path
    → ((entries_below folder files ≡ [] → ⊥) → length folder ≤ path_limit)
    → (found : Option (List ℕ)) → below folder file.path ≡ found
    → (filter_map (λ (o : Option (List ℕ)). option_map entry_to o) (found ∷ []) ++ entries_below folder files ≡ [] → ⊥) → length folder ≤ path_limit
short_by folder file files path more None e some = more some
short_by folder file files path more (Some rest) e some =
    let is : length file.path ≡ length (in_folder folder rest) = ap length (below_is folder file.path rest e) in
    let short : length file.path ≤ path_limit = path.short in
    let far : length folder < length (in_folder folder rest) = longer folder rest in
    omega arith

some_as : (found : Option (List ℕ)) (folder : List ℕ) (files : List TreeFile)
    → (cons_option (option_map entry_to found) (entries_below folder files) ≡ [] → ⊥)
    → filter_map (λ (o : Option (List ℕ)). option_map entry_to o) (found ∷ []) ++ entries_below folder files ≡ [] → ⊥
some_as None folder files some = some
some_as (Some rest) folder files some = some

pub short_folder : (folder : List ℕ) (files : List TreeFile) → AllPaths files → (entries_below folder files ≡ [] → ⊥) → length folder ≤ path_limit
short_folder folder [] paths some = absurd (some refl)
short_folder folder (file ∷ files) paths some =
    short_by folder file files (paths 0 file (omega arith)) (short_folder folder files (All-tail (λ (f : TreeFile). IsPath f.path) file files paths))
    (below folder file.path) refl (some_as (below folder file.path) folder files some)
