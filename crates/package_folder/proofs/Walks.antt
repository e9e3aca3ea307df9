-- A walk finds the files below a folder.
use Rattle.std.proofs.Common.{ℕ, ◌≡◌, ◌+◌, ◌-◌, ◌<◌, ◌≤◌, List, [], ◌∷◌, ◌++◌, length, get_or, drop, map, filter, filter_map, not, min, Bool, true, false, All, Contains, Option, Some, None, option_map, is_some, refl, sym, ap, ◌∙◌, subst, arith, ◌⊎◌, ◌↔◌, inl, inr, append_assoc, append-nil, eqb-true, suc}
use Rattle.std.specs.List.{before_first, after_first, list_any, position_or_len}
use Rattle.std.proofs.lemmas.Bool.{cases_lt, both_ways, cases_Bool}
use Rattle.std.proofs.lemmas.List.Elements.{Contains-append_left, Contains-append_right, Contains-append_cases, All-contains}
use Rattle.std.proofs.lemmas.List.Folds.{list_any_at, list_any_none}
use Rattle.std.proofs.lemmas.List.Sums.{split_at_first, passes_at_first, fails_before_first}
use Rattle.farm_tree.specs.declared.reads.TreeFile.{TreeFile}
use Rattle.farm_tree.specs.declared.entries.Entry.{Entry}
use Rattle.farm_tree.specs.Reading.{path_limit}
use Rattle.farm_tree.specs.Listing.{in_folder, below, is_slash, entry_to, entries_below, IsListing}
use Rattle.farm_tree.proofs.Components.{below_is, below_in, longer, whole_name}
use Rattle.package_folder.specs.Order.{in_order}
use Rattle.package_folder.specs.Names.{is_below, paths_below}
use Rattle.package_folder.specs.Walk.{LiesBelow, HasFile, files_among, folders_among, Reaches, Visits, Deepens, DeepensBy}
use Rattle.package_folder.proofs.Members.{first_in, later_in, first_or_later, none_in, all_of, in_map, from_map, in_filter, from_filter, in_filter_map, from_filter_map}
use Rattle.package_folder.proofs.Ordered.{Same, same_order}

abbrev Path : Type 0
Path = List ℕ

below_inner : (folder inner path : Path) → LiesBelow folder inner → LiesBelow inner path → LiesBelow folder path
below_inner folder inner path a b =
    (in_folder a.0 b.0, b.1 ∙ ap (λ p. in_folder p b.0) a.1 ∙ append_assoc folder (47 ∷ a.0) (47 ∷ b.0))

below_or_same : (folder inner path : Path) → (inner ≡ folder) ⊎ LiesBelow folder inner → LiesBelow inner path → LiesBelow folder path
below_or_same folder inner path a b =
    elim a [ inl same ↦ subst (λ p. LiesBelow p path) same b | inr lies ↦ below_inner folder inner path lies b ]

-- ---- the entries of a folder, and the files below it

entry_for : (folder rest : Path) (files : List TreeFile) → HasFile files (in_folder folder rest) → Contains (entries_below folder files) (entry_to rest)
entry_for folder rest files has =
    let file = from_map (λ (f : TreeFile). f.path) (in_folder folder rest) files has in
    in_filter_map (λ (f : TreeFile). option_map entry_to (below folder f.path)) file.0 (entry_to rest) files file.1
    (ap (option_map entry_to) (ap (below folder) file.2 ∙ below_in folder rest))

mapped : (found : Option Path) (entry : Entry) → option_map entry_to found ≡ Some entry → (rest : Path) × (found ≡ Some rest) × (entry_to rest ≡ entry)
mapped None entry e = absurd (let f : None ≡ Some entry = e in cc)
mapped (Some rest) entry e = (rest, refl, let f : Some (entry_to rest) ≡ Some entry = e in cc)

file_for : (folder : Path) (entry : Entry) (files : List TreeFile) → Contains (entries_below folder files) entry
    → (rest : Path) × HasFile files (in_folder folder rest) × (entry_to rest ≡ entry)
file_for folder entry files h =
    let found = from_filter_map (λ (f : TreeFile). option_map entry_to (below folder f.path)) entry files h in
    let part = mapped (below folder found.0.path) entry found.2 in
    (part.0, subst (HasFile files) (below_is folder found.0.path part.0 part.1) (in_map (λ (f : TreeFile). f.path) found.0 files found.1), part.2)

no_slash : (rest : Path) → list_any is_slash rest ≡ false → rest ≡ before_first is_slash rest
no_slash rest none =
    elim (cases_lt (position_or_len is_slash rest) (length rest)) [
      | inl lt ↦ absurd (both_ways (list_any is_slash rest) none (list_any_at is_slash rest (position_or_len is_slash rest) 0 lt (passes_at_first is_slash rest 0 lt)))
      | inr le ↦ (whole_name rest le).0
    ]

slash_is : (b : ℕ) → is_slash b ≡ true → b ≡ 47
slash_is b e = eqb-true b 47 e

at_slash : (rest : Path) → position_or_len is_slash rest < length rest → rest ≡ in_folder (before_first is_slash rest) (after_first is_slash rest)
at_slash rest lt =
    let slash : get_or rest (position_or_len is_slash rest) 0 ≡ 47 = slash_is _ (passes_at_first is_slash rest 0 lt) in
    split_at_first is_slash rest 0 lt ∙ ap (λ b. before_first is_slash rest ++ b ∷ after_first is_slash rest) slash

with_slash : (rest : Path) → list_any is_slash rest ≡ true → rest ≡ in_folder (before_first is_slash rest) (after_first is_slash rest)
with_slash rest some =
    elim (cases_lt (position_or_len is_slash rest) (length rest)) [
      | inl lt ↦ at_slash rest lt
      | inr le ↦ absurd (both_ways (list_any is_slash rest) (sym (whole_name rest le).1) some)
    ]

-- ---- one folder is listed

in_files : (folder : Path) (entry : Entry) (entries : List Entry) → Contains entries entry → entry.folder ≡ false
    → Contains (files_among folder entries) (in_folder folder entry.name)
in_files folder entry entries h e =
    in_map (λ (x : Entry). in_folder folder x.name) entry (filter (λ (x : Entry). not x.folder) entries)
    (in_filter (λ (x : Entry). not x.folder) entry entries h (ap not e))

in_folders : (folder : Path) (entry : Entry) (entries : List Entry) → Contains entries entry → entry.folder ≡ true
    → Contains (folders_among folder entries) (in_folder folder entry.name)
in_folders folder entry entries h e =
    in_map (λ (x : Entry). in_folder folder x.name) entry (filter (λ (x : Entry). x.folder) entries)
    (in_filter (λ (x : Entry). x.folder) entry entries h e)

not_folder : (b : Bool) → not b ≡ true → b ≡ false
not_folder true e = sym e
not_folder false e = refl

file_found : (folder path : Path) (files : List TreeFile) (entries : List Entry) → IsListing folder files entries
    → Contains (files_among folder entries) path → HasFile files path × LiesBelow folder path
file_found folder path files entries listing h =
    let named = from_map (λ (x : Entry). in_folder folder x.name) path (filter (λ (x : Entry). not x.folder) entries) h in
    let passed = from_filter (λ (x : Entry). not x.folder) named.0 entries named.1 in
    let file = file_for folder named.0 files ((listing.each named.0).0 passed.0) in
    let plain : list_any is_slash file.0 ≡ false = ap (λ (x : Entry). x.folder) file.2 ∙ not_folder named.0.folder passed.1 in
    let name : file.0 ≡ named.0.name = no_slash file.0 plain ∙ ap (λ (x : Entry). x.name) file.2 in
    let is : in_folder folder file.0 ≡ path = ap (in_folder folder) name ∙ named.2 in
    (subst (HasFile files) is file.1, (file.0, sym is))

folder_found : (folder path : Path) (entries : List Entry) → Contains (folders_among folder entries) path → LiesBelow folder path
folder_found folder path entries h =
    let named = from_map (λ (x : Entry). in_folder folder x.name) path (filter (λ (x : Entry). x.folder) entries) h in
    (named.0.name, sym named.2)

covered : (folder path : Path) (files : List TreeFile) (entries : List Entry) (rest : Path) → IsListing folder files entries
    → Contains entries (entry_to rest) → path ≡ in_folder folder rest → (b : Bool) → list_any is_slash rest ≡ b
    → Contains (files_among folder entries) path ⊎ ((inner : Path) × Contains (folders_among folder entries) inner × LiesBelow inner path)
covered folder path files entries rest listing h e true some =
    let split : rest ≡ in_folder (before_first is_slash rest) (after_first is_slash rest) = with_slash rest some in
    let far : path ≡ in_folder (in_folder folder (before_first is_slash rest)) (after_first is_slash rest) =
    e ∙ ap (in_folder folder) split ∙ sym (append_assoc folder (47 ∷ before_first is_slash rest) (47 ∷ after_first is_slash rest)) in
    inr (in_folder folder (before_first is_slash rest), in_folders folder (entry_to rest) entries h some, (after_first is_slash rest, far))
covered folder path files entries rest listing h e false none =
    let is : in_folder folder (before_first is_slash rest) ≡ path = ap (in_folder folder) (sym (no_slash rest none)) ∙ sym e in
    inl (subst (Contains (files_among folder entries)) is (in_files folder (entry_to rest) entries h none))

pub visits : (files : List TreeFile) (folder : Path) (entries : List Entry) (found folders : List Path) → IsListing folder files entries
    → Visits files folder found (found ++ files_among folder entries) folders (folders ++ folders_among folder entries)
visits files folder entries found folders listing = record {
  found_before = λ path h. Contains-append_left found (files_among folder entries) path h;
  found_there = λ path h. elim (Contains-append_cases found (files_among folder entries) path h) [
    | inl old ↦ inl old
    | inr new ↦ inr (file_found folder path files entries listing new)
  ];
  folders_before = λ path h. Contains-append_left folders (folders_among folder entries) path h;
  folders_there = λ path h. elim (Contains-append_cases folders (folders_among folder entries) path h) [
    | inl old ↦ inl old
    | inr new ↦ inr (folder_found folder path entries new)
  ];
  covers = λ path has lies.
      let held = (listing.each (entry_to lies.0)).1 (entry_for folder lies.0 files (subst (HasFile files) lies.1 has)) in
      elim (covered folder path files entries lies.0 listing held lies.1 (list_any is_slash lies.0) refl) [
        | inl file ↦ inl (Contains-append_right found (files_among folder entries) path file)
        | inr inner ↦ inr (inner.0, Contains-append_right folders (folders_among folder entries) inner.0 inner.1, inner.2)
      ];
}

-- a folder that is absent holds nothing
pub visits_nothing : (files : List TreeFile) (folder : Path) (found folders : List Path) → entries_below folder files ≡ []
    → Visits files folder found found folders folders
visits_nothing files folder found folders none = record {
  found_before = λ path h. h;
  found_there = λ path h. inl h;
  folders_before = λ path h. h;
  folders_there = λ path h. inl h;
  covers = λ path has lies.
      absurd (none_in (entry_to lies.0) (subst (λ (es : List Entry). Contains es (entry_to lies.0)) none (entry_for folder lies.0 files (subst (HasFile files) lies.1 has))));
}

-- ---- the folders that are still to be listed

pub reaches_start : (files : List TreeFile) (root : Path) → Reaches files root [] (root ∷ [])
reaches_start files root = record {
  sound = λ path h. absurd (none_in path h);
  within = λ path h. elim (first_or_later root path [] h) [ inl same ↦ inl (sym same) | inr later ↦ absurd (none_in path later) ];
  covers = λ path has lies. inr (root, first_in root [], lies);
}

pub reaches_step : (files : List TreeFile) (root w : Path) (found found' rest inner inner' : List Path) → Reaches files root found (w ∷ (rest ++ inner))
    → Visits files w found found' inner inner' → Reaches files root found' (rest ++ inner')
reaches_step files root w found found' rest inner inner' before visit =
    let here = before.within w (first_in w (rest ++ inner)) in
    record {
      sound = λ path h. elim (visit.found_there path h) [
        | inl old ↦ before.sound path old
        | inr new ↦ (new.0, below_or_same root w path here new.1)
      ];
      within = λ path h. elim (Contains-append_cases rest inner' path h) [
        | inl old ↦ before.within path (later_in w path (rest ++ inner) (Contains-append_left rest inner path old))
        | inr new ↦ elim (visit.folders_there path new) [
          | inl old ↦ before.within path (later_in w path (rest ++ inner) (Contains-append_right rest inner path old))
          | inr lies ↦ inr (below_or_same root w path here lies)
        ]
      ];
      covers = λ path has lies. elim (before.covers path has lies) [
        | inl old ↦ inl (visit.found_before path old)
        | inr there ↦ elim (first_or_later w there.0 (rest ++ inner) there.1) [
          | inl same ↦ elim (visit.covers path has (subst (λ p. LiesBelow p path) (sym same) there.2)) [
            | inl new ↦ inl new
            | inr deep ↦ inr (deep.0, Contains-append_right rest inner' deep.0 deep.1, deep.2)
          ]
          | inr later ↦ elim (Contains-append_cases rest inner there.0 later) [
            | inl old ↦ inr (there.0, Contains-append_left rest inner' there.0 old, there.2)
            | inr old ↦ inr (there.0, Contains-append_right rest inner' there.0 (visit.folders_before there.0 old), there.2)
          ]
        ]
      ];
    }

some_is : (o : Option Path) → is_some o ≡ true → (rest : Path) × (o ≡ Some rest)
some_is None e = absurd (let f : false ≡ true = e in cc)
some_is (Some rest) e = (rest, refl)

pub reaches_all : (files : List TreeFile) (root : Path) (found : List Path) → Reaches files root found [] → in_order found ≡ paths_below root files
reaches_all files root found end =
    same_order found (filter (is_below root) (map (λ (f : TreeFile). f.path) files)) (λ path. (
      (λ h.
          let both = end.sound path h in
          let is : is_below root path ≡ true = ap is_some (ap (below root) both.1.1 ∙ below_in root both.1.0) in
          in_filter (is_below root) path (map (λ (f : TreeFile). f.path) files) both.0 is),
      (λ h.
          let both = from_filter (is_below root) path (map (λ (f : TreeFile). f.path) files) h in
          let rest = some_is (below root path) both.1 in
          elim (end.covers path both.0 (rest.0, below_is root path rest.0 rest.1)) [
            | inl there ↦ there
            | inr there ↦ absurd (none_in there.0 there.1)
          ]),
    ))

-- ---- the walk comes to an end

pub deepens_start : (folders : List Path) → Deepens folders []
deepens_start folders = λ n all. inl refl

more_long : (n : ℕ) (w : Path) (inner more : List Path) → n ≤ length w → (inner ≡ []) ⊎ ((n ≤ path_limit) × All (λ p. n + 1 ≤ length p) inner)
    → All (λ p. length w + 1 ≤ length p) more → All (λ p. n + 1 ≤ length p) (inner ++ more)
more_long n w inner more le old new =
    all_of (λ p. n + 1 ≤ length p) (inner ++ more) (λ p h. elim (Contains-append_cases inner more p h) [
      | inl there ↦ elim old [
        | inl none ↦ absurd (none_in p (subst (λ (ps : List Path). Contains ps p) none there))
        | inr some ↦ All-contains (λ q. n + 1 ≤ length q) inner p some.1 there
      ]
      | inr there ↦ let far : length w + 1 ≤ length p = All-contains (λ q. length w + 1 ≤ length q) more p new there in omega arith
    ])

pub deepens_step : (folders : List Path) (w : Path) (inner inner' : List Path) → Contains folders w → Deepens folders inner → DeepensBy w inner inner' → Deepens folders inner'
deepens_step folders w inner inner' there before by = λ n all.
    let le : n ≤ length w = All-contains (λ p. n ≤ length p) folders w all there in
    elim by.2 [
      | inl none ↦
          let same : inner' ≡ inner = by.1 ∙ ap (λ (ps : List Path). inner ++ ps) none ∙ append-nil inner in
          subst (λ (ps : List Path). (ps ≡ []) ⊎ ((n ≤ path_limit) × All (λ p. n + 1 ≤ length p) ps)) (sym same) (before n all)
      | inr some ↦
          let short : length w ≤ path_limit = some.0 in
          inr (omega arith, subst (λ (ps : List Path). All (λ p. n + 1 ≤ length p) ps) (sym by.1) (more_long n w inner by.0 le (before n all) some.1))
    ]

pub deepens_listed : (w : Path) (entries : List Entry) (inner : List Path) → length w ≤ path_limit → DeepensBy w inner (inner ++ folders_among w entries)
deepens_listed w entries inner short = (
  folders_among w entries,
  refl,
  inr (
    short,
    all_of (λ p. length w + 1 ≤ length p) (folders_among w entries) (λ p h.
        let lies = folder_found w p entries h in
        let far : length w < length (in_folder w lies.0) = longer w lies.0 in
        let is : length p ≡ length (in_folder w lies.0) = ap length lies.1 in
        omega arith),
  ),
)

pub deepens_nothing : (w : Path) (inner : List Path) → DeepensBy w inner inner
deepens_nothing w inner = ([], sym (append-nil inner), inl refl)

-- how much deeper folders can lie than these
abbrev pub shortest : List Path → ℕ
shortest [] = path_limit + 1
shortest (p ∷ ps) = min (length p) (shortest ps)

abbrev pub depth_left : List Path → ℕ
depth_left [] = 0
depth_left (p ∷ ps) = 1 + (path_limit + 1 - shortest (p ∷ ps))

all_shortest : (ps : List Path) → All (λ p. shortest ps ≤ length p) ps
all_shortest [] = λ k d lt. absurd (omega arith)
all_shortest (p ∷ ps) = all_of (λ q. shortest (p ∷ ps) ≤ length q) (p ∷ ps) (λ q h. elim (first_or_later p q ps h) [
  | inl same ↦ let e : length p ≡ length q = ap length same in omega arith
  | inr later ↦ let le : shortest ps ≤ length q = All-contains (λ r. shortest ps ≤ length r) ps q (all_shortest ps) later in omega arith
])

long_shortest : (n : ℕ) (ps : List Path) → n ≤ path_limit + 1 → All (λ p. n ≤ length p) ps → n ≤ shortest ps
long_shortest n [] le all = le
long_shortest n (p ∷ ps) le all =
    let first : n ≤ length p = all 0 p (omega arith) in
    let rest : n ≤ shortest ps = long_shortest n ps le (λ k d lt. all (suc k) d (omega arith)) in
    omega arith

left_by : (p : Path) (ps inner : List Path) → (inner ≡ []) ⊎ ((shortest (p ∷ ps) ≤ path_limit) × All (λ q. shortest (p ∷ ps) + 1 ≤ length q) inner)
    → depth_left inner < depth_left (p ∷ ps)
left_by p ps [] h = omega arith
left_by p ps (q ∷ qs) h =
    elim h [
      | inl none ↦ absurd (let f : q ∷ qs ≡ [] = none in cc)
      | inr some ↦
          let low : shortest (p ∷ ps) ≤ path_limit = some.0 in
          let far : shortest (p ∷ ps) + 1 ≤ shortest (q ∷ qs) = long_shortest (shortest (p ∷ ps) + 1) (q ∷ qs) (omega arith) some.1 in
          omega arith
    ]

pub falls : (folders inner : List Path) → 0 < length folders → Deepens folders inner → depth_left inner < depth_left folders
falls [] inner some deep = absurd (omega arith)
falls (p ∷ ps) inner some deep = left_by p ps inner (deep (shortest (p ∷ ps)) (all_shortest (p ∷ ps)))
