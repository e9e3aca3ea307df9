-- The entries of a folder, each once, whatever their order.
use Rattle.std.proofs.Common.{ℕ, zero, suc, ◌≡◌, ◌≢◌, ◌+◌, ◌<◌, ◌≤◌, List, [], ◌∷◌, length, get_or, Bool, true, false, cond, Result, Ok, Err, Contains, refl, sym, ap, ◌∙◌, subst, arith, ◌⊎◌, ◌↔◌, inl, inr}
use Rattle.std.specs.Cmp.{IsEquivalence}
use Rattle.std.specs.List.{list_any, IsDistinct}
use Rattle.std.proofs.lemmas.Bool.{both_ways, false_from_ne_true, true_from_ne_false}
use Rattle.std.proofs.lemmas.List.Elements.{recursion_from_All}
use Rattle.std.proofs.lemmas.List.Folds.{list_any_at}
use Rattle.std.proofs.lemmas.Map.Keys.{IsDistinct-cons, IsDistinct-from_apart}
use Rattle.std.proofs.lemmas.Map.Made.{length-le_from_is_member}
use Rattle.std.proofs.lemmas.Map.Views.{Contains-from_any}
use Rattle.farm_tree.specs.declared.reads.TreeFile.{TreeFile}
use Rattle.farm_tree.specs.declared.entries.Entry.{Entry}
use Rattle.farm_tree.specs.Listing.{same_entry, entries_below, IsListing}
use Rattle.farm_tree.proofs.Listings.{same_is, same_itself}
use Rattle.package_folder.specs.declared.package.Checker.{Checker}
use Rattle.package_folder.specs.declared.package.PackageFault.{PackageFault}
use Rattle.package_folder.specs.declared.package.PackageFault.TheVariants as fault
use Rattle.package_folder.specs.Reading.{distinct, only_validator, validator_at}
use Rattle.package_folder.proofs.Members.{first_in, later_in, first_or_later, none_in, all_of}

either_way : (s t : Bool) → (s ≡ true → t ≡ true) → (t ≡ true → s ≡ true) → s ≡ t
either_way true t f g = sym (f refl)
either_way false true f g = g refl
either_way false false f g = refl

turned : (x y : Entry) → same_entry x y ≡ true → same_entry y x ≡ true
turned x y h = subst (λ (z : Entry). same_entry z x ≡ true) (same_is x y h) (same_itself x)

laws : IsEquivalence same_entry
laws = record {
  refl = same_itself;
  symm = λ x y. either_way (same_entry x y) (same_entry y x) (turned x y) (turned y x);
  congr = λ x y z h. ap (λ (w : Entry). same_entry w z) (same_is x y h);
}

among : (entry : Entry) (entries : List Entry) → Contains entries entry → list_any (same_entry entry) entries ≡ true
among entry entries h =
    list_any_at (same_entry entry) entries h.0 entry h.1 (subst (λ (x : Entry). same_entry entry x ≡ true) (sym h.2) (same_itself entry))

distinct_only : (all : List Entry) (x : Entry) → Contains (distinct all) x → Contains all x
distinct_only [] x h = h
distinct_only (e ∷ es) x h =
    elim (list_any (same_entry e) es) as (λ t. Contains (cond t (distinct es) (e ∷ distinct es)) x → Contains (e ∷ es) x) [
      | true ↦ λ g. later_in e x es (distinct_only es x g)
      | false ↦ λ g. elim (first_or_later e x (distinct es) g) [
        | inl same ↦ subst (λ (y : Entry). Contains (e ∷ es) y) same (first_in e es)
        | inr later ↦ later_in e x es (distinct_only es x later)
      ]
    ] h

distinct_has : (all : List Entry) (x : Entry) → Contains all x → Contains (distinct all) x
distinct_has [] x h = h
distinct_has (e ∷ es) x h =
    elim (list_any (same_entry e) es) as (λ t. list_any (same_entry e) es ≡ t → Contains (cond t (distinct es) (e ∷ distinct es)) x) [
      | true ↦ λ t. elim (first_or_later e x es h) [
        | inl same ↦ distinct_has es x (subst (λ (y : Entry). Contains es y) same (Contains-from_any same_is e es t))
        | inr later ↦ distinct_has es x later
      ]
      | false ↦ λ t. elim (first_or_later e x es h) [
        | inl same ↦ subst (λ (y : Entry). Contains (e ∷ distinct es) y) same (first_in e (distinct es))
        | inr later ↦ later_in e x (distinct es) (distinct_has es x later)
      ]
    ] refl

apart_from : (e : Entry) (es : List Entry) → list_any (same_entry e) es ≡ false → (y : Entry) → Contains es y → same_entry e y ≡ false
apart_from e es none y h =
    false_from_ne_true (same_entry e y) (λ t.
    both_ways (list_any (same_entry e) es) none (list_any_at (same_entry e) es h.0 y h.1 (subst (λ (x : Entry). same_entry e x ≡ true) (sym h.2) t)))

distinct_once : (all : List Entry) → IsDistinct same_entry (distinct all)
unfolding IsDistinct
distinct_once [] = tt
distinct_once (e ∷ es) =
    elim (list_any (same_entry e) es) as (λ t. list_any (same_entry e) es ≡ t → IsDistinct same_entry (cond t (distinct es) (e ∷ distinct es))) [
      | true ↦ λ t. distinct_once es
      | false ↦ λ t.
          IsDistinct-cons same_entry e (distinct es)
          (recursion_from_All (λ (y : Entry). same_entry e y ≡ false) (distinct es)
          (all_of (λ (y : Entry). same_entry e y ≡ false) (distinct es) (λ y h. apart_from e es t y (distinct_only es y h))))
          (distinct_once es)
    ] refl

member : (xs ys : List Entry) → ((x : Entry) → Contains xs x → Contains ys x) → (q : Entry)
    → list_any (same_entry q) xs ≡ true → list_any (same_entry q) ys ≡ true
member xs ys within q h = among q ys (within q (Contains-from_any same_is q xs h))

counted_once : (folder : List ℕ) (files : List TreeFile) (entries : List Entry) → IsListing folder files entries
    → length (distinct (entries_below folder files)) ≡ length entries
counted_once folder files entries listing =
    let all = entries_below folder files in
    let once : IsDistinct same_entry entries = IsDistinct-from_apart same_entry entries
    (λ i j d less within. false_from_ne_true (same_entry (get_or entries i d) (get_or entries j d)) (λ t. listing.once i j d less within (same_is _ _ t))) in
    let down : length entries ≤ length (distinct all) =
    length-le_from_is_member laws entries (distinct all) once (member entries (distinct all) (λ x h. distinct_has all x ((listing.each x).0 h))) in
    let up : length (distinct all) ≤ length entries =
    length-le_from_is_member laws (distinct all) entries (distinct_once all) (member (distinct all) entries (λ x h. (listing.each x).1 (distinct_only all x h))) in
    omega arith

only_none : (files : List TreeFile) (path flags : List ℕ) (ds : List Entry) → length ds ≡ 0 → only_validator files path flags ds ≡ Err fault.NoValidator
only_none files path flags [] e = refl
only_none files path flags (d ∷ ds) e = absurd (omega arith)

only_one : (files : List TreeFile) (path flags : List ℕ) (ds : List Entry) (entry : Entry) → length ds ≡ 1 → Contains ds entry
    → only_validator files path flags ds ≡ validator_at files path flags entry
only_one files path flags [] entry e h = absurd (omega arith)
only_one files path flags (d ∷ []) entry e h =
    elim (first_or_later d entry [] h) [ inl same ↦ ap (validator_at files path flags) same | inr later ↦ absurd (none_in entry later) ]
only_one files path flags (d ∷ other ∷ ds) entry e h = absurd (omega arith)

only_many : (files : List TreeFile) (path flags : List ℕ) (ds : List Entry) (n : ℕ) → length ds ≡ n → 2 ≤ n
    → only_validator files path flags ds ≡ Err (fault.ManyValidators n)
only_many files path flags [] n e le = absurd (omega arith)
only_many files path flags (d ∷ []) n e le = absurd (omega arith)
only_many files path flags (d ∷ other ∷ ds) n e le = ap (λ m. Err (fault.ManyValidators m)) e

-- ---- what the listing says

pub listed_none : (files : List TreeFile) (path flags folder : List ℕ) (entries : List Entry) → IsListing folder files entries → length entries ≡ 0
    → only_validator files path flags (distinct (entries_below folder files)) ≡ Err fault.NoValidator
listed_none files path flags folder entries listing e = only_none files path flags (distinct (entries_below folder files)) (counted_once folder files entries listing ∙ e)

pub listed_one : (files : List TreeFile) (path flags folder : List ℕ) (entries : List Entry) (entry : Entry) → IsListing folder files entries
    → length entries ≡ 1 → Contains entries entry
    → only_validator files path flags (distinct (entries_below folder files)) ≡ validator_at files path flags entry
listed_one files path flags folder entries entry listing e h =
    only_one files path flags (distinct (entries_below folder files)) entry (counted_once folder files entries listing ∙ e)
    (distinct_has (entries_below folder files) entry ((listing.each entry).0 h))

pub listed_many : (files : List TreeFile) (path flags folder : List ℕ) (entries : List Entry) → IsListing folder files entries → 2 ≤ length entries
    → only_validator files path flags (distinct (entries_below folder files)) ≡ Err (fault.ManyValidators (length entries))
listed_many files path flags folder entries listing le =
    only_many files path flags (distinct (entries_below folder files)) (length entries) (counted_once folder files entries listing) le

pub listed_nothing : (files : List TreeFile) (path flags folder : List ℕ) → entries_below folder files ≡ []
    → only_validator files path flags (distinct (entries_below folder files)) ≡ Err fault.NoValidator
listed_nothing files path flags folder none = ap (λ (es : List Entry). only_validator files path flags (distinct es)) none
