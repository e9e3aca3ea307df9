-- Strings that are sorted, each kept once, are their texts in order.
use Rattle.std.proofs.Common.{ℕ, ◌≡◌, List, [], ◌∷◌, length, get_or, map, Bool, true, false, Contains, refl, sym, ap, ◌∙◌, subst, Ordering, Less, string_bytes, string_eq, string_cmp, IsPermutation, IsSorted, Any, nat_eq, ◌<◌, zero, suc, drop, take, find, cond, Option, Some, ◌+◌, ◌++◌, add-one, arith, filter_map, ◌||◌}
use Rattle.std.specs.Prelude.{String}
use Rattle.std.specs.Global.{Global}
use Rattle.std.specs.Ordering.{nat_cmp}
use Rattle.std.specs.Cmp.Lexicographic.{slice_cmp, pointwise, same_text, texts_ties, nat_list_cmp_total, nat_list_eq_equiv}
use Rattle.std.specs.List.{dedup, list_any, cons_option}
use Rattle.std.specs.List.Sorted.{IsStrictlySortedBy}
use Rattle.std.proofs.lemmas.Cmp.{on_total, on_equiv}
use Rattle.std.proofs.lemmas.List.Elements.{All-from_recursion, All-contains, filter_map-append}
use Rattle.std.proofs.lemmas.List.{map-append}
use Rattle.std.proofs.lemmas.List.Kept.{IsStrictlySortedBy-dedup, Any-dedup, Contains-from_dedup}
use Rattle.std.proofs.lemmas.List.Sorted.{Contains-permutation, IsPermutation-sym}
use Rattle.std.proofs.lemmas.Map.Keys.{sorted_head, sorted_tail}
use Rattle.package_folder.specs.Order.{compare_bytes, IsRising, in_order}
use Rattle.package_folder.specs.Paths.{texts}
use Rattle.package_folder.proofs.Members.{in_map, from_map}
use Rattle.package_folder.proofs.Ordered.{rising_none, rising_cons, in_order_is}

abbrev pub Str : Type 0
Str = String Global

abbrev by_bytes : Str → Str → Ordering
by_bytes x y = compare_bytes (string_bytes x) (string_bytes y)

abbrev same_bytes : Str → Str → Bool
same_bytes x y = pointwise nat_eq (string_bytes x) (string_bytes y)

rising_texts : (xs : List Str) → IsStrictlySortedBy by_bytes xs → IsRising (texts xs)
rising_texts [] sorted = rising_none
rising_texts (x ∷ xs) sorted =
    rising_cons (string_bytes x) (texts xs)
    (λ t h.
    let found = from_map (λ (s : Str). string_bytes s) t xs h in
    let less : by_bytes x found.0 ≡ Less = All-contains (λ (y : Str). by_bytes x y ≡ Less) xs found.0 (All-from_recursion (λ (y : Str). by_bytes x y ≡ Less) xs (sorted_head by_bytes x xs sorted)) found.1 in
    subst (λ u. compare_bytes (string_bytes x) u ≡ Less) found.2 less)
    (rising_texts xs (sorted_tail by_bytes x xs sorted))

pub put_in_order : (xs ys : List Str) → IsPermutation xs ys → IsSorted by_bytes ys → texts (dedup same_bytes ys) ≡ in_order (texts xs)
put_in_order xs ys moved sorted =
    in_order_is (texts (dedup same_bytes ys)) (texts xs)
    (rising_texts (dedup same_bytes ys)
    (IsStrictlySortedBy-dedup (on_total (λ (s : Str). string_bytes s) nat_list_cmp_total) (λ x y. texts_ties (string_bytes x) (string_bytes y)) ys sorted))
    (λ t. (
      (λ h.
          let found = from_map (λ (s : Str). string_bytes s) t (dedup same_bytes ys) h in
          let there = Contains-permutation ys xs found.0 (IsPermutation-sym xs ys moved) (Contains-from_dedup same_bytes ys found.0 found.1) in
          subst (λ u. Contains (texts xs) u) found.2 (in_map (λ (s : Str). string_bytes s) found.0 xs there)),
      (λ h.
          let found = from_map (λ (s : Str). string_bytes s) t xs h in
          let kept = Any-dedup (on_equiv (λ (s : Str). string_bytes s) nat_list_eq_equiv) ys found.0 (Contains-permutation xs ys found.0 moved found.1) in
          let same : string_bytes found.0 ≡ string_bytes kept.1 = same_text (string_bytes found.0) (string_bytes kept.1) (sym kept.4) in
          subst (λ u. Contains (texts (dedup same_bytes ys)) u) (sym same ∙ found.2)
          (in_map (λ (s : Str). string_bytes s) kept.1 (dedup same_bytes ys) (kept.0, kept.2, kept.3))),
    ))

-- ---- strings one after another

pub drop_text : (items : List Str) (i : ℕ) (item : Str) → i < length items → item ≡ get_or items i item
    → drop i (texts items) ≡ string_bytes item ∷ drop (suc i) (texts items)
drop_text [] i item lt e = absurd (omega arith)
drop_text (x ∷ xs) zero item lt e = ap (λ (s : Str). string_bytes s ∷ texts xs) (sym e)
drop_text (x ∷ xs) (suc i) item lt e = drop_text xs i item (omega arith) e

pub text_among : (items : List Str) (i : ℕ) (item : Str) → i < length items → item ≡ get_or items i item → Contains (texts items) (string_bytes item)
text_among items i item lt e = in_map (λ (s : Str). string_bytes s) item items (i, lt, sym e)

pub find_step : (p : List ℕ → Bool) (items : List Str) (i : ℕ) (item : Str) (b : Bool) → i < length items → item ≡ get_or items i item
    → p (string_bytes item) ≡ b → find p (drop i (texts items)) ≡ cond b (Some (string_bytes item)) (find p (drop (i + 1) (texts items)))
find_step p items i item b lt e is =
    rw add-one (ap (find p) (drop_text items i item lt e) ∙ ap (λ t. cond t (Some (string_bytes item)) (find p (drop (suc i) (texts items)))) is)

pub take_text : (items : List Str) (i : ℕ) (item : Str) → i < length items → item ≡ get_or items i item
    → take (suc i) (texts items) ≡ take i (texts items) ++ string_bytes item ∷ []
take_text [] i item lt e = absurd (omega arith)
take_text (x ∷ xs) zero item lt e = ap (λ (s : Str). string_bytes s ∷ []) (sym e)
take_text (x ∷ xs) (suc i) item lt e = ap (λ ts. string_bytes x ∷ ts) (take_text xs i item (omega arith) e)

pub length_texts : (items : List Str) → length (texts items) ≡ length items
length_texts [] = refl
length_texts (x ∷ xs) = ap suc (length_texts xs)

pub any_texts : (p : List ℕ → Bool) (items : List Str) → list_any p (texts items) ≡ list_any (λ (s : Str). p (string_bytes s)) items
any_texts p [] = refl
any_texts p (x ∷ xs) = ap (λ t. p (string_bytes x) || t) (any_texts p xs)

pub filter_map_step : (f : List ℕ → Option (List ℕ)) (items : List Str) (i : ℕ) (item : Str) (o : Option (List ℕ)) → i < length items
    → item ≡ get_or items i item → f (string_bytes item) ≡ o
    → filter_map f (take (i + 1) (texts items)) ≡ filter_map f (take i (texts items)) ++ cons_option o []
filter_map_step f items i item o lt e is =
    rw add-one
    (ap (filter_map f) (take_text items i item lt e)
    ∙ filter_map-append f (take i (texts items)) (string_bytes item ∷ [])
    ∙ ap (λ (q : Option (List ℕ)). filter_map f (take i (texts items)) ++ cons_option q []) is)

pub map_step : {Y : Type 0} (f : List ℕ → Y) (items : List Str) (i : ℕ) (item : Str) → i < length items → item ≡ get_or items i item
    → map f (take (i + 1) (texts items)) ≡ map f (take i (texts items)) ++ f (string_bytes item) ∷ []
map_step f items i item lt e = rw add-one (ap (map f) (take_text items i item lt e) ∙ map-append f (take i (texts items)) (string_bytes item ∷ []))
