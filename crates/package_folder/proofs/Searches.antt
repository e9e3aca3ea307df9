-- A search by halves among things whose texts rise.
use Rattle.std.proofs.Common.{ℕ, zero, suc, ◌≡◌, ◌≤◌, ◌<◌, List, [], ◌∷◌, length, get_or, map, Bool, true, false, cond, find, Contains, refl, sym, ap, ◌∙◌, subst, arith, Option, Some, None, Result, Ok, Err, Ordering, Less, Equal, Greater, is_some, is_eq, bytes_eq, ◌||◌, ◌≢◌, ⊎_elim, MatchResult}
use Rattle.std.proofs.lemmas.Bool.{cases_lt}
use Rattle.std.proofs.lemmas.List.Elements.{Contains-get_or}
use Rattle.std.proofs.lemmas.List.{get_or_default}
use Rattle.std.specs.Ordering.{nat_cmp, ordering_index}
use Rattle.std.specs.Cmp.Lexicographic.{pointwise, same_text, texts_ties, nat_list_cmp_total}
use Rattle.std.specs.List.{list_any, HoldsAt}
use Rattle.std.specs.List.Sorted.{IsSearchInRange, IsBinarySearchResult, IsNonDecreasingBy}
use Rattle.std.proofs.lemmas.Cmp.{tied_itself}
use Rattle.std.proofs.lemmas.Map.Keys.{sorted_tail}
use Rattle.package_folder.specs.Order.{compare_bytes, IsRising}
use Rattle.package_folder.proofs.Members.{in_map}
use Rattle.package_folder.proofs.Ordered.{Text, head_below, equal_texts}

-- ---- what the comparison says of equal texts

is_equal : (x y : Text) → compare_bytes x y ≡ Equal → bytes_eq y x ≡ true
is_equal x y e = let same : x ≡ y = equal_texts x y e in subst (λ z. bytes_eq z x ≡ true) same (texts_ties x x ∙ ap (λ (o : Ordering). is_eq o) (tied_itself nat_list_cmp_total x))

is_apart : (x y : Text) → compare_bytes x y ≢ Equal → bytes_eq y x ≡ false
is_apart x y e = elim (bytes_eq y x) as (λ b. bytes_eq y x ≡ b → b ≡ false) [
  | true ↦ λ h. absurd (e (subst (λ z. compare_bytes z y ≡ Equal) (same_text y x (sym h)) (tied_itself nat_list_cmp_total y)))
  | false ↦ λ h. refl
] refl

-- ---- comparisons with one text rise along texts that rise

rises_by : (x y t : Text) (o : Ordering) → compare_bytes y t ≡ o → compare_bytes x y ≡ Less → ordering_index (compare_bytes x t) ≤ ordering_index o
rises_by x y t Less e less = let a : compare_bytes x t ≡ Less = nat_list_cmp_total.trans x y t less e in omega (arith, ap ordering_index a)
rises_by x y t Equal e less =
    let a : compare_bytes x t ≡ Less = subst (λ z. compare_bytes x z ≡ Less) (equal_texts y t e) less in omega (arith, ap ordering_index a)
rises_by x y t Greater e less = at_most (compare_bytes x t)
  where
    at_most : (o : Ordering) → ordering_index o ≤ 2
    at_most Less = omega arith
    at_most Equal = omega arith
    at_most Greater = omega arith

module _ {X : Type 0} (key : X → Text) (t : Text) where
  ord : X → Ordering
  ord x = compare_bytes (key x) t

  comparisons_rise : (xs : List X) → IsRising (map key xs) → IsNonDecreasingBy (λ x. ordering_index (compare_bytes (key x) t)) xs
  comparisons_rise [] rising i j d le lt = absurd (omega (arith, lt))
  comparisons_rise (x ∷ xs) rising zero zero d le lt = omega arith
  comparisons_rise (x ∷ xs) rising zero (suc j) d le lt =
      let y = get_or xs j d in
      let among : Contains (map key xs) (key y) = in_map key y xs (Contains-get_or xs j d (omega (arith, lt))) in
      rises_by (key x) (key y) t (compare_bytes (key y) t) refl (head_below (key x) (key y) (map key xs) rising among)
  comparisons_rise (x ∷ xs) rising (suc i) zero d le lt = absurd (omega (arith, le))
  comparisons_rise (x ∷ xs) rising (suc i) (suc j) d le lt =
      comparisons_rise xs (sorted_tail compare_bytes (key x) (map key xs) rising) i j d (omega (arith, le)) (omega (arith, lt))

  found_at : (xs : List X) (at : ℕ) (d : X) → IsRising (map key xs) → at < length xs → compare_bytes (key (get_or xs at d)) t ≡ Equal
      → find (λ x. bytes_eq t (key x)) xs ≡ Some (get_or xs at d)
  found_at [] at d rising lt e = absurd (omega (arith, lt))
  found_at (x ∷ xs) zero d rising lt e = ap (λ b. cond b (Some x) (find (λ y. bytes_eq t (key y)) xs)) (is_equal (key x) t e)
  found_at (x ∷ xs) (suc at) d rising lt e =
      let y = get_or xs at d in
      let among : Contains (map key xs) (key y) = in_map key y xs (Contains-get_or xs at d (omega (arith, lt))) in
      let less : compare_bytes (key x) (key y) ≡ Less = head_below (key x) (key y) (map key xs) rising among in
      let before : compare_bytes (key x) t ≡ Less = subst (λ z. compare_bytes (key x) z ≡ Less) (equal_texts (key y) t e) less in
      ap (λ b. cond b (Some x) (find (λ z. bytes_eq t (key z)) xs)) (is_apart (key x) t (λ q. let f : Less ≡ Equal = sym before ∙ q in cc))
      ∙ found_at xs at d (sorted_tail compare_bytes (key x) (map key xs) rising) (omega (arith, lt)) e

  none_at : (xs : List X) → ((k : ℕ) (d : X) → k < length xs → compare_bytes (key (get_or xs k d)) t ≢ Equal) → find (λ x. bytes_eq t (key x)) xs ≡ None
  none_at [] apart = refl
  none_at (x ∷ xs) apart =
      ap (λ b. cond b (Some x) (find (λ z. bytes_eq t (key z)) xs)) (is_apart (key x) t (apart 0 x (omega arith)))
      ∙ none_at xs (λ k d lt. apart (suc k) d (omega (arith, lt)))

  -- the search ends at the one that has the text, or there is none
  pub searched : (xs : List X) (r : Result ℕ ℕ) → IsRising (map key xs) → IsSearchInRange r (length xs) → IsBinarySearchResult (λ x. compare_bytes (key x) t) xs r
      → MatchResult r (λ at. (x : X) × ((d : X) → get_or xs at d ≡ x) × (find (λ y. bytes_eq t (key y)) xs ≡ Some x)) (λ at. find (λ x. bytes_eq t (key x)) xs ≡ None)
  searched [] (Ok at) rising within h = absurd (omega (arith, within))
  searched (x ∷ xs) (Ok at) rising within h =
      (get_or (x ∷ xs) at x, (λ d. get_or_default (x ∷ xs) at d x within), found_at (x ∷ xs) at x rising within (h x))
  searched xs (Err at) rising within h =
      let parted = h (comparisons_rise xs rising) in
      none_at xs (λ k d lt e. ⊎_elim
      (λ below. let f : Less ≡ Equal = sym (parted.0 k d (omega arith) below) ∙ e in cc)
      (λ above. let f : Greater ≡ Equal = sym (parted.1 k d (omega (arith, above)) lt) ∙ e in cc)
      (cases_lt k at))

-- what is found is there
pub any_found : {X : Type 0} (p : X → Bool) (xs : List X) → list_any p xs ≡ is_some (find p xs)
any_found p [] = refl
any_found p (x ∷ xs) = elim (p x) as (λ b. (b || list_any p xs) ≡ is_some (cond b (Some x) (find p xs))) [ true ↦ refl | false ↦ any_found p xs ]
