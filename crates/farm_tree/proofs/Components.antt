-- What lies below a folder, and the names there.
use Rattle.std.proofs.Common.{ℕ, suc, ◌≡◌, ◌+◌, ◌<◌, ◌≤◌, List, [], ◌∷◌, Some, None, true, false, ◌&&◌, cond, length, take, drop, get_or, nat_eq, refl, sym, ap, ◌∙◌, subst, arith, ⊎_elim, eqb-true, eq-eqb, take_all, le_of_lt, ltb, add-one}
use Rattle.std.specs.Cmp.Lexicographic.{pointwise}
use Rattle.std.specs.List.{position, position_or_len, before_first, list_any}
use Rattle.std.specs.Str.{IsUtf8, IsCharBoundary}
use Rattle.std.proofs.lemmas.Bool.{cases_lt}
use Rattle.std.proofs.lemmas.List.Sums.{passes_at_first, fails_before_first, position_or_len_is}
use Rattle.std.proofs.lemmas.Bool.Decides.{nat_tests}
use Rattle.std.proofs.lemmas.List.Folds.{list_any_at, list_any_none}
use Rattle.std.proofs.lemmas.List.Quantifiers.{position-Some}
use Rattle.std.proofs.lemmas.Str.{IsUtf8-take, IsUtf8-drop, IsCharBoundary-before_ascii, IsCharBoundary-after_ascii}
use Rattle.farm_tree.specs.Listing.{is_slash, after_slash, below, in_folder}

-- the folder's path is taken off, and then the slash
pub below_by : (folder path : List ℕ)
    → below folder path ≡ cond (pointwise nat_eq (take (length folder) path) folder) (after_slash (drop (length folder) path)) None
below_by [] path = refl
below_by (a ∷ folder) [] = refl
below_by (a ∷ folder) (b ∷ path) =
    elim (nat_eq b a) as (λ t. cond t (below folder path) None
    ≡ cond (t && pointwise nat_eq (take (length folder) path) folder) (after_slash (drop (length folder) path)) None) [
      | true ↦ below_by folder path
      | false ↦ refl
    ]

pub below_apart : (folder path : List ℕ) → pointwise nat_eq (take (length folder) path) folder ≡ false → None ≡ below folder path
below_apart folder path e = sym (below_by folder path ∙ ap (λ t. cond t (after_slash (drop (length folder) path)) None) e)

pub below_behind : (folder path rest : List ℕ) → pointwise nat_eq (take (length folder) path) folder ≡ true → rest ≡ drop (length folder) path
    → after_slash rest ≡ below folder path
below_behind folder path rest e is =
    ap after_slash is ∙ sym (below_by folder path ∙ ap (λ t. cond t (after_slash (drop (length folder) path)) None) e)

-- what lies below a folder is the rest of its path
after_is : (path rest : List ℕ) → after_slash path ≡ Some rest → path ≡ 47 ∷ rest
after_is [] rest e = cc
after_is (b ∷ path) rest e =
    elim (nat_eq b 47) as (λ t. nat_eq b 47 ≡ t → cond t (Some path) None ≡ Some rest → b ∷ path ≡ 47 ∷ rest) [
      | true ↦ λ h s. let same : b ≡ 47 = eqb-true b 47 h in cc
      | false ↦ λ h s. cc
    ] refl e

pub below_is : (folder path rest : List ℕ) → below folder path ≡ Some rest → path ≡ in_folder folder rest
below_is [] path rest e = after_is path rest e
below_is (a ∷ folder) [] rest e = cc
below_is (a ∷ folder) (b ∷ path) rest e =
    elim (nat_eq b a) as (λ t. nat_eq b a ≡ t → cond t (below folder path) None ≡ Some rest → b ∷ path ≡ a ∷ in_folder folder rest) [
      | true ↦ λ h s. let same : b ≡ a = eqb-true b a h in let more : path ≡ in_folder folder rest = below_is folder path rest s in cc
      | false ↦ λ h s. cc
    ] refl e

pub below_in : (folder rest : List ℕ) → below folder (in_folder folder rest) ≡ Some rest
below_in [] rest = refl
below_in (a ∷ folder) rest =
    ap (λ t. cond t (below folder (in_folder folder rest)) None) (eq-eqb a a refl) ∙ below_in folder rest

-- the path of a file below a folder is longer than the folder's
pub longer : (folder rest : List ℕ) → length folder < length (in_folder folder rest)
longer [] rest = omega arith
longer (a ∷ folder) rest = let h = longer folder rest in omega arith

slash_at : (folder rest : List ℕ) → get_or (in_folder folder rest) (length folder) 0 ≡ 47
slash_at [] rest = refl
slash_at (a ∷ folder) rest = slash_at folder rest

rest_at : (folder rest : List ℕ) → drop (suc (length folder)) (in_folder folder rest) ≡ rest
rest_at [] rest = refl
rest_at (a ∷ folder) rest = rest_at folder rest

-- what lies below a folder is a text, and so is its first component
pub rest_text : (folder rest : List ℕ) → IsUtf8 (in_folder folder rest) → IsUtf8 rest
rest_text folder rest text =
    let low : get_or (in_folder folder rest) (length folder) 0 < 128 = let e = slash_at folder rest in omega arith in
    let cut : IsCharBoundary (in_folder folder rest) (length folder + 1) = IsCharBoundary-after_ascii (in_folder folder rest) (length folder) text (longer folder rest) low in
    subst IsUtf8 (rw add-one (rest_at folder rest)) (IsUtf8-drop (in_folder folder rest) (length folder + 1) text cut)

slash_is : (b : ℕ) → is_slash b ≡ true → b < 128
slash_is b h = let e : b ≡ 47 = eqb-true b 47 h in omega arith

pub name_text : (rest : List ℕ) → IsUtf8 rest → IsUtf8 (before_first is_slash rest)
name_text rest text =
    ⊎_elim
    (λ (h : position_or_len is_slash rest < length rest).
    IsUtf8-take rest (position_or_len is_slash rest) text
    (IsCharBoundary-before_ascii rest (position_or_len is_slash rest) h (slash_is _ (passes_at_first is_slash rest 0 h))))
    (λ (h : length rest ≤ position_or_len is_slash rest).
    subst IsUtf8 (sym (take_all (position_or_len is_slash rest) rest h)) text)
    (cases_lt (position_or_len is_slash rest) (length rest))

-- the first slash, where there is one
pub first_name : (rest : List ℕ) (end : ℕ) → Some end ≡ position is_slash rest
    → (take end rest ≡ before_first is_slash rest) × (true ≡ list_any is_slash rest)
first_name rest end e =
    let h = position-Some is_slash rest end 0 (sym e) in (
      ap (λ n. take n rest) (sym (position_or_len_is is_slash rest end 0 (le_of_lt h.0) h.2 (λ _. h.1))),
      sym (list_any_at is_slash rest end 0 h.0 h.1),
    )

pub whole_name : (rest : List ℕ) → length rest ≤ position_or_len is_slash rest
    → (rest ≡ before_first is_slash rest) × (false ≡ list_any is_slash rest)
whole_name rest le = (
  sym (take_all (position_or_len is_slash rest) rest le),
  sym (list_any_none is_slash rest (λ k d lt. fails_before_first is_slash rest k d (omega (arith, le, lt)))),
)

beyond : (n m : ℕ) → cond (ltb n m) (Some n) None ≡ None → m ≤ n
beyond n m e = grind (arith, nat_tests)

pub only_name : (rest : List ℕ) → None ≡ position is_slash rest
    → (rest ≡ before_first is_slash rest) × (false ≡ list_any is_slash rest)
only_name rest e = whole_name rest (beyond _ _ (sym e))
