-- Texts in order: there is one such list for what it contains.
use Rattle.std.proofs.Common.{ℕ, ◌≡◌, List, [], ◌∷◌, length, map, Bool, true, false, All, Contains, refl, sym, ap, ◌∙◌, subst, arith, ◌⊎◌, ◌↔◌, inl, inr, Ordering, Less, Equal, Greater, is_eq, string_bytes}
use Rattle.std.specs.Prelude.{String}
use Rattle.std.specs.Global.{Global}
use Rattle.std.specs.Ordering.{nat_cmp, ordering_reverse}
use Rattle.std.specs.Cmp.Lexicographic.{slice_cmp, pointwise, same_text, texts_ties, nat_list_cmp_total}
use Rattle.std.specs.List.{AllByRecursion}
use Rattle.std.specs.List.Sorted.{IsStrictlySortedBy}
use Rattle.std.proofs.lemmas.Cmp.{tied_itself}
use Rattle.std.proofs.lemmas.List.Elements.{All-from_recursion, recursion_from_All, All-contains}
use Rattle.std.proofs.lemmas.Map.Keys.{sorted_head, sorted_tail}
use Rattle.package_folder.specs.Order.{compare_bytes, IsRising, put_at, put_in, in_order}
use Rattle.package_folder.proofs.Members.{first_in, later_in, first_or_later, none_in, all_of}

abbrev pub Text : Type 0
Text = List ℕ

pub rising_none : IsRising []
unfolding IsStrictlySortedBy
rising_none = tt

pub rising_cons : (x : Text) (xs : List Text) → ((y : Text) → Contains xs y → compare_bytes x y ≡ Less) → IsRising xs → IsRising (x ∷ xs)
unfolding IsStrictlySortedBy
rising_cons x xs first rest = (recursion_from_All (λ (y : Text). compare_bytes x y ≡ Less) xs (all_of (λ (y : Text). compare_bytes x y ≡ Less) xs first), rest)

pub head_below : (x y : Text) (xs : List Text) → IsRising (x ∷ xs) → Contains xs y → compare_bytes x y ≡ Less
head_below x y xs rising h =
    All-contains (λ (z : Text). compare_bytes x z ≡ Less) xs y
    (All-from_recursion (λ (z : Text). compare_bytes x z ≡ Less) xs (sorted_head compare_bytes x xs rising)) h

tail_rising : (x : Text) (xs : List Text) → IsRising (x ∷ xs) → IsRising xs
tail_rising x xs rising = sorted_tail compare_bytes x xs rising

-- ---- what the comparison says

pub equal_texts : (x y : Text) → compare_bytes x y ≡ Equal → x ≡ y
equal_texts x y e = same_text x y (sym (texts_ties x y ∙ ap is_eq e))

not_both : (x y : Text) → compare_bytes x y ≡ Less → compare_bytes y x ≡ Less → ⊥
not_both x y a b =
    let e : Less ≡ Greater = sym a ∙ nat_list_cmp_total.antisymm x y ∙ ap ordering_reverse b in cc

pub not_itself : (x y : Text) → compare_bytes x y ≡ Less → x ≡ y → ⊥
not_itself x y a e =
    let itself : compare_bytes x x ≡ Equal = tied_itself nat_list_cmp_total x in
    let same : compare_bytes x x ≡ Less = subst (λ z. compare_bytes x z ≡ Less) (sym e) a in
    let f : Less ≡ Equal = sym same ∙ itself in cc

flipped : (x y : Text) → compare_bytes x y ≡ Greater → compare_bytes y x ≡ Less
flipped x y e = nat_list_cmp_total.antisymm y x ∙ ap ordering_reverse e

-- ---- one list for what it contains

abbrev pub Same : List Text → List Text → Type 0
Same xs ys = (x : Text) → Contains xs x ↔ Contains ys x

same_heads : (x y : Text) (xs ys : List Text) → IsRising (x ∷ xs) → IsRising (y ∷ ys) → Contains (y ∷ ys) x → Contains (x ∷ xs) y → x ≡ y
same_heads x y xs ys rx ry hx hy =
    elim (first_or_later y x ys hx) [
      | inl e ↦ sym e
      | inr later ↦ elim (first_or_later x y xs hy) [
        | inl e ↦ e
        | inr other ↦ absurd (not_both x y (head_below x y xs rx other) (head_below y x ys ry later))
      ]
    ]

in_tail : (x y z : Text) (xs ys : List Text) → IsRising (x ∷ xs) → x ≡ y → Contains xs z → Contains (y ∷ ys) z → Contains ys z
in_tail x y z xs ys rx same here there =
    elim (first_or_later y z ys there) [
      | inl e ↦ absurd (not_itself x z (head_below x z xs rx here) (same ∙ e))
      | inr later ↦ later
    ]

pub one_list : (xs ys : List Text) → IsRising xs → IsRising ys → Same xs ys → xs ≡ ys
one_list [] [] rx ry same = refl
one_list [] (y ∷ ys) rx ry same = absurd (none_in y ((same y).1 (first_in y ys)))
one_list (x ∷ xs) [] rx ry same = absurd (none_in x ((same x).0 (first_in x xs)))
one_list (x ∷ xs) (y ∷ ys) rx ry same =
    let heads : x ≡ y = same_heads x y xs ys rx ry ((same x).0 (first_in x xs)) ((same y).1 (first_in y ys)) in
    let tails : xs ≡ ys = one_list xs ys (tail_rising x xs rx) (tail_rising y ys ry) (λ z. (
      (λ h. in_tail x y z xs ys rx heads h ((same z).0 (later_in x z xs h))),
      (λ h. in_tail y x z ys xs ry (sym heads) h ((same z).1 (later_in y z ys h))),
    )) in
    ap (λ t. t ∷ xs) heads ∙ ap (λ ts. y ∷ ts) tails

-- ---- in order

-- what is put in, and what was there
put_only_by : (t first z : Text) (others : List Text) (o : Ordering) → compare_bytes t first ≡ o
    → (Contains (put_in t others) z → (t ≡ z) ⊎ Contains others z)
    → Contains (put_at o t first others (put_in t others)) z → (t ≡ z) ⊎ Contains (first ∷ others) z
put_only_by t first z others Less e more h = first_or_later t z (first ∷ others) h
put_only_by t first z others Equal e more h = inr h
put_only_by t first z others Greater e more h =
    elim (first_or_later first z (put_in t others) h) [
      | inl same ↦ inr (subst (λ x. Contains (first ∷ others) x) same (first_in first others))
      | inr later ↦ elim (more later) [ inl it ↦ inl it | inr other ↦ inr (later_in first z others other) ]
    ]

pub put_only : (t z : Text) (others : List Text) → Contains (put_in t others) z → (t ≡ z) ⊎ Contains others z
put_only t z [] h = first_or_later t z [] h
put_only t z (first ∷ others) h = put_only_by t first z others (compare_bytes t first) refl (put_only t z others) h

put_has_by : (t first z : Text) (others : List Text) (o : Ordering) → compare_bytes t first ≡ o
    → ((t ≡ z) ⊎ Contains others z → Contains (put_in t others) z)
    → (t ≡ z) ⊎ Contains (first ∷ others) z → Contains (put_at o t first others (put_in t others)) z
put_has_by t first z others Less e more h =
    elim h [
      | inl same ↦ subst (λ x. Contains (t ∷ first ∷ others) x) same (first_in t (first ∷ others))
      | inr there ↦ later_in t z (first ∷ others) there
    ]
put_has_by t first z others Equal e more h =
    elim h [
      | inl same ↦ subst (λ x. Contains (first ∷ others) x) (sym (equal_texts t first e) ∙ same) (first_in first others)
      | inr there ↦ there
    ]
put_has_by t first z others Greater e more h =
    elim h [
      | inl same ↦ later_in first z (put_in t others) (more (inl same))
      | inr there ↦ elim (first_or_later first z others there) [
        | inl same ↦ subst (λ x. Contains (first ∷ put_in t others) x) same (first_in first (put_in t others))
        | inr later ↦ later_in first z (put_in t others) (more (inr later))
      ]
    ]

pub put_has : (t z : Text) (others : List Text) → (t ≡ z) ⊎ Contains others z → Contains (put_in t others) z
put_has t z [] h = elim h [ inl same ↦ subst (λ x. Contains (t ∷ []) x) same (first_in t []) | inr there ↦ absurd (none_in z there) ]
put_has t z (first ∷ others) h = put_has_by t first z others (compare_bytes t first) refl (put_has t z others) h

put_rising_by : (t first : Text) (others : List Text) (o : Ordering) → compare_bytes t first ≡ o → IsRising (first ∷ others)
    → IsRising (put_in t others) → IsRising (put_at o t first others (put_in t others))
put_rising_by t first others Less e rising more =
    rising_cons t (first ∷ others)
    (λ y h. elim (first_or_later first y others h) [
      | inl same ↦ subst (λ x. compare_bytes t x ≡ Less) same e
      | inr later ↦ nat_list_cmp_total.trans t first y e (head_below first y others rising later)
    ])
    rising
put_rising_by t first others Equal e rising more = rising
put_rising_by t first others Greater e rising more =
    rising_cons first (put_in t others)
    (λ y h. elim (put_only t y others h) [
      | inl same ↦ subst (λ x. compare_bytes first x ≡ Less) same (flipped t first e)
      | inr other ↦ head_below first y others rising other
    ])
    more

pub put_rising : (t : Text) (others : List Text) → IsRising others → IsRising (put_in t others)
put_rising t [] rising = rising_cons t [] (λ y h. absurd (none_in y h)) rising_none
put_rising t (first ∷ others) rising =
    put_rising_by t first others (compare_bytes t first) refl rising (put_rising t others (tail_rising first others rising))

pub ordered_rising : (texts : List Text) → IsRising (in_order texts)
ordered_rising [] = rising_none
ordered_rising (t ∷ texts) = put_rising t (in_order texts) (ordered_rising texts)

pub ordered_same : (texts : List Text) → Same (in_order texts) texts
ordered_same [] = λ z. ((λ h. h), (λ h. h))
ordered_same (t ∷ texts) = λ z. (
  (λ h. elim (put_only t z (in_order texts) h) [
    | inl same ↦ subst (λ x. Contains (t ∷ texts) x) same (first_in t texts)
    | inr later ↦ later_in t z texts ((ordered_same texts z).0 later)
  ]),
  (λ h. elim (first_or_later t z texts h) [
    | inl same ↦ put_has t z (in_order texts) (inl same)
    | inr later ↦ put_has t z (in_order texts) (inr ((ordered_same texts z).1 later))
  ]),
)

-- a list that rises and contains the same is the texts in order
pub in_order_is : (xs texts : List Text) → IsRising xs → Same xs texts → xs ≡ in_order texts
in_order_is xs texts rising same =
    one_list xs (in_order texts) rising (ordered_rising texts)
    (λ z. ((λ h. (ordered_same texts z).1 ((same z).0 h)), (λ h. (same z).1 ((ordered_same texts z).0 h))))

pub same_order : (xs ys : List Text) → Same xs ys → in_order xs ≡ in_order ys
same_order xs ys same =
    in_order_is (in_order xs) ys (ordered_rising xs)
    (λ z. ((λ h. (same z).0 ((ordered_same xs z).0 h)), (λ h. (ordered_same xs z).1 ((same z).1 h))))
