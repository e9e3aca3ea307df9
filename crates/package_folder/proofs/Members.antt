-- What a list contains.
use Rattle.std.proofs.Common.{ℕ, zero, suc, ◌≡◌, ◌<◌, List, [], ◌∷◌, ◌++◌, length, get_or, map, All, Contains, refl, sym, ap, ◌∙◌, subst, arith, ◌⊎◌, inl, inr, filter, filter_map, Bool, true, false, cond, Option, Some, None}
use Rattle.std.specs.List.{cons_option}
use Rattle.std.proofs.lemmas.List.Elements.{Contains-append_right, Contains-get_or}

pub first_in : {X : Type 0} (x : X) (xs : List X) → Contains (x ∷ xs) x
first_in x xs = (0, omega arith, refl)

pub later_in : {X : Type 0} (y x : X) (xs : List X) → Contains xs x → Contains (y ∷ xs) x
later_in y x xs h = Contains-append_right (y ∷ []) xs x h

uncons_at : {X : Type 0} (y x : X) (ys : List X) (k : ℕ) → k < length (y ∷ ys) → get_or (y ∷ ys) k x ≡ x → (y ≡ x) ⊎ Contains ys x
uncons_at y x ys zero lt e = inl e
uncons_at y x ys (suc k) lt e = inr (k, omega arith, e)

pub first_or_later : {X : Type 0} (y x : X) (ys : List X) → Contains (y ∷ ys) x → (y ≡ x) ⊎ Contains ys x
first_or_later y x ys h = uncons_at y x ys h.0 h.1 h.2

pub none_in : {X : Type 0} (x : X) → Contains [] x → ⊥
none_in x h = let lt : h.0 < 0 = h.1 in absurd (omega arith)

pub all_of : {X : Type 0} (P : X → Type 0) (xs : List X) → ((x : X) → Contains xs x → P x) → All P xs
all_of P xs h = λ k d lt. h (get_or xs k d) (Contains-get_or xs k d lt)

-- what a map's result contains
pub in_map : {X Y : Type 0} (f : X → Y) (x : X) (xs : List X) → Contains xs x → Contains (map f xs) (f x)
in_map f x [] h = absurd (none_in x h)
in_map f x (y ∷ xs) h =
    elim (first_or_later y x xs h) [
      | inl e ↦ subst (λ z. Contains (f y ∷ map f xs) (f z)) e (first_in (f y) (map f xs))
      | inr later ↦ later_in (f y) (f x) (map f xs) (in_map f x xs later)
    ]

pub from_map : {X Y : Type 0} (f : X → Y) (y : Y) (xs : List X) → Contains (map f xs) y → (x : X) × Contains xs x × (f x ≡ y)
from_map f y [] h = absurd (none_in y h)
from_map f y (z ∷ xs) h =
    elim (first_or_later (f z) y (map f xs) h) [
      | inl e ↦ (z, first_in z xs, e)
      | inr later ↦ let found = from_map f y xs later in (found.0, later_in z found.0 xs found.1, found.2)
    ]

-- what passes a test
pub in_filter : {X : Type 0} (p : X → Bool) (x : X) (xs : List X) → Contains xs x → p x ≡ true → Contains (filter p xs) x
in_filter p x [] h t = absurd (none_in x h)
in_filter p x (y ∷ xs) h t =
    elim (first_or_later y x xs h) [
      | inl e ↦ subst (λ b. Contains (cond b (y ∷ filter p xs) (filter p xs)) x) (sym (subst (λ z. p z ≡ true) (sym e) t))
          (subst (λ z. Contains (y ∷ filter p xs) z) e (first_in y (filter p xs)))
      | inr later ↦ elim (p y) as (λ b. Contains (cond b (y ∷ filter p xs) (filter p xs)) x) [
        | true ↦ later_in y x (filter p xs) (in_filter p x xs later t)
        | false ↦ in_filter p x xs later t
      ]
    ]

pub from_filter : {X : Type 0} (p : X → Bool) (x : X) (xs : List X) → Contains (filter p xs) x → Contains xs x × (p x ≡ true)
from_filter p x [] h = absurd (none_in x h)
from_filter p x (y ∷ xs) h =
    elim (p y) as (λ b. p y ≡ b → Contains (cond b (y ∷ filter p xs) (filter p xs)) x → Contains (y ∷ xs) x × (p x ≡ true)) [
      | true ↦ λ t g. elim (first_or_later y x (filter p xs) g) [
        | inl e ↦ (subst (λ z. Contains (y ∷ xs) z) e (first_in y xs), subst (λ z. p z ≡ true) e t)
        | inr later ↦ let found = from_filter p x xs later in (later_in y x xs found.0, found.1)
      ]
      | false ↦ λ t g. let found = from_filter p x xs g in (later_in y x xs found.0, found.1)
    ] refl h

-- what a function gives
pub in_filter_map : {X Y : Type 0} (f : X → Option Y) (x : X) (y : Y) (xs : List X) → Contains xs x → f x ≡ Some y → Contains (filter_map f xs) y
in_filter_map f x y [] h e = absurd (none_in x h)
in_filter_map {X} {Y} f x y (z ∷ xs) h e =
    elim (first_or_later z x xs h) [
      | inl same ↦ subst (λ (o : Option Y). Contains (cons_option o (filter_map f xs)) y) (sym (subst (λ (v : X). f v ≡ Some y) (sym same) e)) (first_in y (filter_map f xs))
      | inr later ↦ elim (f z) as (λ (o : Option Y). Contains (cons_option o (filter_map f xs)) y) [
        | None ↦ in_filter_map f x y xs later e
        | Some v ↦ later_in v y (filter_map f xs) (in_filter_map f x y xs later e)
      ]
    ]

pub from_filter_map : {X Y : Type 0} (f : X → Option Y) (y : Y) (xs : List X) → Contains (filter_map f xs) y → (x : X) × Contains xs x × (f x ≡ Some y)
from_filter_map f y [] h = absurd (none_in y h)
from_filter_map {X} {Y} f y (z ∷ xs) h =
    elim (f z) as (λ (o : Option Y). f z ≡ o → Contains (cons_option o (filter_map f xs)) y → (x : X) × Contains (z ∷ xs) x × (f x ≡ Some y)) [
      | None ↦ λ e g. let found = from_filter_map f y xs g in (found.0, later_in z found.0 xs found.1, found.2)
      | Some v ↦ λ e g. elim (first_or_later v y (filter_map f xs) g) [
        | inl same ↦ (z, first_in z xs, e ∙ ap Some same)
        | inr later ↦ let found = from_filter_map f y xs later in (found.0, later_in z found.0 xs found.1, found.2)
      ]
    ] refl h
