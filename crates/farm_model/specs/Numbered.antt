-- Lists whose items are numbered from 1.
use Rattle.std.specs.Prelude.{ℕ, ◌+◌, Bool, ◌-◌, List, slice_get, slice_set, Option, Some, None, nat_lt, if◌then◌else◌, unwrap_or}
use Rattle.std.specs.List.{range_with_len, position}
use Rattle.std.specs.Option.{option_map}

-- the item of this number, where there is one
abbrev pub item_of : {X : Type 0} → List X → ℕ → Option X
item_of xs n = if nat_lt 0 n then slice_get xs (n - 1) else None

-- the list with another item of this number
abbrev pub with_item : {X : Type 0} → List X → ℕ → X → List X
with_item xs n x = slice_set xs (n - 1) x

abbrev pub change_item : {X : Type 0} → List X → ℕ → (X → X) → Option X → List X
change_item xs n change None = xs
change_item xs n change (Some x) = with_item xs n (change x)

-- the list where the item of this number is changed, if there is one
abbrev pub with_change : {X : Type 0} → List X → ℕ → (X → X) → List X
with_change xs n change = change_item xs n change (item_of xs n)

-- a number that is known to be there
abbrev pub number_or_0 : Option ℕ → ℕ
number_or_0 n = unwrap_or n 0

-- 1 to n
abbrev pub numbers_to : ℕ → List ℕ
numbers_to n = range_with_len 1 n

-- the number of the first item that passes the test
abbrev pub number_where : {X : Type 0} → (X → Bool) → List X → Option ℕ
number_where test xs = option_map (λ i. i + 1) (position test xs)
