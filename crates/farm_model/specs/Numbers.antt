-- Numbers in lines.
use Rattle.std.specs.Prelude.{ℕ, ◌+◌, ◌-◌, ◌*◌, ◌^◌, List, [], ◌∷◌, Bool, false, ◌&&◌, ◌||◌, not, nat_le, ◌==◌, if◌then◌else◌, Option, Some, None, length}
use Rattle.std.specs.List.{list_all}
use Rattle.std.specs.Option.{option_and_then}

abbrev pub is_digit : ℕ → Bool
is_digit b = nat_le 48 b && nat_le b 57

-- the value of digits, onto what stands before them
abbrev pub value_from : ℕ → List ℕ → ℕ
value_from n [] = n
value_from n (b ∷ bs) = value_from (10 * n + (b - 48)) bs

-- there is a digit, and no zero in front unless it is all
abbrev pub leads_well : List ℕ → Bool
leads_well [] = false
leads_well (b ∷ bs) = not (b == 48) || length bs == 0

abbrev pub is_numeral : List ℕ → Bool
is_numeral word = leads_well word && list_all is_digit word

-- the number that the digits stand for
abbrev pub whole_of : List ℕ → Option ℕ
whole_of word = if is_numeral word then Some (value_from 0 word) else None

abbrev pub at_most : ℕ → ℕ → Option ℕ
at_most limit n = if nat_le n limit then Some n else None

-- a number of a line: at most 4,294,967,295
abbrev pub number_of : List ℕ → Option ℕ
number_of word = option_and_then (at_most 4294967295) (whole_of word)

-- a moment of a line: at most 18 digits
abbrev pub moment_of : List ℕ → Option ℕ
moment_of word = option_and_then (at_most (10 ^ 18 - 1)) (whole_of word)

-- Lists

-- the byte goes onto the first part
abbrev pub onto_first_part : ℕ → List (List ℕ) → List (List ℕ)
onto_first_part b [] = (b ∷ []) ∷ []
onto_first_part b (part ∷ parts) = (b ∷ part) ∷ parts

-- what stands between the commas
abbrev pub comma_parts : List ℕ → List (List ℕ)
comma_parts [] = [] ∷ []
comma_parts (b ∷ bs) = if b == 44 then [] ∷ comma_parts bs else onto_first_part b (comma_parts bs)

-- a number before a list of them, where both are there
abbrev pub before_all : Option ℕ → Option (List ℕ) → Option (List ℕ)
before_all None ns = None
before_all (Some n) None = None
before_all (Some n) (Some ns) = Some (n ∷ ns)

-- the numbers, where each part is one
abbrev pub all_numbers : List (List ℕ) → Option (List ℕ)
all_numbers [] = Some []
all_numbers (part ∷ parts) = before_all (number_of part) (all_numbers parts)

-- numbers joined by single commas
abbrev pub list_of : List ℕ → Option (List ℕ)
list_of word = all_numbers (comma_parts word)
