-- Values of one line: plain, single-quoted or double-quoted (YAML 1.2, sections 7.3.1 to 7.3.3).
use Rattle.std.specs.Prelude.{ℕ, ◌+◌, ◌-◌, ◌*◌, List, [], ◌∷◌, Bool, true, ◌&&◌, ◌||◌, ◌==◌, nat_le, if◌then◌else◌, Option, Some, None, Result, Ok, Err, take}
use Rattle.problem_settings.specs.declared.yaml.YamlWhy.{YamlWhy}
use Rattle.problem_settings.specs.declared.yaml.YamlWhy.TheVariants.{Open, BadEscape, Form}
use Rattle.problem_settings.specs.Lines.{is_blank}
use Rattle.problem_settings.specs.Fields.{ends_word, trimmed}

-- ---- plain: to the end of the line or to the first # that follows a space

-- the length of what stands before the comment; `spaced` says that a space stands before the text
abbrev pub comment_from : ℕ → Bool → List ℕ → ℕ
comment_from at spaced [] = at
comment_from at spaced (b ∷ bs) = if spaced && b == 35 then at else comment_from (at + 1) (b == 32) bs

abbrev pub plain_text : Bool → List ℕ → List ℕ
plain_text spaced text = trimmed (take (comment_from 0 spaced text) text)

-- ---- single-quoted: two quotes stand for one

-- what the text behind the opening quote holds
abbrev pub single_text : List ℕ → List ℕ
single_text [] = []
single_text (b ∷ []) = if b == 39 then [] else b ∷ []
single_text (b ∷ c ∷ bs) = if b == 39 then (if c == 39 then 39 ∷ single_text bs else []) else b ∷ single_text (c ∷ bs)

-- what stands behind the closing quote
abbrev pub single_after : List ℕ → Result (List ℕ) YamlWhy
single_after [] = Err Open
single_after (b ∷ []) = if b == 39 then Ok [] else Err Open
single_after (b ∷ c ∷ bs) =
    if b == 39 then (if c == 39 then single_after bs else Ok (c ∷ bs)) else single_after (c ∷ bs)

-- ---- double-quoted: the escapes \" \\ \n \t

abbrev pub is_escape : ℕ → Bool
is_escape b = b == 34 || b == 92 || b == 110 || b == 116

-- the byte that the escape stands for
abbrev pub escaped : ℕ → ℕ
escaped b = if b == 110 then 10 else (if b == 116 then 9 else b)

-- what the text behind the opening quote holds
abbrev pub double_text : List ℕ → List ℕ
double_text [] = []
double_text (b ∷ []) = if b == 34 then [] else b ∷ []
double_text (b ∷ c ∷ bs) =
    if b == 34 then []
    else (if b == 92 then escaped c ∷ double_text bs else b ∷ double_text (c ∷ bs))

-- what stands behind the closing quote
abbrev pub double_after : List ℕ → Result (List ℕ) YamlWhy
double_after [] = Err Open
double_after (b ∷ []) = if b == 34 then Ok [] else Err Open
double_after (b ∷ c ∷ bs) =
    if b == 34 then Ok (c ∷ bs)
    else (if b == 92 then (if is_escape c then double_after bs else Err BadEscape) else double_after (c ∷ bs))

-- ---- a value

-- behind a closing quote stands nothing, or a space and then perhaps a comment
abbrev pub ends_value : List ℕ → Bool
ends_value text = ends_word text && is_blank text

abbrev pub quoted : List ℕ → Result (List ℕ) YamlWhy → Result (List ℕ) YamlWhy
quoted text (Ok after) = if ends_value after then Ok text else Err Form
quoted text (Err why) = Err why

-- | > [ & * ! { begin other forms of YAML
abbrev pub begins_form : ℕ → Bool
begins_form b = b == 124 || b == 62 || b == 91 || b == 38 || b == 42 || b == 33 || b == 123

-- the text of a value that begins with no space, or why it is none
abbrev pub scalar_of : List ℕ → Result (List ℕ) YamlWhy
scalar_of [] = Ok []
scalar_of (b ∷ bs) =
    if b == 39 then quoted (single_text bs) (single_after bs)
    else (if b == 34 then quoted (double_text bs) (double_after bs)
    else (if begins_form b then Err Form else Ok (plain_text true (b ∷ bs))))

-- ---- numbers

abbrev pub is_digit : ℕ → Bool
is_digit b = nat_le 48 b && nat_le b 57

-- the number of these digits, with this number of those before them
abbrev pub number_from : ℕ → List ℕ → Option ℕ
number_from n [] = Some n
number_from n (b ∷ bs) = if is_digit b then number_from (n * 10 + (b - 48)) bs else None

-- decimal digits, perhaps with zeros in front
abbrev pub number_of_digits : List ℕ → Option ℕ
number_of_digits [] = None
number_of_digits (b ∷ bs) = number_from 0 (b ∷ bs)

-- the number, where it is one from the least to the most
abbrev pub within : ℕ → ℕ → ℕ → Option ℕ
within least most n = if nat_le least n && nat_le n most then Some n else None
