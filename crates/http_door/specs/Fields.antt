-- What the fields of a request's head say of its message body and of the connection (RFC 9112, sections 6 and 9). A
-- field is its name and its value without the white space around it.
use Rattle.std.specs.Prelude.{ℕ, ◌+◌, ◌-◌, ◌*◌, List, [], ◌∷◌, length, map, Bool, ◌&&◌, ◌||◌, nat_lt, nat_le, ◌==◌, if◌then◌else◌, codes}
use Rattle.std.specs.List.{list_all, list_any}
use Rattle.std.specs.Str.{bytes_eq}
use Rattle.std.specs.Char.{to_ascii_lowercase, is_ascii_digit}
use Rattle.http_door.specs.declared.fields.ContentLength.{ContentLength}
use Rattle.http_door.specs.declared.fields.ContentLength.TheVariants as stated
use Rattle.http_door.specs.declared.fields.Framing.{Framing}
use Rattle.http_door.specs.declared.fields.Framing.TheVariants as framing

-- the most bytes of a body
abbrev pub body_limit : ℕ
body_limit = 33554432

-- the two words are one, without regard to ASCII case
abbrev pub is_word : List ℕ → List ℕ → Bool
is_word wanted word = bytes_eq (map to_ascii_lowercase word) (map to_ascii_lowercase wanted)

abbrev pub content_length : List ℕ
content_length = codes "content-length"

abbrev pub transfer_encoding : List ℕ
transfer_encoding = codes "transfer-encoding"

abbrev pub connection : List ℕ
connection = codes "connection"

abbrev pub close : List ℕ
close = codes "close"

-- the value of digits, onto what stands before them
abbrev pub value_from : ℕ → List ℕ → ℕ
value_from n [] = n
value_from n (b ∷ bs) = value_from (10 * n + (b - 48)) bs

-- a length is 1 to 18 digits
abbrev pub is_length : List ℕ → Bool
is_length value = nat_lt 0 (length value) && (nat_le (length value) 18 && list_all is_ascii_digit value)

-- what one value says
abbrev pub length_from : List ℕ → ContentLength
length_from value = if is_length value then stated.Given (value_from 0 value) else stated.Invalid

-- the values of the fields with this name
abbrev pub values_of : List ℕ → List (List ℕ × List ℕ) → List (List ℕ)
values_of name [] = []
values_of name (f ∷ fs) = if is_word name f.0 then f.1 ∷ values_of name fs else values_of name fs

-- What these values of `content-length` say: two of them are wrong, also where they are the same.
abbrev pub length_said : List (List ℕ) → ContentLength
length_said [] = stated.Absent
length_said (v ∷ []) = length_from v
length_said (v ∷ w ∷ vs) = stated.Invalid

-- what is said with one more value
abbrev pub next_length : ContentLength → List ℕ → ContentLength
next_length stated.Absent value = length_from value
next_length (stated.Given n) value = stated.Invalid
next_length stated.Invalid value = stated.Invalid

-- what is said with one more field
abbrev pub length_with : ContentLength → List ℕ × List ℕ → ContentLength
length_with l f = if is_word content_length f.0 then next_length l f.1 else l

-- a field has this name
abbrev pub has_field : List ℕ → List (List ℕ × List ℕ) → Bool
has_field wanted fields = list_any (λ f. is_word wanted f.0) fields

-- a field says that the connection is to be closed
abbrev pub says_close : List (List ℕ × List ℕ) → Bool
says_close fields = list_any (λ f. is_word connection f.0 && is_word close f.1) fields

-- How the body is framed. A wrong length goes before a missing one, and that before one over the limit.
abbrev pub framing_for : ContentLength → Bool → Bool → Framing
framing_for stated.Invalid coded post = framing.BadLength
framing_for stated.Absent coded post = if coded || post then framing.NoLength else framing.Sized 0
framing_for (stated.Given n) coded post =
    if coded then framing.NoLength else if nat_lt body_limit n then framing.TooLong n else framing.Sized n

-- the method is POST
abbrev pub is_post : List ℕ → Bool
is_post method = bytes_eq method (codes "POST")

-- how the body is framed behind a head with this method and these fields
abbrev pub framing_by : List ℕ → List (List ℕ × List ℕ) → Framing
framing_by method fields =
    framing_for (length_said (values_of content_length fields)) (has_field transfer_encoding fields) (is_post method)

-- The connection ends behind the response: the version is 1.0, or a field says so.
abbrev pub closes_by : ℕ → List (List ℕ × List ℕ) → Bool
closes_by minor fields = minor == 0 || says_close fields
