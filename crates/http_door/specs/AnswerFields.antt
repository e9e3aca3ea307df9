-- What the head of a response says of its body (RFC 9112, section 6).
use Rattle.std.specs.Prelude.{ℕ, List, Bool, ◌||◌, nat_lt, ◌==◌, if◌then◌else◌}
use Rattle.http_door.specs.declared.fields.ContentLength.{ContentLength}
use Rattle.http_door.specs.declared.fields.ContentLength.TheVariants as stated
use Rattle.http_door.specs.declared.answers.fields.AnswerFraming.{AnswerFraming}
use Rattle.http_door.specs.declared.answers.fields.AnswerFraming.TheVariants as framing
use Rattle.http_door.specs.Fields.{content_length, transfer_encoding, values_of, length_said, has_field}

-- the most bytes of a body
abbrev pub answer_limit : ℕ
answer_limit = 100663296

-- the codes that are looked at: OK, Not Found, Conflict (RFC 9110, section 15)
abbrev pub is_known : ℕ → Bool
is_known code = code == 200 || (code == 404 || code == 409)

-- How the body is framed. A missing or wrong length goes before one over the limit, and that before another code.
abbrev pub framing_for : ContentLength → Bool → ℕ → AnswerFraming
framing_for stated.Invalid coded code = framing.BadLength
framing_for stated.Absent coded code = framing.BadLength
framing_for (stated.Given n) coded code =
    if coded then framing.BadLength
    else if nat_lt answer_limit n then framing.TooLong n
    else if is_known code then framing.Sized n else framing.Status code

-- how the body is framed behind a head with this code and these fields
abbrev pub framing_by : ℕ → List (List ℕ × List ℕ) → AnswerFraming
framing_by code fields =
    framing_for (length_said (values_of content_length fields)) (has_field transfer_encoding fields) code
