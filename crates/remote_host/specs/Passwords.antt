-- How a host says who it is to a proxy that asks for it (RFC 7617).
use Rattle.std.specs.Prelude.{ℕ, List, ◌++◌, length, Bool, not, ◌||◌, ◌==◌, nat_lt, nat_le, codes, if◌then◌else◌, Result, Ok, Err}
use Rattle.std.specs.List.{list_all}
use Rattle.std.specs.Io.BufRead.{ends_with_byte, strip_last}
use Rattle.base64.specs.GeneralPurpose.{encode_of}
use Rattle.base64.specs.Engines.{standard}
use Rattle.remote_host.specs.declared.passwords.BadPassword.{BadPassword}
use Rattle.remote_host.specs.declared.passwords.BadPassword.TheVariants as bad

-- a password has at most so many bytes
abbrev pub password_limit : ℕ
password_limit = 1024

-- a byte below the space, or that of DEL
abbrev pub is_control : ℕ → Bool
is_control b = nat_lt b 32 || b == 127

-- the bytes without one line end at their end, which is LF or CR LF
abbrev pub without_line_end : List ℕ → List ℕ
without_line_end bytes = if ends_with_byte 10 bytes then strip_last 13 (strip_last 10 bytes) else bytes

-- the bytes are a password: at least one and not too many, without control characters
abbrev pub checked_password : List ℕ → Result (List ℕ) BadPassword
checked_password text =
    if length text == 0 then Err bad.Empty
    else if not (nat_le (length text) password_limit) then Err bad.TooLong
    else if list_all (λ b. not (is_control b)) text then Ok text else Err bad.Control

-- the password that a file of these bytes holds, or why it holds none
abbrev pub password_in : List ℕ → Result (List ℕ) BadPassword
password_in bytes = checked_password (without_line_end bytes)

-- the field `authorization`: the user and the password in Base64, with a colon between them
abbrev pub authorization : List ℕ → List ℕ → List ℕ
authorization user password =
    codes "authorization: Basic " ++ (encode_of standard (user ++ (codes ":" ++ password)) ++ codes "\r\n")
