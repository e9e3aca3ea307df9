-- The bytes of a response, and what a call puts of them.
use Rattle.std.specs.Prelude.{◌≡◌, ◌≢◌, ℕ, ◌≤◌, List, [], ◌++◌, length, take, codes, Bool, true, false, Option, Result, Ok, Err}
use Rattle.std.specs.Option.{unwrap_or}
use Rattle.std.specs.Fmt.{decimal}
use Rattle.std.specs.Io.KnownBytes.{Keeps, Appends}
use Rattle.http.specs.StatusCode.{reason_phrase}
use Rattle.farm_io.specs.Streams.{Rose}
use Rattle.http_door.specs.declared.responses.Content.{Content}
use Rattle.http_door.specs.declared.responses.Content.TheVariants as content
use Rattle.http_door.specs.declared.responses.ResponseFault.{ResponseFault}
use Rattle.http_door.specs.declared.responses.ResponseFault.TheVariants as fault

-- a status without a phrase has an empty one
abbrev pub phrase_of : ℕ → List ℕ
phrase_of status = unwrap_or (reason_phrase status) []

-- the line that says that the connection ends behind the response, where the server asks for that (RFC 9112, section 9.6)
abbrev pub close_line : Bool → List ℕ
close_line true = codes "connection: close\r\n"
close_line false = []

-- The lines that say what a body is. A page may ask its own server for more, and run and show what stands in it: of
-- style and script only those of these digests. Nothing else may be loaded, no other page may show it within itself, and
-- it is taken for nothing else than a page (Content Security Policy, level 3).
abbrev pub content_lines : Content → List ℕ
content_lines content.Json = codes "content-type: application/json\r\n"
content_lines content.Page =
    codes "content-type: text/html; charset=utf-8\r\n"
    ++ codes "content-security-policy: default-src 'none'; "
    ++ codes "style-src 'sha256-G30TodyTMcG4q+tbaFjhqASOL2SBaKqaut9AMfWhnD4='; "
    ++ codes "script-src 'sha256-jIWpfSAAKJsUAfPwlhFnoXZ4J5Sc3VOnc2W3TTwhj2s='; "
    ++ codes "connect-src 'self'; base-uri 'none'; form-action 'none'; frame-ancestors 'none'\r\n"
    ++ codes "x-content-type-options: nosniff\r\n"

-- the status line, a line for each of the fields, and the empty line behind them
abbrev pub head_lines : ℕ → List ℕ → ℕ → List ℕ → List ℕ → List ℕ
head_lines code phrase len what last =
    codes "HTTP/1.1 " ++ (decimal code ++ (codes " " ++ (phrase
    ++ (codes "\r\ncontent-length: " ++ (decimal len
    ++ (codes "\r\n" ++ (what ++ (last ++ codes "\r\n"))))))))

-- the head of a response of this status with a body of so many bytes
abbrev pub head_text : Content → Bool → ℕ → ℕ → List ℕ
head_text what closing status len =
    head_lines status (phrase_of status) len (content_lines what) (close_line closing)

-- the bytes of a response with a body of this content, behind which the server ends the connection or does not
abbrev pub content_response : Content → Bool → ℕ → List ℕ → List ℕ
content_response what closing status body = head_text what closing status (length body) ++ body

-- the same, where the body is JSON
abbrev pub response_with : Bool → ℕ → List ℕ → List ℕ
response_with closing status body = content_response content.Json closing status body

-- the bytes of a response that says nothing of the connection
abbrev pub response_text : ℕ → List ℕ → List ℕ
response_text status body = response_with false status body

-- the whole text was put; or a prefix of it; or nothing
abbrev pub Writes : Option (List ℕ) → Option (List ℕ) → List ℕ → Result (Unit {0}) ResponseFault → Type 0
Writes held held' text (Ok u) = Appends held held' text
Writes held held' text (Err fault.WriteFault) = (n : ℕ) × (n ≤ length text) × Appends held held' (take n text)
Writes held held' text (Err fault.NoMemory) = Keeps held held'

-- the count of faults never falls, and rises where the sink failed and at nothing else
pub record HasCauseWritten (before now : ℕ) (result : Result (Unit {0}) ResponseFault) : Type 0 where
  pub later : before ≤ now
  pub failed : result ≡ Err fault.WriteFault → Rose before now
  pub kept : result ≢ Err fault.WriteFault → now ≡ before
