-- Whole heads of responses at the front of bytes.
use Rattle.std.specs.Prelude.{◌≡◌, ℕ, ◌≤◌, List, length, map, drop}
use Rattle.httparse.specs.Grammar.{ResponseHead, ReadsResponse, HasNoResponse, MayBecomeResponse, print_response, status_code}
use Rattle.httparse.specs.Spans.{ResponseOverflows, name_and_value}
use Rattle.http_door.specs.declared.answers.fields.AnswerFraming.{AnswerFraming}
use Rattle.http_door.specs.declared.answers.heads.Seen.{Seen}
use Rattle.http_door.specs.declared.answers.heads.Front.{Front}
use Rattle.http_door.specs.declared.answers.heads.Front.TheVariants as front
use Rattle.http_door.specs.Heads.{field_limit}
use Rattle.http_door.specs.AnswerFields.{framing_by}

abbrev pub framing_of : ResponseHead → AnswerFraming
framing_of h = framing_by (status_code h) (map name_and_value h.fields)

-- the parts of the head h as they were seen at the front of buf
pub record Shows (buf : List ℕ) (h : ResponseHead) (s : Seen) : Type 0 where
  pub reads : ReadsResponse buf h (drop s.len buf)
  pub len : s.len ≡ length (print_response h)
  pub within : s.len ≤ length buf
  pub few : length h.fields ≤ field_limit
  pub code : s.code ≡ status_code h
  pub framing : s.framing ≡ framing_of h

-- What bytes begin with: a head of few fields; no head yet, though one may come; or no head of few fields, whatever
-- follows.
abbrev pub IsFront : List ℕ → Front → Type 0
IsFront buf (front.Head s) = (h : ResponseHead) × Shows buf h s
IsFront buf front.More = HasNoResponse buf × MayBecomeResponse buf
IsFront buf front.Bad = ResponseOverflows field_limit buf
