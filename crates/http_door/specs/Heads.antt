-- Whole heads at the front of bytes.
use Rattle.std.specs.Prelude.{◌≡◌, ℕ, ◌≤◌, List, Bool, length, map, drop}
use Rattle.httparse.specs.Grammar.{RequestHead, ReadsRequest, HasNoRequest, MayBecomeRequest, print_request}
use Rattle.httparse.specs.Spans.{RequestOverflows, name_and_value, span_bytes, IsWithin}
use Rattle.http_door.specs.declared.fields.Framing.{Framing}
use Rattle.http_door.specs.declared.heads.Seen.{Seen}
use Rattle.http_door.specs.declared.heads.Front.{Front}
use Rattle.http_door.specs.declared.heads.Front.TheVariants as front
use Rattle.http_door.specs.Fields.{framing_by, closes_by}

-- the most bytes, and the most fields, of a head
abbrev pub head_limit : ℕ
head_limit = 16384

abbrev pub field_limit : ℕ
field_limit = 64

abbrev pub framing_of : RequestHead → Framing
framing_of h = framing_by h.method (map name_and_value h.fields)

abbrev pub closes : RequestHead → Bool
closes h = closes_by h.minor (map name_and_value h.fields)

-- the parts of the head h as they were seen at the front of buf
pub record Shows (buf : List ℕ) (h : RequestHead) (s : Seen) : Type 0 where
  pub reads : ReadsRequest buf h (drop s.len buf)
  pub len : s.len ≡ length (print_request h)
  pub within : s.len ≤ length buf
  pub few : length h.fields ≤ field_limit
  pub method : span_bytes buf s.method ≡ h.method
  pub method_within : IsWithin s.len s.method
  pub target : span_bytes buf s.target ≡ h.target
  pub target_within : IsWithin s.len s.target
  pub framing : s.framing ≡ framing_of h
  pub close : s.close ≡ closes h

-- What bytes begin with: a head of few fields; no head yet, though one may come; or no head of few fields, whatever
-- follows.
abbrev pub IsFront : List ℕ → Front → Type 0
IsFront buf (front.Head s) = (h : RequestHead) × Shows buf h s
IsFront buf front.More = HasNoRequest buf × MayBecomeRequest buf
IsFront buf front.Bad = RequestOverflows field_limit buf
