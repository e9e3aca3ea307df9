-- What a reader of requests stands for.
use Rattle.std.specs.Prelude.{◌≡◌, ℕ, ◌+◌, ◌-◌, ◌≤◌, List, [], length, Option, IfSome}
use Rattle.farm_io.specs.Lines.{input_limit}
use Rattle.http_door.specs.declared.ending.Ending.{Ending}
use Rattle.http_door.specs.Fields.{body_limit}
use Rattle.http_door.specs.Heads.{head_limit}
use Rattle.http_door.specs.Requests.{EndsAs}

pub record ReaderValue : Type 0 where
  -- taken from the source, and in no request yet
  pub ahead : List ℕ
  -- how many bytes were taken in all
  pub taken : ℕ
  -- the body of the last request
  pub body : List ℕ
  -- why no more requests are given
  pub ended : Option Ending
  -- how many bytes it can hold
  pub room : ℕ

-- the most bytes that a reader can hold: a head and a body
abbrev pub room_limit : ℕ
room_limit = head_limit + body_limit

-- how many bytes may still be read at most
abbrev pub budget : ReaderValue → ℕ
budget r = (input_limit - r.taken) + length r.ahead

-- a reader that has ended holds what ended it, and no body
pub record IsReadable (r : ReaderValue) : Type 0 where
  pub few : r.taken ≤ input_limit
  pub small : r.room ≤ room_limit
  pub ends : IfSome r.ended (λ e. EndsAs e r.ahead)
  pub bare : IfSome r.ended (λ e. r.body ≡ [])
