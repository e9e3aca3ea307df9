-- The four refusals, and their fixed responses.
use Rattle.std.specs.Prelude.{ℕ, List, ◌++◌, codes, Option, Some, None}
use Rattle.http_door.specs.declared.ending.Ending.{Ending}
use Rattle.http_door.specs.declared.ending.Ending.TheVariants as ending
use Rattle.http_door.specs.declared.refusals.Refusal.{Refusal}
use Rattle.http_door.specs.declared.refusals.Refusal.TheVariants as refusal

-- the endings that are refusals
abbrev pub refusal_of : Ending → Option Refusal
refusal_of ending.End = None
refusal_of ending.Cut = None
refusal_of ending.BadHead = Some refusal.BadHead
refusal_of (ending.HeadTooLong n) = Some refusal.HeadTooLong
refusal_of (ending.BodyTooLong n) = Some refusal.BodyTooLong
refusal_of ending.NoLength = Some refusal.NoLength
refusal_of ending.ReadFault = None
refusal_of ending.InputLimit = None
refusal_of ending.NoMemory = None

-- the bytes of the responses: Bad Request, Request Header Fields Too Large, Content Too Large, Length Required
unfoldable pub refusal_response : Refusal → List ℕ
refusal_response refusal.BadHead =
    codes "HTTP/1.1 400 Bad Request\r\ncontent-length: 20\r\n"
    ++ codes "content-type: application/json\r\n\r\n{\"reply\":\"bad-head\"}"
refusal_response refusal.HeadTooLong =
    codes "HTTP/1.1 431 Request Header Fields Too Large\r\ncontent-length: 25\r\n"
    ++ codes "content-type: application/json\r\n\r\n{\"reply\":\"head-too-long\"}"
refusal_response refusal.BodyTooLong =
    codes "HTTP/1.1 413 Payload Too Large\r\ncontent-length: 25\r\n"
    ++ codes "content-type: application/json\r\n\r\n{\"reply\":\"body-too-long\"}"
refusal_response refusal.NoLength =
    codes "HTTP/1.1 411 Length Required\r\ncontent-length: 21\r\n"
    ++ codes "content-type: application/json\r\n\r\n{\"reply\":\"no-length\"}"
