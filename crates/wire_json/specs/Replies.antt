-- The JSON form of replies.
use Rattle.std.specs.Prelude.{ℕ, ◌+◌, List, [], ◌∷◌, codes, map}
use Rattle.hex.specs.Hex.{encode_lower}
use Rattle.serde_json.specs.Data.{Data, null, string, array}
use Rattle.serde_json.specs.View.{items_of}
use Rattle.farm_kinds.specs.declared.outcomes.Answer.{Answer}
use Rattle.farm_kinds.specs.declared.outcomes.Answer.TheVariants.{Final, Pending}
use Rattle.farm_kinds.specs.declared.outcomes.MatrixRow.{MatrixRow}
use Rattle.farm_kinds.specs.declared.events.Reply.{Reply}
use Rattle.farm_kinds.specs.declared.events.Reply.TheVariants as reply
use Rattle.farm_kinds.specs.Kinds.{name_of}
use Rattle.farm_model.specs.Texts.{verdict_text, answer_text, how_text}
use Rattle.wire_json.specs.Objects.{object_with, whole, reply_field}

-- a row of a board: the number of a submission and what the public sees of it
abbrev pub board_row : ℕ → Answer → Data
board_row n answer = object_with ((codes "submission", whole n) ∷ (codes "verdict", string (answer_text answer)) ∷ [])

-- a row for each answer, from this number on
abbrev pub board_rows : ℕ → List Answer → List Data
board_rows n [] = []
board_rows n (answer ∷ answers) = board_row n answer ∷ board_rows (n + 1) answers

abbrev pub matrix_row : MatrixRow → Data
matrix_row row =
    object_with ((codes "count", whole row.count) ∷ (codes "new", string (answer_text row.new))
    ∷ (codes "old", string (answer_text row.old)) ∷ [])

-- what is reported of a judging
abbrev pub shown_json : Answer → Data
shown_json (Final verdict) =
    object_with (reply_field (codes "final") ∷ (codes "verdict", string (verdict_text verdict)) ∷ [])
shown_json Pending = object_with (reply_field (codes "pending") ∷ [])

-- the JSON form of a reply
abbrev pub json_of : Reply → Data
json_of (reply.Problem name version) =
    object_with ((codes "name", string name) ∷ reply_field (codes "problem") ∷ (codes "version", whole version) ∷ [])
json_of (reply.Host name) = object_with ((codes "host", string name) ∷ reply_field (codes "host") ∷ [])
json_of (reply.Submitted submission judging) =
    object_with ((codes "judging", whole judging) ∷ reply_field (codes "submission")
    ∷ (codes "submission", whole submission) ∷ [])
json_of (reply.Handed task until) =
    object_with ((codes "judging", whole task.judging) ∷ reply_field (codes "task") ∷ (codes "test", whole task.test)
    ∷ (codes "until", whole until) ∷ [])
json_of (reply.Batch judging tests until) =
    object_with ((codes "judging", whole judging) ∷ reply_field (codes "batch")
    ∷ (codes "tests", array (items_of (map whole tests))) ∷ (codes "until", whole until) ∷ [])
json_of reply.Nothing = object_with (reply_field (codes "nothing") ∷ [])
json_of reply.Counted = object_with (reply_field (codes "counted") ∷ [])
json_of (reply.Repeat kept) = object_with ((codes "kept", string (name_of kept)) ∷ reply_field (codes "repeat") ∷ [])
json_of (reply.Differs kept given) =
    object_with ((codes "given", string (name_of given)) ∷ (codes "kept", string (name_of kept))
    ∷ reply_field (codes "differs") ∷ [])
json_of reply.Dropped = object_with (reply_field (codes "dropped") ∷ [])
json_of (reply.Until until) = object_with (reply_field (codes "until") ∷ (codes "until", whole until) ∷ [])
json_of (reply.Ended count) = object_with ((codes "count", whole count) ∷ reply_field (codes "ended") ∷ [])
json_of (reply.Shown answer) = shown_json answer
json_of (reply.Owned submission) =
    object_with (reply_field (codes "owner") ∷ (codes "submission", whole submission) ∷ [])
json_of (reply.Board rows) =
    object_with (reply_field (codes "board") ∷ (codes "rows", array (items_of (board_rows 1 rows))) ∷ [])
json_of (reply.Rejudging number first last) =
    object_with ((codes "first", whole first) ∷ (codes "last", whole last) ∷ (codes "number", whole number)
    ∷ reply_field (codes "rejudging") ∷ [])
json_of (reply.Matrix rows members) =
    object_with ((codes "members", whole members) ∷ reply_field (codes "matrix")
    ∷ (codes "rows", array (items_of (map matrix_row rows))) ∷ [])
json_of (reply.Applied members) = object_with ((codes "members", whole members) ∷ reply_field (codes "applied") ∷ [])
json_of (reply.Cancelled members) =
    object_with ((codes "members", whole members) ∷ reply_field (codes "cancelled") ∷ [])
json_of (reply.Verified judging) = object_with ((codes "judging", whole judging) ∷ reply_field (codes "verified") ∷ [])
json_of (reply.Audit count head) =
    object_with ((codes "count", whole count) ∷ (codes "head", string (encode_lower head))
    ∷ reply_field (codes "audit") ∷ [])
json_of (reply.BadTests tests) = object_with (reply_field (codes "bad-tests") ∷ (codes "tests", whole tests) ∷ [])
json_of (reply.Known name) = object_with ((codes "name", string name) ∷ reply_field (codes "known") ∷ [])
json_of (reply.NoProblem name) = object_with ((codes "name", string name) ∷ reply_field (codes "no-problem") ∷ [])
json_of (reply.NoHost name) = object_with ((codes "name", string name) ∷ reply_field (codes "no-host") ∷ [])
json_of (reply.Full limit) = object_with ((codes "limit", whole limit) ∷ reply_field (codes "full") ∷ [])
json_of (reply.Holding limit) = object_with ((codes "limit", whole limit) ∷ reply_field (codes "holding") ∷ [])
json_of (reply.NoJudging judging) =
    object_with ((codes "judging", whole judging) ∷ reply_field (codes "no-judging") ∷ [])
json_of (reply.NoTest test) = object_with (reply_field (codes "no-test") ∷ (codes "test", whole test) ∷ [])
json_of reply.NotHanded = object_with (reply_field (codes "not-handed") ∷ [])
json_of reply.NoLease = object_with (reply_field (codes "no-lease") ∷ [])
json_of reply.EmptySet = object_with (reply_field (codes "empty-set") ∷ [])
json_of (reply.NoSubmission submission) =
    object_with (reply_field (codes "no-submission") ∷ (codes "submission", whole submission) ∷ [])
json_of (reply.Twice submission) =
    object_with (reply_field (codes "twice") ∷ (codes "submission", whole submission) ∷ [])
json_of (reply.NotFinal number) = object_with ((codes "number", whole number) ∷ reply_field (codes "not-final") ∷ [])
json_of (reply.Busy submission rejudging) =
    object_with ((codes "rejudging", whole rejudging) ∷ reply_field (codes "busy")
    ∷ (codes "submission", whole submission) ∷ [])
json_of (reply.NoRejudging rejudging) =
    object_with ((codes "rejudging", whole rejudging) ∷ reply_field (codes "no-rejudging") ∷ [])
json_of (reply.Closed how) = object_with ((codes "how", string (how_text how)) ∷ reply_field (codes "closed") ∷ [])
json_of (reply.Unfinished judging) =
    object_with ((codes "judging", whole judging) ∷ reply_field (codes "unfinished") ∷ [])
json_of (reply.Already judging) = object_with ((codes "judging", whole judging) ∷ reply_field (codes "already") ∷ [])
-- no response has the form of this one
json_of reply.NoMemory = null
