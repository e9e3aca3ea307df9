-- The texts of events and of replies.
use Rattle.std.specs.Prelude.{ℕ, ◌+◌, List, [], ◌∷◌, ◌++◌, length, map, Bool, true, false, if◌then◌else◌, unwrap_or, codes}
use Rattle.std.specs.Fmt.{decimal}
use Rattle.std.specs.List.{flat_map, join_with_byte}
use Rattle.std.specs.Str.{bytes_eq}
use Rattle.hex.specs.Hex.{encode_lower}
use Rattle.farm_kinds.specs.declared.outcomes.Verdict.{Verdict}
use Rattle.farm_kinds.specs.declared.outcomes.Verdict.TheVariants.{Tests, CompilerError}
use Rattle.farm_kinds.specs.declared.outcomes.Answer.{Answer}
use Rattle.farm_kinds.specs.declared.outcomes.Answer.TheVariants.{Final, Pending}
use Rattle.farm_kinds.specs.declared.outcomes.Class.{Class}
use Rattle.farm_kinds.specs.declared.outcomes.Class.TheVariants.{High, Normal, Low}
use Rattle.farm_kinds.specs.declared.outcomes.How.{How}
use Rattle.farm_kinds.specs.declared.outcomes.How.TheVariants as how
use Rattle.farm_kinds.specs.declared.outcomes.MatrixRow.{MatrixRow}
use Rattle.farm_kinds.specs.declared.outcomes.TableRow.{TableRow}
use Rattle.farm_kinds.specs.declared.events.Event.{Event}
use Rattle.farm_kinds.specs.declared.events.Event.TheVariants as event
use Rattle.farm_kinds.specs.declared.events.Reply.{Reply}
use Rattle.farm_kinds.specs.declared.events.Reply.TheVariants as reply
use Rattle.farm_kinds.specs.Actors.{jury_actor}
use Rattle.farm_kinds.specs.Kinds.{name_of}
use Rattle.farm_kinds.specs.Names.{jury}
use Rattle.farm_model.specs.Chain.{audit_text}

-- the words joined by single spaces, and a line feed
abbrev pub line_of : List (List ℕ) → List ℕ
line_of words = join_with_byte 32 words ++ 10 ∷ []

-- Events

-- the class is written where it is not normal
abbrev pub class_words : Class → List (List ℕ)
class_words High = codes "high" ∷ []
class_words Normal = []
class_words Low = codes "low" ∷ []

abbrev pub image_words : Bool → List (List ℕ)
image_words true = codes "broken" ∷ []
image_words false = []

-- the numbers joined by single commas, where there are any
abbrev pub list_words : List ℕ → List (List ℕ)
list_words [] = []
list_words (n ∷ ns) = join_with_byte 44 (map decimal (n ∷ ns)) ∷ []

-- the words of an event, without the name of who acts
abbrev pub event_words : Event → List (List ℕ)
event_words (event.Problem who name tests) = codes "problem" ∷ name ∷ decimal tests ∷ []
event_words (event.Replace who name tests) = codes "replace" ∷ name ∷ decimal tests ∷ []
event_words (event.Host name) = codes "host" ∷ name ∷ []
event_words (event.Submit problem class broken) = codes "submit" ∷ problem ∷ class_words class ++ image_words broken
event_words (event.Claim host) = codes "claim" ∷ host ∷ []
event_words (event.Fetch host most) = codes "fetch" ∷ host ∷ decimal most ∷ []
event_words (event.Result host j test kind) = codes "result" ∷ host ∷ decimal j ∷ decimal test ∷ name_of kind ∷ []
event_words (event.Entry j test kind) = codes "record" ∷ decimal j ∷ decimal test ∷ name_of kind ∷ []
event_words (event.Renew host j test) = codes "renew" ∷ host ∷ decimal j ∷ decimal test ∷ []
event_words (event.Tick moment) = codes "tick" ∷ decimal moment ∷ []
event_words (event.Down host) = codes "down" ∷ host ∷ []
event_words (event.Show j) = codes "show" ∷ decimal j ∷ []
event_words (event.Owner j) = codes "owner" ∷ decimal j ∷ []
event_words event.Board = codes "board" ∷ []
event_words (event.Rejudge who list) = codes "rejudge" ∷ list_words list
event_words (event.Matrix r) = codes "matrix" ∷ decimal r ∷ []
event_words (event.Apply who r) = codes "apply" ∷ decimal r ∷ []
event_words (event.Cancel who r) = codes "cancel" ∷ decimal r ∷ []
event_words (event.Verify who j) = codes "verify" ∷ decimal j ∷ []
event_words (event.Ask who j) = codes "ask" ∷ decimal j ∷ []
event_words event.Audit = codes "audit" ∷ []

-- who acts; the jury where the event is none of the jury's
abbrev pub actor_of : Event → List ℕ
actor_of e = unwrap_or (jury_actor e) jury

-- who acts is written where it is not `jury`
abbrev pub actor_words : List ℕ → List (List ℕ)
actor_words who = if bytes_eq who jury then [] else (64 ∷ who) ∷ []

-- an event as a line, without its line feed
abbrev pub event_text : Event → List ℕ
event_text e = join_with_byte 32 (actor_words (actor_of e) ++ event_words e)

-- what the audit log holds of an event of the jury: who acted, a space, and the words
abbrev pub logged_text : Event → List ℕ
logged_text e = audit_text (actor_of e) (join_with_byte 32 (event_words e))

-- Replies

abbrev pub verdict_text : Verdict → List ℕ
verdict_text (Tests kind) = name_of kind
verdict_text CompilerError = codes "compiler-error"

abbrev pub shown_words : Answer → List (List ℕ)
shown_words (Final verdict) = codes "final" ∷ verdict_text verdict ∷ []
shown_words Pending = codes "pending" ∷ []

-- the verdict, or that it is pending
abbrev pub answer_text : Answer → List ℕ
answer_text (Final verdict) = verdict_text verdict
answer_text Pending = codes "pending"

abbrev pub how_text : How → List ℕ
how_text how.Applied = codes "applied"
how_text how.Cancelled = codes "cancelled"

abbrev pub bad_line_words : List (List ℕ)
bad_line_words = codes "bad-line" ∷ []

-- what a line of over 4,096 bytes is answered
abbrev pub too_long_words : ℕ → List (List ℕ)
too_long_words len = codes "too-long" ∷ decimal len ∷ []

-- the words of a reply, of the last line where it has several
abbrev pub reply_words : Reply → List (List ℕ)
reply_words (reply.Problem name version) = codes "problem" ∷ name ∷ codes "version" ∷ decimal version ∷ []
reply_words (reply.Host name) = codes "host" ∷ name ∷ []
reply_words (reply.Submitted s j) = codes "submission" ∷ decimal s ∷ codes "judging" ∷ decimal j ∷ []
reply_words (reply.Handed task until) =
    codes "task" ∷ decimal task.judging ∷ decimal task.test ∷ codes "until" ∷ decimal until ∷ []
reply_words (reply.Batch judging tests until) =
    codes "batch" ∷ decimal judging ∷ list_words tests ++ codes "until" ∷ decimal until ∷ []
reply_words reply.Nothing = codes "nothing" ∷ []
reply_words reply.Counted = codes "counted" ∷ []
reply_words (reply.Repeat kept) = codes "repeat" ∷ name_of kept ∷ []
reply_words (reply.Differs kept given) = codes "differs" ∷ name_of kept ∷ name_of given ∷ []
reply_words reply.Dropped = codes "dropped" ∷ []
reply_words (reply.Until until) = codes "until" ∷ decimal until ∷ []
reply_words (reply.Ended count) = codes "ended" ∷ decimal count ∷ []
reply_words (reply.Shown answer) = shown_words answer
reply_words (reply.Owned submission) = codes "owner" ∷ decimal submission ∷ []
reply_words (reply.Board rows) = codes "board" ∷ decimal (length rows) ∷ []
reply_words (reply.Rejudging number first last) =
    codes "rejudging" ∷ decimal number ∷ codes "judgings" ∷ decimal first ∷ codes "to" ∷ decimal last ∷ []
reply_words (reply.Matrix rows members) = codes "matrix" ∷ decimal members ∷ []
reply_words (reply.Applied members) = codes "applied" ∷ decimal members ∷ []
reply_words (reply.Cancelled members) = codes "cancelled" ∷ decimal members ∷ []
reply_words (reply.Verified j) = codes "verified" ∷ decimal j ∷ []
reply_words (reply.Audit count head) = codes "audit" ∷ decimal count ∷ encode_lower head ∷ []
reply_words (reply.BadTests tests) = codes "bad-tests" ∷ decimal tests ∷ []
reply_words (reply.Known name) = codes "known" ∷ name ∷ []
reply_words (reply.NoProblem name) = codes "no-problem" ∷ name ∷ []
reply_words (reply.NoHost name) = codes "no-host" ∷ name ∷ []
reply_words (reply.Full limit) = codes "full" ∷ decimal limit ∷ []
reply_words (reply.Holding limit) = codes "holding" ∷ decimal limit ∷ []
reply_words (reply.NoJudging j) = codes "no-judging" ∷ decimal j ∷ []
reply_words (reply.NoTest test) = codes "no-test" ∷ decimal test ∷ []
reply_words reply.NotHanded = codes "not-handed" ∷ []
reply_words reply.NoLease = codes "no-lease" ∷ []
reply_words reply.EmptySet = codes "empty-set" ∷ []
reply_words (reply.NoSubmission s) = codes "no-submission" ∷ decimal s ∷ []
reply_words (reply.Twice s) = codes "twice" ∷ decimal s ∷ []
reply_words (reply.NotFinal n) = codes "not-final" ∷ decimal n ∷ []
reply_words (reply.Busy s r) = codes "busy" ∷ decimal s ∷ decimal r ∷ []
reply_words (reply.NoRejudging r) = codes "no-rejudging" ∷ decimal r ∷ []
reply_words (reply.Closed h) = codes "closed" ∷ how_text h ∷ []
reply_words (reply.Unfinished j) = codes "unfinished" ∷ decimal j ∷ []
reply_words (reply.Already j) = codes "already" ∷ decimal j ∷ []
-- no line is answered with it
reply_words reply.NoMemory = []

-- a line for each answer, behind the number of its submission
abbrev pub board_lines : ℕ → List Answer → List ℕ
board_lines n [] = []
board_lines n (answer ∷ answers) = line_of (decimal n ∷ answer_text answer ∷ []) ++ board_lines (n + 1) answers

abbrev pub matrix_line : MatrixRow → List ℕ
matrix_line row = line_of (answer_text row.old ∷ answer_text row.new ∷ decimal row.count ∷ [])

-- the lines of a reply before its last one
abbrev pub rows_text : Reply → List ℕ
rows_text (reply.Board rows) = board_lines 1 rows
rows_text (reply.Matrix rows members) = flat_map matrix_line rows
rows_text r = []

-- the lines of a reply
abbrev pub reply_text : Reply → List ℕ
reply_text r = rows_text r ++ line_of (reply_words r)

-- Tables of verdicts

-- the number of a submission, its team, its problem and its verdict
abbrev pub table_line : TableRow → List ℕ
table_line row = line_of (decimal row.number ∷ row.team ∷ row.problem ∷ verdict_text row.verdict ∷ [])

-- the lines of a table
abbrev pub table_text : List TableRow → List ℕ
table_text rows = flat_map table_line rows
