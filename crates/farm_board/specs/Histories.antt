-- Histories of a board, and which are legal.
use Rattle.std.specs.Prelude.{◌≡◌, ◌≢◌, ℕ, ◌+◌, ◌<◌, ◌≤◌, ◌⊎◌, ◌==◌, ◌||◌, Bool, true, false, Option, None, Some, List, [], ◌∷◌, ◌++◌, length, if◌then◌else◌}
use Rattle.farm_model.specs.State.{State}
use Rattle.farm_model.specs.Farm.{farm_step, MayWant}
use Rattle.farm_kinds.specs.declared.events.Event.{Event}
use Rattle.farm_kinds.specs.declared.events.Reply.{Reply}
use Rattle.farm_kinds.specs.declared.events.Reply.TheVariants as reply
use Rattle.farm_board.specs.BoardState.{BoardState}
use Rattle.farm_board.specs.declared.entries.Call.{Call}
use Rattle.farm_board.specs.declared.entries.HistoryEntry.{HistoryEntry}
use Rattle.farm_board.specs.declared.entries.HistoryEntry.TheVariants as entry

-- the reply says that memory ran out
abbrev pub is_no_memory : Reply → Bool
is_no_memory reply.NoMemory = true
is_no_memory r = false

-- The opening

abbrev pub empty_journal : Bool → Option (List Call)
empty_journal true = Some []
empty_journal false = None

-- a board with this farm: pass 0 alone is out
abbrev pub opening_board : State → ℕ → Bool → BoardState
opening_board farm seats journal =
    record { state = farm; seats = seats; out = 0 ∷ []; given = 0; journal = empty_journal journal }

-- what holds of every such board
pub record IsOpening (s : BoardState) : Type 0 where
  pub out : s.out ≡ 0 ∷ []
  pub given : s.given ≡ 0
  pub seats : s.seats < 65536

-- One entry

-- the number of the pass that makes the entry
abbrev pub pass_number : HistoryEntry → ℕ
pass_number (entry.Call call) = call.number
pass_number (entry.Split number new) = number
pass_number (entry.Join number old) = number

abbrev pub is_in : ℕ → List ℕ → Bool
is_in n [] = false
is_in n (x ∷ xs) = (n == x) || is_in n xs

-- the list without the first n in it
abbrev pub without : ℕ → List ℕ → List ℕ
without n [] = []
without n (x ∷ xs) = if n == x then xs else x ∷ without n xs

abbrev pub IsOut : ℕ → BoardState → Type 0
IsOut n s = is_in n s.out ≡ true

abbrev pub journal_with_call : Option (List Call) → Call → Option (List Call)
journal_with_call None call = None
journal_with_call (Some calls) call = Some (calls ++ call ∷ [])

-- the board after a call; one that ran out of memory changes nothing
abbrev pub board_after_call : Bool → BoardState → Call → BoardState
board_after_call true s call = s
board_after_call false s call =
    record s { state = (farm_step s.state call.event).0; journal = journal_with_call s.journal call }

-- the board after one more entry
abbrev pub next_board : BoardState → HistoryEntry → BoardState
next_board s (entry.Call call) = board_after_call (is_no_memory call.reply) s call
next_board s (entry.Split number new) = record s { out = s.out ++ new ∷ []; given = s.given + 1 }
next_board s (entry.Join number old) = record s { out = without old s.out }

-- memory may run out: the event takes it and is not refused, or a journal is kept
abbrev pub MayLackMemory : BoardState → Event → Type 0
MayLackMemory s event = MayWant s.state event ⊎ (s.journal ≢ None)

-- the reply is the farm's at this point, or memory ran out
pub record IsReply (s : BoardState) (event : Event) (r : Reply) : Type 0 where
  pub no_memory : r ≡ reply.NoMemory → MayLackMemory s event
  pub answer : r ≢ reply.NoMemory → r ≡ (farm_step s.state event).1

-- the entry may come next
abbrev pub IsNext : BoardState → HistoryEntry → Type 0
IsNext s (entry.Call call) = IsOut call.number s × IsReply s call.event call.reply
IsNext s (entry.Split number new) = IsOut number s × (length s.out < s.seats) × (new ≡ s.given + 1)
IsNext s (entry.Join number old) = IsOut number s × IsOut old s × (old ≢ number)

-- Histories

-- the board after the entries
abbrev pub board_after : BoardState → List HistoryEntry → BoardState
board_after s [] = s
board_after s (e ∷ es) = board_after (next_board s e) es

-- each entry may come where it stands
abbrev pub IsLegal : BoardState → List HistoryEntry → Type 0
IsLegal s [] = Unit {0}
IsLegal s (e ∷ es) = IsNext s e × IsLegal (next_board s e) es

-- the entries of one number
abbrev pub entries_by : ℕ → List HistoryEntry → List HistoryEntry
entries_by n [] = []
entries_by n (e ∷ es) = if pass_number e == n then e ∷ entries_by n es else entries_by n es

abbrev pub call_unless : Bool → Call → List Call → List Call
call_unless true call calls = calls
call_unless false call calls = call ∷ calls

-- the calls of a history, those that ran out of memory left out
abbrev pub effective_calls : List HistoryEntry → List Call
effective_calls [] = []
effective_calls (entry.Call call ∷ es) = call_unless (is_no_memory call.reply) call (effective_calls es)
effective_calls (entry.Split number new ∷ es) = effective_calls es
effective_calls (entry.Join number old ∷ es) = effective_calls es

-- the journal with these calls behind it, where one is kept
abbrev pub journal_with_calls : Option (List Call) → List Call → Option (List Call)
journal_with_calls None more = None
journal_with_calls (Some calls) more = Some (calls ++ more)

-- no other pass is out
abbrev pub IsAlone : ℕ → BoardState → Type 0
IsAlone n s = (m : ℕ) → IsOut m s → m ≡ n

-- each number that is out was given
abbrev pub OutWereGiven : BoardState → Type 0
OutWereGiven s = (n : ℕ) → IsOut n s → n ≤ s.given

-- What callers say of a whole history

-- no number above k is out
abbrev pub IsOutWithin : ℕ → BoardState → Type 0
IsOutWithin k s = (n : ℕ) → IsOut n s → n ≤ k

-- the entry gives no number above k
abbrev pub GivesAtMost : ℕ → HistoryEntry → Type 0
GivesAtMost k (entry.Call call) = Unit {0}
GivesAtMost k (entry.Split number new) = new ≤ k
GivesAtMost k (entry.Join number old) = Unit {0}

-- the number was given, and its pass was joined
pub record IsGone (n : ℕ) (s : BoardState) : Type 0 where
  pub given : n ≤ s.given
  pub out : is_in n s.out ≡ false
