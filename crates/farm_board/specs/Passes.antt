-- Passes of a board, and what each call of the board does to them.
use Rattle.std.specs.Prelude.{◌≡◌, ◌≢◌, ℕ, ◌+◌, ◌-◌, ◌^◌, ◌<◌, ◌≤◌, Bool, false, Some, None, List, [], ◌∷◌, ◌++◌, length}
use mathlib.Core.List.{IsPrefix}
use Rattle.atomic_table.specs.Seated.{TableId}
use Rattle.farm_kinds.specs.declared.events.Event.{Event}
use Rattle.farm_kinds.specs.declared.events.Reply.{Reply}
use Rattle.farm_kinds.specs.declared.events.Reply.TheVariants as replies
use Rattle.farm_model.specs.State.{State}
use Rattle.farm_model.specs.Farm.{farm_step}
use Rattle.farm_board.specs.BoardState.{BoardState}
use Rattle.farm_board.specs.Histories.{board_after, IsLegal, IsOut, IsGone, entries_by}
use Rattle.farm_board.specs.Views.{IsResting}
use Rattle.farm_board.specs.declared.entries.Call.{Call}
use Rattle.farm_board.specs.declared.entries.HistoryEntry.{HistoryEntry}
use Rattle.farm_board.specs.declared.entries.HistoryEntry.TheVariants as entry
use Rattle.farm_board.specs.declared.view.View.{View}

-- tells boards apart
abbrev pub BoardId : Type 0
BoardId = TableId

-- what contracts see of a board
pub record BoardValue (R : Type 0) : Type 0 where
  pub id : BoardId
  pub trust : R

-- what contracts see of a pass
pub record PassValue : Type 0 where
  -- the board that it is a pass of
  pub board : BoardId
  pub number : ℕ
  -- what the board began with
  pub start : BoardState
  -- the history as far as the pass knows it
  pub seen : List HistoryEntry
  -- the pass's own entries
  pub mine : List HistoryEntry
  -- how many passes it may split off
  pub spare : ℕ
  -- how many calls it may still make
  pub left : ℕ
  -- it has kept its turn: no other pass is answered
  pub kept : Bool

-- the opening pass has seen nothing
abbrev pub opening_pass : BoardId → BoardState → PassValue
opening_pass board start = record {
  board = board;
  number = 0;
  start = start;
  seen = [];
  mine = [];
  spare = start.seats - 1;
  left = 2 ^ 62;
  kept = false;
}

-- the pass without a turn of its own
abbrev pub at_rest : PassValue → PassValue
at_rest pass = record pass { kept = false }

-- the board after what the pass has seen
abbrev pub board_seen : PassValue → BoardState
board_seen pass = board_after pass.start pass.seen

abbrev pub call_of : ℕ → Event → Reply → Call
call_of number event reply = record { number = number; event = event; reply = reply }

-- What each call does

-- The history that the pass has seen begins with what it had seen before, is legal, and ends with the entry, by which
-- alone its own entries grow. These are all that the history has of its number.
pub record GrowsBy (old new : PassValue) (e : HistoryEntry) : Type 0 where
  pub between : List HistoryEntry
  pub seen : new.seen ≡ (old.seen ++ between) ++ e ∷ []
  pub legal : IsLegal old.start new.seen
  pub mine : new.mine ≡ old.mine ++ e ∷ []
  pub own : entries_by old.number new.seen ≡ new.mine
  pub board : new.board ≡ old.board
  pub number : new.number ≡ old.number
  pub start : new.start ≡ old.start

-- the pass makes a call
pub record Calls (old new : PassValue) (event : Event) (reply : Reply) : Type 0 where
  pub grows : GrowsBy old new (entry.Call (call_of old.number event reply))
  pub left : new.left + 1 ≡ old.left
  pub spare : new.spare ≡ old.spare

-- the pass splits off another, which has seen as much and made no entry
pub record SplitsOff (old new other : PassValue) (share : ℕ) : Type 0 where
  pub grows : GrowsBy old new (entry.Split old.number other.number)
  pub left : new.left + (share + 1) ≡ old.left
  pub spare : new.spare + 1 ≡ old.spare
  pub other_board : other.board ≡ old.board
  pub other_start : other.start ≡ old.start
  pub other_seen : other.seen ≡ new.seen
  pub other_mine : other.mine ≡ []
  pub other_spare : other.spare ≡ 0
  pub other_left : other.left ≡ share

-- The pass takes another in. The history begins with what either had seen, and the entries that it has of the other's
-- number are those that the other made.
pub record TakesIn (old other new : PassValue) : Type 0 where
  pub before : List HistoryEntry
  pub seen : new.seen ≡ before ++ entry.Join old.number other.number ∷ []
  pub begins : IsPrefix old.seen before
  pub other_begins : IsPrefix other.seen before
  pub legal : IsLegal old.start new.seen
  pub mine : new.mine ≡ old.mine ++ entry.Join old.number other.number ∷ []
  pub own : entries_by old.number new.seen ≡ new.mine
  pub other_own : entries_by other.number new.seen ≡ other.mine
  pub left : new.left + 1 ≡ old.left + other.left
  pub spare : new.spare ≡ old.spare + other.spare + 1
  pub board : new.board ≡ old.board
  pub number : new.number ≡ old.number
  pub start : new.start ≡ old.start

-- the pass of this number was joined, and the history has these entries of it
pub record IsJoined (n : ℕ) (pass : PassValue) (its : List HistoryEntry) : Type 0 where
  pub gone : IsGone n (board_seen pass)
  pub entries : entries_by n pass.seen ≡ its

-- Seats

-- the seat is one of the table's, which is of a board's shape
abbrev pub IsSeated : TableId → TableId → Type 0
IsSeated seat table = (seat ≡ table) × (table.words ≡ 2) × (table.slots ≡ 1)

-- the pass of a seat with this view
abbrev pub pass_of : BoardId → View → PassValue
pass_of board v = record {
  board = board;
  number = v.number;
  start = v.start.value;
  seen = v.seen;
  mine = v.mine;
  spare = v.spare;
  left = v.left;
  kept = v.kept;
}

-- what is kept of a view between the calls of its pass
pub record IsSoundView (v : View) : Type 0 where
  pub own : entries_by v.number v.seen ≡ v.mine
  pub out : IsOut v.number (board_after v.start.value v.seen)
  pub room : length (board_after v.start.value v.seen).out + v.spare ≤ v.start.value.seats
  pub small : v.start.value.seats < 65536
  pub few : v.left ≤ 2 ^ 62

-- the view is that of a pass that is about to split off one with this number
pub record IsGiving (n : ℕ) (v : View) : Type 0 where
  pub resting : IsResting v
  pub to_give : v.to_give ≡ Some n
  pub taken_in : v.taken_in ≡ None

-- The journal

-- the farm answered the event and the call was noted, or memory ran out and neither changed
pub record Noted (farm : State) (calls : List Call) (number : ℕ) (event : Event) (reply : Reply)
    (farm' : State) (calls' : List Call) : Type 0 where
  pub unchanged : reply ≡ replies.NoMemory → (farm' ≡ farm) × (calls' ≡ calls)
  pub state : reply ≢ replies.NoMemory → farm' ≡ (farm_step farm event).0
  pub answer : reply ≢ replies.NoMemory → reply ≡ (farm_step farm event).1
  pub noted : reply ≢ replies.NoMemory → calls' ≡ calls ++ call_of number event reply ∷ []
