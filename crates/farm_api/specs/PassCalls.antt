-- What is entered on a board, as calls of a pass.
use Rattle.std.specs.Prelude.{◌≡◌, ◌≢◌, ℕ, ◌+◌, false, List, [], ◌++◌, length, map}
use mathlib.Core.List.{IsPrefix}
use mathlib.Core.Logic.{inl, inr}
use Rattle.farm_kinds.specs.declared.events.Event.{Event}
use Rattle.farm_kinds.specs.declared.events.Event.TheVariants as event
use Rattle.farm_kinds.specs.declared.events.Reply.{Reply}
use Rattle.farm_board.specs.Histories.{IsLegal, entries_by}
use Rattle.farm_board.specs.Passes.{PassValue, Calls, call_of}
use Rattle.farm_board.specs.declared.entries.HistoryEntry.{HistoryEntry}
use Rattle.farm_board.specs.declared.entries.HistoryEntry.TheVariants as entry
use Rattle.farm_api.specs.Entering.{Entered}

-- what is called for what is entered: a look asks for the board
abbrev pub event_in : Entered → Event
event_in (inl x) = x.event
event_in (inr r) = event.Board

abbrev pub reply_in : Entered → Reply
reply_in (inl x) = x.reply
reply_in (inr r) = r

-- what the pass with this number entered, as its call
abbrev pub entry_of : ℕ → Entered → HistoryEntry
entry_of number x = entry.Call (call_of number (event_in x) (reply_in x))

-- a call for what is entered leads from a pass to a pass that has no turn
abbrev pub PassSteps : PassValue → Entered → PassValue → Type 0
PassSteps old x new = Calls old new (event_in x) (reply_in x) × (new.kept ≡ false)

-- The pass makes a call for each of these, one after the other, and nothing else. What it has seen then begins with
-- what it had seen, and once there is a call it is a legal history, in which the entries of the pass's number are its
-- own. Behind a call it has no turn of the board, so that others are answered.
pub record MakesCalls (old : PassValue) (made : List Entered) (new : PassValue) : Type 0 where
  pub mine : new.mine ≡ old.mine ++ map (entry_of old.number) made
  pub seen : IsPrefix old.seen new.seen
  pub legal : made ≢ [] → IsLegal old.start new.seen
  pub own : made ≢ [] → entries_by old.number new.seen ≡ new.mine
  pub none : made ≡ [] → new ≡ old
  pub turn : made ≢ [] → new.kept ≡ false
  pub left : new.left + length made ≡ old.left
  pub spare : new.spare ≡ old.spare
  pub board : new.board ≡ old.board
  pub number : new.number ≡ old.number
  pub start : new.start ≡ old.start
