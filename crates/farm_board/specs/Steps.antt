-- What each atomic step tells its pass, and what a whole turn does.
use Rattle.std.specs.Prelude.{◌≡◌, ◌≢◌, ℕ, ◌+◌, ◌^◌, ◌<◌, ◌≤◌, Option, Some, List, [], ◌∷◌, length}
use mathlib.Core.List.{IsPrefix}
use Rattle.atomic_table.specs.Table.{Me, Step, rest}
use Rattle.farm_board.specs.BoardState.{BoardState}
use Rattle.farm_board.specs.Histories.{board_after, IsLegal, IsNext, IsOut, OutWereGiven, entries_by}
use Rattle.farm_board.specs.Views.{with_ticket, with_turn, with_coming, with_entry, with_kept_ticket, without_ticket}
use Rattle.farm_board.specs.Rules.{HasNumber, IsTakenIn}
use Rattle.farm_board.specs.declared.entries.HistoryEntry.{HistoryEntry}
use Rattle.farm_board.specs.declared.view.View.{View}

-- what is known of the whole history to the pass that has the turn
pub record KnowsHistory (v : View) (history : List HistoryEntry) : Type 0 where
  pub longer : IsPrefix v.seen history
  pub legal : IsLegal v.start.value history
  pub mine : entries_by v.number history ≡ v.mine
  pub taken_in : (n : ℕ) → v.taken_in ≡ Some n → IsTakenIn history v n
  pub out : (n : ℕ) → HasNumber n v → IsOut n (board_after v.start.value history)
  pub room : length (board_after v.start.value history).out + v.spare ≤ v.start.value.seats
  pub small : v.start.value.seats < 65536
  -- the next number can be given, and no entry has it yet
  pub few : (board_after v.start.value history).given ≤ 2 ^ 62
  pub given : OutWereGiven (board_after v.start.value history)
  pub fresh : entries_by ((board_after v.start.value history).given + 1) history ≡ []

-- whoever gets the turn sees the whole history, and takes what lay in the slot
pub record GetsTurn {S : Type 0} (state_of : S → BoardState) (m m' : Me (Option S) View) : Type 0 where
  pub history : List HistoryEntry
  pub held : S
  pub view : m'.0 ≡ with_turn m.0 history
  pub slot : m'.1 ≡ (0, Some held) ∷ []
  pub now : state_of held ≡ board_after m.0.start.value history
  pub bound : m.0.left < 2 ^ 62
  pub knows : KnowsHistory m.0 history

-- The steps

-- a ticket was drawn
abbrev pub DrawsTicket : {S : Type 0} → Step (Option S) → Me (Option S) View → ℕ → Me (Option S) View → Type 0
DrawsTicket step m found m' = m' ≡ (with_ticket m.0 found, m.1)

-- where the turns served have come to the ticket, it is its turn
abbrev pub LooksForTurn : {S : Type 0} → (S → BoardState) → Step (Option S) → Me (Option S) View → ℕ
    → Me (Option S) View → Type 0
LooksForTurn state_of step m found m' =
    (m.0.ticket ≡ Some found → GetsTurn state_of m m') × (m.0.ticket ≢ Some found → m' ≡ m)

-- the ticket that was kept serves for one more call, whose turn has come
abbrev pub GoesOn : {S : Type 0} → (S → BoardState) → Step (Option S) → Me (Option S) View → ℕ
    → Me (Option S) View → Type 0
GoesOn state_of step m found m' = GetsTurn state_of (with_ticket m.0 found, m.1) m'

-- the entry is the one to come
abbrev pub MarksEntry : {S : Type 0} → HistoryEntry → Step (Option S) → Me (Option S) View → ℕ → Me (Option S) View → Type 0
MarksEntry e step m found m' = m' ≡ (with_coming m.0 e, m.1)

-- the entry to come joined the history
abbrev pub FinishesTurn : {S : Type 0} → Step (Option S) → Me (Option S) View → ℕ → Me (Option S) View → Type 0
FinishesTurn step m found m' = (e : HistoryEntry) → m.0.coming ≡ Some e → m' ≡ (with_entry m.0 e, rest m.1)

-- the entry to come joined the history, and the ticket is kept
abbrev pub KeepsTicket : {S : Type 0} → Step (Option S) → Me (Option S) View → ℕ → Me (Option S) View → Type 0
KeepsTicket step m found m' = (e : HistoryEntry) → m.0.coming ≡ Some e → m' ≡ (with_kept_ticket m.0 e, rest m.1)

-- the ticket that was kept was given up
abbrev pub GivesTicketUp : {S : Type 0} → Step (Option S) → Me (Option S) View → ℕ → Me (Option S) View → Type 0
GivesTicketUp step m found m' = m' ≡ (without_ticket m.0, m.1)

-- A whole turn

-- A ticket was drawn and its turn came: the pass has seen the whole history, and the board that lay in the slot is the
-- one after it.
pub record InTurn (v w : View) (now : BoardState) : Type 0 where
  pub ticket : ℕ
  pub history : List HistoryEntry
  pub view : w ≡ with_turn (with_ticket v ticket) history
  pub board : now ≡ board_after v.start.value history
  pub bound : w.left < 2 ^ 62
  pub knows : KnowsHistory v history

-- the view at the end of a turn
abbrev pub view_after_turn : View → ℕ → List HistoryEntry → HistoryEntry → View
view_after_turn v k history e = with_entry (with_coming (with_turn (with_ticket v k) history) e) e

-- the view at the end of a call that keeps its ticket
abbrev pub view_after_kept_turn : View → ℕ → List HistoryEntry → HistoryEntry → View
view_after_kept_turn v k history e = with_kept_ticket (with_coming (with_turn (with_ticket v k) history) e) e

-- a turn has ended, in which the entry came
pub record EndsTurn (v w : View) (e : HistoryEntry) : Type 0 where
  pub ticket : ℕ
  pub history : List HistoryEntry
  pub view : w ≡ view_after_turn v ticket history e
  pub knows : KnowsHistory v history
  pub next : IsNext (board_after v.start.value history) e
  pub bound : w.left < 2 ^ 62

-- the entry came, and the ticket was kept
pub record KeepsTurn (v w : View) (e : HistoryEntry) : Type 0 where
  pub ticket : ℕ
  pub history : List HistoryEntry
  pub view : w ≡ view_after_kept_turn v ticket history e
  pub knows : KnowsHistory v history
  pub next : IsNext (board_after v.start.value history) e
  pub bound : w.left < 2 ^ 62
