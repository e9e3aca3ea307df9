-- The rule of the board: what holds of its two words, its slot and all views, between any two steps.
-- Word 0 counts the tickets that were drawn, and word 1 those that were served. An entry joins the history in the turn
-- of a ticket, which may go on for more of them.
use Rattle.std.specs.Prelude.{◌≡◌, ◌≢◌, ℕ, ◌+◌, ◌^◌, ◌<◌, ◌≤◌, ◌⊎◌, true, false, Option, None, Some, List, [], ◌∷◌, length}
use mathlib.Core.Option.{some}
use mathlib.Core.List.{IsPrefix}
use lib.ListN.{get_elem?}
use Rattle.atomic_table.specs.Table.{State}
use Rattle.farm_board.specs.Homes.{Home}
use Rattle.farm_board.specs.BoardState.{BoardState}
use Rattle.farm_board.specs.Histories.{board_after, IsLegal, IsNext, IsOut, entries_by, pass_number, IsOpening}
use Rattle.farm_board.specs.Views.{Suits}
use Rattle.farm_board.specs.declared.entries.HistoryEntry.{HistoryEntry}
use Rattle.farm_board.specs.declared.view.View.{View}

-- One view

-- the view has the turn, and the entry may come next
pub record IsComing (s : BoardState) (v : View) (e : HistoryEntry) : Type 0 where
  pub turn : v.turn ≡ true
  pub own : pass_number e ≡ v.number
  pub next : IsNext s e
  pub suits : Suits e v

-- the number is the view's own, the one that it has to give, or the one that it has taken in
abbrev pub HasNumber : ℕ → View → Type 0
HasNumber n v = (n ≡ v.number) ⊎ ((v.to_give ≡ Some n) ⊎ (v.taken_in ≡ Some n))

-- the history has no entries of a number to give
abbrev pub IsNewNumber : List HistoryEntry → View → ℕ → Type 0
IsNewNumber history v n = (entries_by n history ≡ []) × (n ≢ v.number)

-- the entries of a number that was taken in are those that came with it
abbrev pub IsTakenIn : List HistoryEntry → View → ℕ → Type 0
IsTakenIn history v n =
    (entries_by n history ≡ v.taken_in_mine) × (n ≢ v.number) × (v.to_give ≢ Some n)
    × IsPrefix v.taken_in_seen history × IsPrefix v.seen_before history

-- the view agrees with the history, and with how many tickets were served and drawn
pub record Fits (s : BoardState) (history : List HistoryEntry) (served drawn : ℕ) (v : View) : Type 0 where
  pub start : v.start.value ≡ s
  pub seen : IsPrefix v.seen history
  pub mine : entries_by v.number history ≡ v.mine
  pub to_give : (n : ℕ) → v.to_give ≡ Some n → IsNewNumber history v n
  pub taken_in : (n : ℕ) → v.taken_in ≡ Some n → IsTakenIn history v n
  pub out : (n : ℕ) → HasNumber n v → IsOut n (board_after s history)
  pub ticket : (k : ℕ) → v.ticket ≡ Some k → (served ≤ k) × (k < drawn)
  pub turn : v.turn ≡ true → (v.ticket ≡ Some served) × (v.seen ≡ history)
  pub kept : v.kept ≡ true → (v.ticket ≡ Some served) × (v.seen ≡ history)
  pub coming : (e : HistoryEntry) → v.coming ≡ Some e → IsComing (board_after s history) v e

-- an ended view has no calls left, and takes part in nothing
pub record IsOver (v : View) : Type 0 where
  pub left : v.left ≡ 0
  pub spare : v.spare ≡ 0
  pub ticket : v.ticket ≡ None
  pub turn : v.turn ≡ false

-- All views

abbrev pub total_left : List View → ℕ
total_left [] = 0
total_left (v ∷ vs) = v.left + total_left vs

abbrev pub total_spare : List View → ℕ
total_spare [] = 0
total_spare (v ∷ vs) = v.spare + total_spare vs

-- two views that R holds of are one
abbrev pub Apart : (View → View → Type 0) → List View → Type 0
Apart R views =
    (i j : ℕ) (v w : View) → get_elem? views i ≡ some v → get_elem? views j ≡ some w → R v w → i ≡ j

abbrev pub SameTicket : View → View → Type 0
SameTicket v w = (k : ℕ) × (v.ticket ≡ Some k) × (w.ticket ≡ Some k)

abbrev pub Owns : ℕ → View → Type 0
Owns n v = (v.ended ≡ false) × HasNumber n v

abbrev pub SameNumber : View → View → Type 0
SameNumber v w = (n : ℕ) × Owns n v × Owns n w

abbrev pub SomeHasTicket : List View → ℕ → Type 0
SomeHasTicket views k = (i : ℕ) × (v : View) × (get_elem? views i ≡ some v) × (v.ticket ≡ Some k)

-- some view that is not ended has seen the whole history
abbrev pub SomeHasSeenAll : List HistoryEntry → List View → Type 0
SomeHasSeenAll history views =
    (i : ℕ) × (v : View) × (get_elem? views i ≡ some v) × (v.ended ≡ false) × (v.seen ≡ history)

-- no view has the turn
abbrev pub IsIdle : List View → Type 0
IsIdle views = (i : ℕ) (v : View) → get_elem? views i ≡ some v → v.turn ≡ false

-- no seat holds the slot, and the board in it is this one
abbrev pub IsAtHome : {S : Type 0} → (S → BoardState) → BoardState → List (Home (Option S)) → Type 0
IsAtHome {S} state_of now homes = (h : S) × (homes ≡ some (Some h) ∷ []) × (state_of h ≡ now)

-- The rule

pub record IsConsistent {S : Type 0} (state_of : S → BoardState) (start : BoardState) (s : State (Option S) View)
    : Type 0 where
  pub history : List HistoryEntry
  pub drawn : ℕ
  pub served : ℕ
  pub words : s.words ≡ drawn ∷ served ∷ []
  pub within : served ≤ drawn
  pub begins : IsOpening start
  pub legal : IsLegal start history
  pub bound : drawn + total_left s.views ≤ 2 ^ 62
  pub few : (board_after start history).given ≤ served
  pub room : length (board_after start history).out + total_spare s.views ≤ start.seats
  pub one_slot : length s.homes ≡ 1
  pub each : (i : ℕ) (v : View) → get_elem? s.views i ≡ some v → v.ended ≡ false → Fits start history served drawn v
  pub over : (i : ℕ) (v : View) → get_elem? s.views i ≡ some v → v.ended ≡ true → IsOver v
  pub waiting : (k : ℕ) → served ≤ k → k < drawn → SomeHasTicket s.views k
  pub one_ticket : Apart SameTicket s.views
  pub one_number : Apart SameNumber s.views
  pub whole : SomeHasSeenAll history s.views
  pub home : IsIdle s.views → IsAtHome state_of (board_after start history) s.homes
