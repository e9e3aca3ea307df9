-- What a seat of the board's table knows, its view, and what each step makes of it.
use Rattle.std.specs.Prelude.{◌≡◌, ℕ, ◌+◌, ◌-◌, ◌^◌, ◌<◌, Bool, true, false, Option, None, Some, List, [], ◌∷◌, ◌++◌, length, nat_lt, if◌then◌else◌}
use Rattle.std.specs.Option.{unwrap_or}
use Rattle.std.specs.declared.snapshot.Snapshot.{Snapshot}
use Rattle.farm_model.specs.State.{start, standard_settings}
use Rattle.farm_board.specs.BoardState.{BoardState}
use Rattle.farm_board.specs.Histories.{opening_board}
use Rattle.farm_board.specs.declared.entries.HistoryEntry.{HistoryEntry}
use Rattle.farm_board.specs.declared.entries.HistoryEntry.TheVariants as entry
use Rattle.farm_board.specs.declared.view.View.{View}

-- of the opening pass, which has seen nothing
abbrev pub opening_view : Snapshot BoardState → View
opening_view start = record {
  start = start;
  number = 0;
  seen = [];
  mine = [];
  spare = start.value.seats - 1;
  left = 2 ^ 62;
  ticket = None;
  turn = false;
  kept = false;
  coming = None;
  to_give = None;
  taken_in = None;
  taken_in_mine = [];
  taken_in_seen = [];
  seen_before = [];
  ended = false;
}

-- Turns

-- a ticket was drawn, or the one that was kept serves for one more call
abbrev pub with_ticket : View → ℕ → View
with_ticket v k = record v { left = v.left - 1; ticket = Some k; kept = false }

-- the ticket's turn has come
abbrev pub with_turn : View → List HistoryEntry → View
with_turn v history = record v { seen = history; turn = true }

-- the entry was marked as the one to come
abbrev pub with_coming : View → HistoryEntry → View
with_coming v e = record v { coming = Some e }

abbrev pub spare_after : ℕ → HistoryEntry → ℕ
spare_after n (entry.Call call) = n
spare_after n (entry.Split number new) = n - 1
spare_after n (entry.Join number old) = n + 1

-- the number to give after the entry
abbrev pub to_give_after : HistoryEntry → Option ℕ
to_give_after (entry.Call call) = None
to_give_after (entry.Split number new) = Some new
to_give_after (entry.Join number old) = None

-- the turn ended with the entry
abbrev pub with_entry : View → HistoryEntry → View
with_entry v e = record v {
  seen = v.seen ++ e ∷ [];
  mine = v.mine ++ e ∷ [];
  spare = spare_after v.spare e;
  ticket = None;
  turn = false;
  kept = false;
  coming = None;
  to_give = to_give_after e;
  taken_in = None;
  taken_in_mine = [];
  taken_in_seen = [];
  seen_before = [];
}

-- the entry joined the history, and the ticket is kept
abbrev pub with_kept_ticket : View → HistoryEntry → View
with_kept_ticket v e = record (with_entry v e) { ticket = v.ticket; kept = true }

-- the kept ticket was given up
abbrev pub without_ticket : View → View
without_ticket v = record v { ticket = None; kept = false }

-- what a view needs for the entry: only one that joins has taken a number in
abbrev pub Suits : HistoryEntry → View → Type 0
Suits (entry.Call call) v = (v.to_give ≡ None) × (v.taken_in ≡ None)
Suits (entry.Split number new) v = (v.to_give ≡ None) × (v.taken_in ≡ None) × (0 < v.spare)
Suits (entry.Join number old) v = (v.to_give ≡ None) × (v.taken_in ≡ Some old)

-- Splitting and joining seats

-- the view that gives a number and a share away
abbrev pub split_left : ℕ → View → View
split_left share v = record v { left = v.left - share; to_give = None }

-- the view that gets them
abbrev pub split_right : ℕ → View → View
split_right share v = record v {
  number = unwrap_or v.to_give 0;
  mine = [];
  spare = 0;
  left = share;
  to_give = None;
}

abbrev pub longer : List HistoryEntry → List HistoryEntry → List HistoryEntry
longer xs ys = if nat_lt (length xs) (length ys) then ys else xs

-- the second view is taken in by the first
abbrev pub joined_view : View → View → View
joined_view v w = record v {
  seen = longer v.seen w.seen;
  spare = v.spare + w.spare;
  left = v.left + w.left;
  taken_in = Some w.number;
  taken_in_mine = w.mine;
  taken_in_seen = w.seen;
  seen_before = v.seen;
}

-- of a pass that was taken in
abbrev pub ended_view : View
ended_view = record (opening_view nowhere) { left = 0; ended = true }
  where
    nowhere : Snapshot BoardState
    nowhere = record { marker = record {}; value = opening_board (start standard_settings) 1 false }

-- it waits for nothing
pub record IsResting (v : View) : Type 0 where
  pub ticket : v.ticket ≡ None
  pub turn : v.turn ≡ false
  pub kept : v.kept ≡ false
  pub coming : v.coming ≡ None
  pub live : v.ended ≡ false

-- it waits for nothing, and has no number to give or taken in: so it is between two calls
pub record IsFree (v : View) : Type 0 where
  pub resting : IsResting v
  pub to_give : v.to_give ≡ None
  pub taken_in : v.taken_in ≡ None

-- it is between two calls, and has kept the ticket of the first, so that no other pass's call comes between them
pub record IsKeeping (v : View) : Type 0 where
  pub turn : v.turn ≡ false
  pub kept : v.kept ≡ true
  pub coming : v.coming ≡ None
  pub live : v.ended ≡ false
  pub to_give : v.to_give ≡ None
  pub taken_in : v.taken_in ≡ None

-- it is between two calls, and has kept a ticket or not
abbrev pub IsBetween : Bool → View → Type 0
IsBetween false v = IsFree v
IsBetween true v = IsKeeping v
