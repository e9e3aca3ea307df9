-- Versions that were published, as what the public saw at moments of one history of a board.
use Rattle.std.specs.Prelude.{◌≡◌, ◌≢◌, ◌&&◌, Bool, true, false, List, [], ◌∷◌, ◌++◌}
use Rattle.farm_kinds.specs.declared.outcomes.Answer.{Answer}
use Rattle.farm_kinds.specs.declared.events.Event.{Event}
use Rattle.farm_kinds.specs.declared.events.Event.TheVariants as event
use Rattle.farm_model.specs.State.{public_answers}
use Rattle.farm_board.specs.BoardState.{BoardState}
use Rattle.farm_board.specs.Histories.{IsLegal, board_after}
use Rattle.farm_board.specs.declared.entries.HistoryEntry.{HistoryEntry}
use Rattle.farm_board.specs.declared.entries.HistoryEntry.TheVariants as entry

-- each version is what the public sees after a prefix of the history, and a later version after a longer prefix
abbrev pub Shown : BoardState → List (List Answer) → List HistoryEntry → Type 0
Shown s [] es = Unit {0}
Shown s (v ∷ vs) es =
    (prefix : List HistoryEntry) × (rest : List HistoryEntry) × (es ≡ prefix ++ rest) × (prefix ≢ [])
    × (v ≡ public_answers (board_after s prefix).state) × Shown (board_after s prefix) vs rest

-- there is a legal history of the board that shows them
abbrev pub AreShown : BoardState → List (List Answer) → Type 0
AreShown s vs = ∥ ((history : List HistoryEntry) × IsLegal s history × Shown s vs history) ∥₁

-- Who only looks

-- the event asks what the public sees, or what is reported of a judging
abbrev pub is_look : Event → Bool
is_look event.Board = true
is_look (event.Show judging) = true
is_look e = false

abbrev pub is_look_entry : HistoryEntry → Bool
is_look_entry (entry.Call call) = is_look call.event
is_look_entry (entry.Split number new) = false
is_look_entry (entry.Join number old) = false

-- all entries are calls of events that only look
abbrev pub are_looks : List HistoryEntry → Bool
are_looks [] = true
are_looks (e ∷ es) = is_look_entry e && are_looks es
