-- What the opening pass knows of the board's history while connections are served.
use Rattle.std.specs.Prelude.{◌≡◌, ℕ, ◌^◌, ◌<◌, ◌≤◌, true, List, [], ◌∷◌, ◌++◌, map, All}
use mathlib.Core.List.{IsPrefix}
use Rattle.farm_board.specs.BoardState.{BoardState}
use Rattle.farm_board.specs.Histories.{is_in, IsLegal, entries_by}
use Rattle.farm_kinds.specs.declared.events.Event.{Event}
use Rattle.farm_board.specs.Passes.{PassValue, SplitsOff, IsJoined, board_seen}
use Rattle.farm_board.specs.declared.entries.Call.{Call}
use Rattle.farm_board.specs.declared.entries.HistoryEntry.{HistoryEntry}
use Rattle.farm_board.specs.declared.entries.HistoryEntry.TheVariants as entry
use Rattle.parallel_judge.specs.Hosts.{as_entries, HasEntered}
use Rattle.contest_server.specs.Visits.{Visit, Start}

-- each number is above this one and above those before it
abbrev pub AreAbove : ℕ → List ℕ → Type 0
AreAbove n [] = Unit {0}
AreAbove n (x ∷ xs) = (n < x) × AreAbove x xs

-- the last of the numbers, or n where there is none
abbrev pub last_or : ℕ → List ℕ → ℕ
last_or n [] = n
last_or n (x ∷ xs) = last_or x xs

-- the opening pass splits off passes of these numbers, and takes passes in
abbrev pub IsSeat : List ℕ → HistoryEntry → Type 0
IsSeat numbers (entry.Call call) = ⊥
IsSeat numbers (entry.Split number new) = is_in new numbers ≡ true
IsSeat numbers (entry.Join number old) = Unit {0}

-- the numbers of the passes that were split off, in order
abbrev pub visit_numbers : {N : Type 0} → List (Visit N) → List ℕ
visit_numbers visits = map (λ v. v.begun.number) visits

abbrev pub start_numbers : {N : Type 0} → List (Start N) → List ℕ
start_numbers starts = map (λ s. s.begun.number) starts

-- the first one is the feed's
abbrev pub pass_numbers : {N : Type 0} → ℕ → List (Visit N) → List (Start N) → List ℕ
pass_numbers feed visits starts = feed ∷ (visit_numbers visits ++ start_numbers starts)

-- the pass of the visit was taken in, and the history has the entries that it made
abbrev pub IsTaken : {N : Type 0} → PassValue → Visit N → Type 0
IsTaken pass v = IsJoined v.begun.number pass v.ended.mine

-- The opening pass has made these calls, before any other pass was out. Since then it has split off a pass of this number
-- for the feed of the public board, and one for each connection, and taken in those of the connections that were served.
pub record IsBeside {N : Type 0} (start : BoardState) (calls : List Call) (feed : ℕ) (visits : List (Visit N))
    (starts : List (Start N)) (pass : PassValue) : Type 0 where
  pub prefix : IsPrefix (as_entries calls) pass.seen
  pub legal : IsLegal start pass.seen
  pub own : entries_by 0 pass.seen ≡ pass.mine
  pub seats : List HistoryEntry
  pub mine : pass.mine ≡ as_entries calls ++ seats
  pub seated : All (IsSeat (pass_numbers feed visits starts)) seats
  pub number : pass.number ≡ 0
  pub begins : pass.start ≡ start
  pub taken : All (IsTaken pass) visits
  pub rising : AreAbove 0 (pass_numbers feed visits starts)
  pub given : last_or 0 (pass_numbers feed visits starts) ≤ (board_seen pass).given

-- how many calls the feed's pass may make
abbrev pub feed_share : ℕ
feed_share = 2 ^ 60

-- the contest has entered by these events, and then the feed's pass was split off
pub record HasSplit (start : BoardState) (events : List Event) (pass own : PassValue) : Type 0 where
  pub before : PassValue
  pub entered : HasEntered start events before
  pub split : SplitsOff before pass own feed_share
