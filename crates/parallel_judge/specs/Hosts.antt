-- What the passes of a contest's hosts enter, and what the opening pass knows of it.
use Rattle.std.specs.Prelude.{◌≡◌, ◌≢◌, ℕ, ◌^◌, Bool, true, List, [], ◌∷◌, ◌++◌, map, take, Option}
use Rattle.farm_kinds.specs.declared.outcomes.Task.{Task}
use Rattle.farm_kinds.specs.declared.events.Event.{Event}
use Rattle.farm_kinds.specs.declared.events.Event.TheVariants as event
use Rattle.farm_kinds.specs.declared.kinds.Kind.{Kind}
use Rattle.contest_folder.specs.RosterValue.{RosterValue}
use Rattle.farm_kinds.specs.declared.events.Reply.TheVariants as reply
use Rattle.case_run.specs.Cases.{TestCase}
use Rattle.farm_board.specs.BoardState.{BoardState}
use Rattle.farm_board.specs.Histories.{is_in, IsLegal, entries_by}
use Rattle.farm_board.specs.Passes.{BoardId, PassValue, IsJoined}
use Rattle.farm_board.specs.Trusts.{is_value_of}
use Rattle.farm_board.specs.declared.entries.Call.{Call}
use Rattle.farm_board.specs.declared.entries.HistoryEntry.{HistoryEntry}
use Rattle.farm_board.specs.declared.entries.HistoryEntry.TheVariants as entry
use Rattle.parallel_judge.specs.Journal.{events_in, AreCallers}
use Rattle.parallel_judge.specs.Table.{roster_events}
use Rattle.parallel_judge.specs.UnderWay.{all_hosts, IsHostEvent, IsOfHost}

abbrev pub host_names : ℕ → List (List ℕ)
host_names hosts = take hosts all_hosts

-- the contest enters, and then the hosts
abbrev pub with_hosts : RosterValue → ℕ → List Event
with_hosts roster hosts = roster_events roster ++ map event.Host (host_names hosts)

-- the value of a task's case is admitted, and nothing else
abbrev pub admits_of : (Task → Option TestCase) → Task → Kind → Bool
admits_of case_at task kind = is_value_of (case_at task) kind

-- The opening pass, alone

abbrev pub as_entries : List Call → List HistoryEntry
as_entries calls = map (λ call. entry.Call call) calls

-- none of the calls ran out of memory
abbrev pub AreEffective : List Call → Type 0
AreEffective [] = Unit {0}
AreEffective (call ∷ calls) = (call.reply ≢ reply.NoMemory) × AreEffective calls

-- the opening pass has entered these events, and no other pass was split off
pub record HasEntered (start : BoardState) (events : List Event) (pass : PassValue) : Type 0 where
  pub calls : List Call
  pub events_are : events_in calls ≡ events
  pub seen : pass.seen ≡ as_entries calls
  pub mine : pass.mine ≡ as_entries calls
  pub callers : AreCallers calls
  pub effective : AreEffective calls
  pub legal : IsLegal start (as_entries calls)
  pub number : pass.number ≡ 0
  pub begins : pass.start ≡ start

-- Beside the hosts

abbrev pub EachEntry : (HistoryEntry → Type 0) → List HistoryEntry → Type 0
EachEntry P [] = Unit {0}
EachEntry P (e ∷ es) = P e × EachEntry P es

-- the pass of a host of this number calls the board with what that host enters
abbrev pub IsHostEntry : (Task → Option TestCase) → ℕ → HistoryEntry → Type 0
IsHostEntry case_at number (entry.Call call) = IsHostEvent case_at call.event × IsOfHost number call.event
IsHostEntry case_at number (entry.Split from new) = ⊥
IsHostEntry case_at number (entry.Join from old) = ⊥

-- the opening pass splits off passes of these numbers, and takes passes in
abbrev pub IsSeatEntry : List ℕ → HistoryEntry → Type 0
IsSeatEntry numbers (entry.Call call) = ⊥
IsSeatEntry numbers (entry.Split number new) = is_in new numbers ≡ true
IsSeatEntry numbers (entry.Join number old) = Unit {0}

-- how many calls a host's pass may make
abbrev pub share : ℕ
share = 2 ^ 33

-- a host can begin with the pass, which is one of this board
pub record IsReadyPass (board : BoardId) (pass : PassValue) : Type 0 where
  pub board_is : pass.board ≡ board
  pub fresh : pass.mine ≡ []
  pub left : pass.left ≡ share
  pub spare : pass.spare ≡ 0

-- the host of the pass's number has stopped
pub record IsDonePass (case_at : Task → Option TestCase) (board : BoardId) (pass : PassValue) : Type 0 where
  pub board_is : pass.board ≡ board
  pub entries : EachEntry (IsHostEntry case_at pass.number) pass.mine
  pub spare : pass.spare ≡ 0

-- the same, where the host began with that pass
abbrev pub IsDoneFrom : (Task → Option TestCase) → BoardId → PassValue → PassValue → Type 0
IsDoneFrom case_at board begun pass = (pass.number ≡ begun.number) × IsDonePass case_at board pass

abbrev pub pass_numbers : List PassValue → List ℕ
pass_numbers passes = map (λ pass. pass.number) passes

-- what the opening pass knows once it has entered these calls, split off passes of these numbers, and taken in those
pub record IsBeside (case_at : Task → Option TestCase) (start : BoardState) (calls : List Call)
    (split joined : List ℕ) (pass : PassValue) : Type 0 where
  pub rest : List HistoryEntry
  pub seen : pass.seen ≡ as_entries calls ++ rest
  pub legal : IsLegal start pass.seen
  pub own : entries_by 0 pass.seen ≡ pass.mine
  pub seats : EachEntry (IsSeatEntry split) (entries_by 0 rest)
  pub number : pass.number ≡ 0
  pub begins : pass.start ≡ start
  pub hosts : (n : ℕ) → is_in n joined ≡ true
      → (its : List HistoryEntry) × IsJoined n pass its × EachEntry (IsHostEntry case_at n) its
