-- Connections that are being served, and those that were, with the lines that say so.
use Rattle.std.specs.Prelude.{◌≡◌, ℕ, ◌+◌, false, List, [], ◌∷◌, ◌++◌, Option, Some, codes}
use Rattle.std.specs.Fmt.{decimal}
use Rattle.farm_io.specs.Doors.{IsFresh}
use Rattle.farm_kinds.specs.declared.outcomes.Answer.{Answer}
use Rattle.farm_model.specs.State.{start, standard_settings}
use Rattle.farm_board.specs.BoardState.{BoardState}
use Rattle.farm_board.specs.Histories.{opening_board}
use Rattle.farm_board.specs.Passes.{PassValue}
use Rattle.public_board.specs.Values.{ReaderValue}
use Rattle.farm_api.specs.declared.ends.ConnHow.{ConnHow}
use Rattle.farm_api.specs.declared.ends.ConnHow.TheVariants as how
use Rattle.farm_kinds.specs.declared.outcomes.Task.{Task}
use Rattle.case_run.specs.Cases.{TestCase}
use Rattle.contest_page.specs.ViewValue.{ViewValue}
use Rattle.farm_api.specs.Jobs.{gives_by}
use Rattle.farm_api.specs.Exchanges.{Around, giving}
use Rattle.farm_api.specs.Serving.{untaken, IsServed, HasCauseServed, AnswersAll}
use Rattle.farm_api.specs.LaneCalls.{access, LaneMakes}

-- the bytes that a connection tells, if it tells any
abbrev pub Telling : Type 0 → Type 0
Telling N = N → Option (List ℕ)

-- how often a side of a connection has failed
abbrev pub Counting : Type 0 → Type 0
Counting N = N → ℕ

-- what is told of connections of one type, and of the clock, the cases and the board by which they are served
pub record Watch (N : Type 0) : Type 1 where
  -- the bytes that a connection has left, and those that it holds, where it tells them
  pub left : Telling N
  pub held : Telling N
  -- how often reading and writing have failed on it
  pub reads : Counting N
  pub writes : Counting N
  -- the numbers that the clock may show, whether the server ever asks to close, and the cases and names that it may give
  pub around : Around
  -- what the board began with
  pub start : BoardState

-- on a board that nothing has entered
abbrev pub watch : {N : Type 0} → Telling N → Telling N → Counting N → Counting N → Around → Watch N
watch left held reads writes around =
    record {
      left = left;
      held = held;
      reads = reads;
      writes = writes;
      around = around;
      start = opening_board (start standard_settings) 1 false;
    }

-- what is told as w tells it, on a board that began as `start`, where the cases of `case_at` and the names of `view` are given
abbrev pub on_board : {N : Type 0} → BoardState → (Task → Option TestCase) → ViewValue → Watch N → Watch N
on_board start case_at view w = record {
  left = w.left;
  held = w.held;
  reads = w.reads;
  writes = w.writes;
  around = giving (gives_by case_at view) w.around;
  start = start;
}

-- a connection as it came, and the pass that was split off for it
pub record Start (N : Type 0) : Type 0 where
  pub came : N
  pub begun : PassValue

-- a connection as it came, and as it was when it had been served; the pass that served it, as it was split off and as
-- it was to be taken in; and how it ended
pub record Visit (N : Type 0) : Type 0 where
  pub came : N
  pub back : N
  pub begun : PassValue
  pub ended : PassValue
  pub requests : ℕ
  pub how : ConnHow

abbrev pub visit : {N : Type 0} → N → N → PassValue → PassValue → ℕ → ConnHow → Visit N
visit came back begun ended requests how =
    record { came = came; back = back; begun = begun; ended = ended; requests = requests; how = how }

-- what `serve_lane` says of a connection, with what the reader of its lane had seen before and has seen behind it
pub record IsAnswered {N : Type 0} (w : Watch N) (v : Visit N) : Type 0 where
  pub before : ReaderValue Answer
  pub behind : ReaderValue Answer
  pub served : IsServed (LaneMakes w.start) w.around
      (untaken (access v.begun before) (w.left v.came) (w.held v.came))
      (untaken (access v.ended behind) (w.left v.back) (w.held v.back)) v.requests v.how
  pub cause : HasCauseServed (w.reads v.came) (w.reads v.back) (w.writes v.came) (w.writes v.back) (Some v.how)
  pub complete : AnswersAll w.around.asks (w.left v.came) (w.reads v.came) (w.reads v.back) (w.writes v.came) (w.writes v.back)
      v.requests v.how

-- The connection came with nothing put on it and neither side failed. It was answered on a pass that had no entries yet
pub record IsVisit {N : Type 0} (w : Watch N) (v : Visit N) : Type 0 where
  pub fresh : IsFresh (w.held v.came) (w.reads v.came) (w.writes v.came)
  pub unused : v.begun.mine ≡ []
  pub answered : IsAnswered w v

-- Lines

abbrev pub how_word : ConnHow → List ℕ
how_word how.End = codes "end"
how_word how.Closed = codes "closed"
how_word how.Cut = codes "cut"
how_word how.BadRequest = codes "bad-request"
how_word how.ReadFault = codes "read-fault"
how_word how.WriteFault = codes "write-fault"
how_word how.InputLimit = codes "input-limit"
how_word how.NoMemory = codes "memory"

-- `conn I requests R END`
abbrev pub conn_line : ℕ → ℕ → ConnHow → List ℕ
conn_line number requests how =
    codes "conn " ++ (decimal number ++ (codes " requests " ++ (decimal requests ++ 32 ∷ (how_word how ++ 10 ∷ []))))

-- the lines of the connections, from this number on
abbrev pub conn_lines : {N : Type 0} → ℕ → List (Visit N) → List ℕ
conn_lines n [] = []
conn_lines n (v ∷ vs) = conn_line n v.requests v.how ++ conn_lines (n + 1) vs
