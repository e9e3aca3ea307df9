-- What is entered by a lane: events, as calls of its pass, and looks, as reads by its reader.
use Rattle.std.specs.Prelude.{◌≡◌, false, List}
use mathlib.Core.Logic.{inl, inr}
use Rattle.farm_kinds.specs.declared.outcomes.Answer.{Answer}
use Rattle.farm_board.specs.BoardState.{BoardState}
use Rattle.farm_board.specs.Passes.{PassValue, Calls}
use Rattle.public_board.specs.Values.{ReaderValue}
use Rattle.farm_api.specs.declared.access.AccessOf.{AccessOf}
use Rattle.farm_api.specs.Entering.{Entered, without_looks}
use Rattle.farm_api.specs.PassCalls.{MakesCalls}
use Rattle.farm_api.specs.Reads.{rows_in, Reads, IsTold, rows_given, GivesInOrder}

-- what contracts see of what a lane has of a board
abbrev pub AccessValue : Type 0
AccessValue = AccessOf PassValue (ReaderValue Answer)

abbrev pub access : PassValue → ReaderValue Answer → AccessValue
access pass reader = record { pass = pass; reader = reader }

-- A call for an event leads to a pass that has no turn, and its reader may be told of more versions. A look makes no call.
abbrev pub LaneSteps : BoardState → AccessValue → Entered → AccessValue → Type 0
LaneSteps start old (inl x) new =
    Calls old.pass new.pass x.event x.reply × (new.pass.kept ≡ false) × IsTold old.reader new.reader
LaneSteps start old (inr r) new = (new.pass ≡ old.pass) × Reads start old.reader (rows_in r) new.reader

-- The pass makes a call for each event among these, one after the other, and nothing else: none for a look. The looks gave
-- what the reader gave, which are versions of what the public saw of a board that began so.
pub record LaneMakes (start : BoardState) (old : AccessValue) (made : List Entered) (new : AccessValue) : Type 0 where
  pub calls : MakesCalls old.pass (without_looks made) new.pass
  pub reads : GivesInOrder start old.reader (rows_given made) new.reader
