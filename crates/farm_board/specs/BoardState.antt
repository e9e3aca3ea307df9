-- What a board is at one moment of its history.
use Rattle.std.specs.Prelude.{ℕ, List, Option}
use Rattle.farm_model.specs.State.{State}
use Rattle.farm_board.specs.declared.entries.Call.{Call}

pub record BoardState : Type 0 where
  -- the farm's state
  pub state : State
  -- how many passes may be out at once
  pub seats : ℕ
  -- the numbers of the passes that are out
  pub out : List ℕ
  -- the last number that was given to a pass
  pub given : ℕ
  -- the calls that took effect, where a journal is kept
  pub journal : Option (List Call)
