-- A lane makes calls for the events that are entered, and reads for the looks.
use Rattle.std.proofs.Common.{ℕ, ◌≡◌, Bool, List, [], ◌∷◌, Option, Result, ap, subst}
use mathlib.Core.Logic.{inl, inr}
use Rattle.farm_board.specs.BoardState.{BoardState}
use Rattle.farm_board.specs.Passes.{PassValue}
use Rattle.http_door.specs.declared.responses.ResponseFault.{ResponseFault}
use Rattle.farm_api.specs.Exchanges.{Around}
use Rattle.farm_api.specs.declared.ends.ConnHow.{ConnHow}
use Rattle.farm_api.specs.Entering.{Entered, AreEntered, without_looks}
use Rattle.farm_api.specs.Serving.{Standing, IsServed}
use Rattle.farm_api.specs.PassCalls.{MakesCalls}
use Rattle.farm_api.specs.LaneCalls.{AccessValue, LaneSteps, LaneMakes}
use Rattle.farm_api.specs.Putting.{PutsLook, PutsRead}
use Rattle.farm_api.proofs.PassLemmas.{makes_none, makes_one}
use Rattle.farm_api.proofs.Reading.{gives_in_order}

lane_calls : (start : BoardState) (old : AccessValue) (made : List Entered) (new : AccessValue) → AreEntered (LaneSteps start) old made new
    → MakesCalls old.pass (without_looks made) new.pass
lane_calls start old [] new h = makes_none old.pass new.pass (ap (λ (a : AccessValue). a.pass) h)
lane_calls start old (inl x ∷ xs) new h =
    makes_one old.pass h.0.pass new.pass (inl x) (without_looks xs) (h.1.0, h.1.1) (lane_calls start h.0 xs new h.2)
lane_calls start old (inr r ∷ xs) new h =
    subst (λ (p : PassValue). MakesCalls p (without_looks xs) new.pass) h.1.0 (lane_calls start h.0 xs new h.2)

-- what a lane's reader put is what a look of the lane gave
pub lane_put : (start : BoardState) (closing : Bool) (old new : AccessValue) (held held' : Option (List ℕ)) (result : Result (Unit {0}) ResponseFault) → new.pass ≡ old.pass
    → PutsRead start closing old.reader new.reader held held' result → PutsLook (LaneSteps start) closing old new held held' result
lane_put start closing old new held held' result same x = (x.0, (same, x.1), x.2)

-- what was entered by a lane
pub served_lane : (start : BoardState) (around : Around) (b p : Standing AccessValue) (n : ℕ) (h : ConnHow)
    → IsServed (AreEntered (LaneSteps start)) around b p n h → IsServed (LaneMakes start) around b p n h
served_lane start around b p n h u = record {
  answered = u.answered;
  made = u.made;
  all = u.all;
  rest = u.rest;
  tail = u.tail;
  count = u.count;
  took = u.took;
  cut = u.cut;
  whole = u.whole;
  entered = record { calls = lane_calls start b.state _ p.state u.entered; reads = gives_in_order start b.state _ p.state u.entered };
  wrote = u.wrote;
  staying = u.staying;
  ends = u.ends;
}
