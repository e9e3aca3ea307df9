-- What workers are given, and what they give back.
use Rattle.std.specs.Prelude.{◌≡◌, List, map, All, None, IfSome, IsSome}
use Rattle.farm_board.specs.Passes.{PassValue}
use Rattle.contest_server.specs.declared.lanes.Lane.{Lane}
use Rattle.contest_server.specs.declared.lanes.Promised.{Promised}
use Rattle.contest_server.specs.declared.lanes.Served.{Served}
use Rattle.contest_server.specs.Visits.{Watch, Start, Visit, IsAnswered}

-- what the worker of a lane was given
abbrev pub start_of : {N C Q J : Type 0} → Lane (Served N PassValue) (Promised N PassValue C Q J) → Start N
start_of lane = record { came = lane.promise.value.came.value; begun = lane.promise.value.begun.value }

abbrev pub starts_of : {N C Q J : Type 0} → List (Lane (Served N PassValue) (Promised N PassValue C Q J)) → List (Start N)
starts_of lanes = map start_of lanes

-- the connection that began as s has been served
abbrev pub visit_of : {N : Type 0} → Start N → Served N PassValue → Visit N
visit_of s served = record {
  came = s.came;
  back = served.conn;
  begun = s.begun;
  ended = served.pass;
  requests = served.end.requests;
  how = served.end.how;
}

-- the lane's worker has promised what is known of its lane, or the connection was served
pub record IsLane {N C Q J : Type 0} (w : Watch N) (clock : C) (cases : Q) (lane : Lane (Served N PassValue) (Promised N PassValue C Q J))
    : Type 0 where
  pub clock_is : lane.promise.value.clock.value ≡ clock
  pub cases_are : lane.promise.value.cases.value ≡ cases
  pub there : IfSome lane.worker (λ handle. handle.promise ≡ lane.promise.value)
  pub here : IfSome lane.served (λ served. IsAnswered w (visit_of (start_of lane) served))
  pub known : lane.worker ≡ None → IsSome lane.served

abbrev pub AreLanes : {N C Q J : Type 0} → Watch N → C → Q → List (Lane (Served N PassValue) (Promised N PassValue C Q J))
    → Type 0
AreLanes w clock cases lanes = All (IsLane w clock cases) lanes
