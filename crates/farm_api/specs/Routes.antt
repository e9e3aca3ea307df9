-- The route of a request.
use Rattle.std.specs.Prelude.{ℕ, ◌+◌, List, Option, Some, None, ◌==◌, if◌then◌else◌, codes, take, drop}
use Rattle.std.specs.List.{position_or_len}
use Rattle.std.specs.Str.{bytes_eq}
use Rattle.farm_model.specs.Numbers.{number_of}
use Rattle.wire_json.specs.declared.routes.Route.{Route}
use Rattle.wire_json.specs.declared.routes.Route.TheVariants as route
use Rattle.wire_job.specs.declared.parts.JobPart.{JobPart}
use Rattle.wire_job.specs.declared.parts.JobPart.TheVariants as part
use Rattle.farm_api.specs.declared.paths.Place.{Place}
use Rattle.farm_api.specs.declared.paths.Place.TheVariants as place
use Rattle.farm_api.specs.declared.routes.Routed.{Routed}
use Rattle.farm_api.specs.declared.routes.Routed.TheVariants as routed
use Rattle.farm_api.specs.Table.{rows, place_in}

-- the bytes before the first one of this code, or all
abbrev pub before : ℕ → List ℕ → List ℕ
before code bytes = take (position_or_len (λ b. b == code) bytes) bytes

-- the bytes behind the first one of this code, or none
abbrev pub behind : ℕ → List ℕ → List ℕ
behind code bytes = drop (position_or_len (λ b. b == code) bytes + 1) bytes

-- the path of a target: what stands before its question mark
abbrev pub path_of : List ℕ → List ℕ
path_of target = before 63 target

-- the number between the second slash of a path and the third
abbrev pub id_of : List ℕ → Option ℕ
id_of path = number_of (before 47 (behind 47 (behind 47 path)))

-- a route with an id, where that is a number
abbrev pub with_id : (ℕ → Route) → Option ℕ → Option Route
with_id make None = None
with_id make (Some id) = Some (make id)

-- so much of the job of a test of a judging
abbrev pub job_route : JobPart → ℕ → ℕ → Route
job_route part.Whole judging test = route.Job judging test
job_route part.Rest judging test = route.JobRest judging test

-- the same of these, where both are numbers
abbrev pub job_with : JobPart → Option ℕ → Option ℕ → Option Route
job_with p (Some judging) (Some test) = Some (job_route p judging test)
job_with p (Some judging) None = None
job_with p None test = None

-- the same of the judging between the third slash of a path and the fourth, and the test behind that, up to the fifth
abbrev pub job_of : JobPart → List ℕ → Option Route
job_of p path =
    let tail = behind 47 (behind 47 (behind 47 path)) in
    job_with p (number_of (before 47 tail)) (number_of (before 47 (behind 47 tail)))

-- the route of a place and the ids that stand in the path
abbrev pub route_at : Place → List ℕ → Option Route
route_at place.Hosts path = Some route.Hosts
route_at place.FetchWork path = Some route.FetchWork
route_at place.AddRun path = Some route.AddRun
route_at place.Renew path = Some route.Renew
route_at place.Down path = Some route.Down
route_at place.Job path = job_of part.Whole path
route_at place.JobRest path = job_of part.Rest path
route_at place.Judgement path = with_id route.Judgement (id_of path)
route_at place.Submission path = with_id route.Submission (id_of path)
route_at place.Verify path = with_id route.Verify (id_of path)
route_at place.Ask path = with_id route.Ask (id_of path)
route_at place.Board path = Some route.Board
-- what anybody may see is not asked by a body
route_at place.Public path = None
route_at place.Page path = None
route_at place.Contest path = None
route_at place.Audit path = Some route.Audit
route_at place.Rejudgings path = Some route.Rejudgings
route_at place.Rejudging path = with_id route.Rejudging (id_of path)
route_at place.Apply path = with_id route.Apply (id_of path)
route_at place.Cancel path = with_id route.Cancel (id_of path)

abbrev pub route_by : Option Place → List ℕ → Option Route
route_by None path = None
route_by (Some p) path = route_at p path

-- the route that a path names
abbrev pub route_of : List ℕ → Option Route
route_of path = route_by (place_in rows path) path

-- the one method of a route
abbrev pub method_of : Route → List ℕ
method_of route.Hosts = codes "POST"
method_of route.FetchWork = codes "POST"
method_of route.AddRun = codes "POST"
method_of route.Renew = codes "POST"
method_of route.Down = codes "POST"
method_of (route.Job judging test) = codes "GET"
method_of (route.JobRest judging test) = codes "GET"
method_of (route.Judgement judging) = codes "GET"
method_of (route.Submission judging) = codes "GET"
method_of (route.Verify judging) = codes "POST"
method_of (route.Ask judging) = codes "POST"
method_of route.Board = codes "GET"
method_of route.Audit = codes "GET"
method_of route.Rejudgings = codes "POST"
method_of (route.Rejudging rejudging) = codes "GET"
method_of (route.Apply rejudging) = codes "POST"
method_of (route.Cancel rejudging) = codes "POST"

abbrev pub routed_by : List ℕ → Option Route → Routed
routed_by method None = routed.NoRoute
routed_by method (Some r) = if bytes_eq method (method_of r) then routed.Route r else routed.NoMethod

-- what anybody may see is asked for by GET
abbrev pub got_by : List ℕ → Routed → Routed
got_by method what = if bytes_eq method (codes "GET") then what else routed.NoMethod

abbrev pub routed_at : List ℕ → Option Place → List ℕ → Routed
routed_at method None path = routed.NoRoute
routed_at method (Some place.Public) path = got_by method routed.Public
routed_at method (Some place.Page) path = got_by method routed.Page
routed_at method (Some place.Contest) path = got_by method routed.Contest
routed_at method (Some p) path = routed_by method (route_at p path)

-- what a request asks for, by its method and its target
abbrev pub routed_of : List ℕ → List ℕ → Routed
routed_of method target = routed_at method (place_in rows (path_of target)) (path_of target)
