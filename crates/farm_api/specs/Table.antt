-- The table of the server's paths.
use Rattle.std.specs.Prelude.{ℕ, List, [], ◌∷◌, Option, Result, Ok, Err, fold, codes}
use Rattle.std.specs.Option.{option_map}
use Rattle.matchit.specs.Rows.{RowsOf}
use Rattle.matchit.specs.Seek.{first}
use Rattle.matchit.specs.Order.{placed}
use Rattle.matchit.specs.Route.{Scan, parse_route}
use Rattle.matchit.specs.Router.{RouteOf, route_from}
use Rattle.matchit.specs.declared.error.InsertError.{InsertError}
use Rattle.farm_api.specs.declared.paths.Place.{Place}
use Rattle.farm_api.specs.declared.paths.Place.TheVariants as place

abbrev pub placed_read : Result Scan InsertError → Place → RowsOf (RouteOf Place) → RowsOf (RouteOf Place)
placed_read (Ok s) value rows = placed (s.pattern, route_from s value) rows
placed_read (Err e) value rows = rows

-- the rows of a router with one more path
abbrev pub with_path : RowsOf (RouteOf Place) → List ℕ × Place → RowsOf (RouteOf Place)
with_path rows path = placed_read (parse_route path.0) path.1 rows

abbrev pub table : List (List ℕ × Place)
table =
    (codes "/judgehosts", place.Hosts) ∷ (codes "/judgehosts/fetch-work", place.FetchWork)
    ∷ (codes "/judgehosts/add-judging-run", place.AddRun) ∷ (codes "/judgehosts/renew", place.Renew)
    ∷ (codes "/judgehosts/down", place.Down) ∷ (codes "/judgehosts/job/{judging}/{test}", place.Job)
    ∷ (codes "/judgehosts/job/{judging}/{test}/rest", place.JobRest)
    ∷ (codes "/judgements/{id}", place.Judgement)
    ∷ (codes "/judgements/{id}/submission", place.Submission) ∷ (codes "/judgements/{id}/verify", place.Verify)
    ∷ (codes "/judgements/{id}/ask", place.Ask) ∷ (codes "/board", place.Board)
    ∷ (codes "/public", place.Public) ∷ (codes "/", place.Page) ∷ (codes "/contest", place.Contest)
    ∷ (codes "/audit", place.Audit) ∷ (codes "/rejudgings", place.Rejudgings)
    ∷ (codes "/rejudgings/{id}", place.Rejudging) ∷ (codes "/rejudgings/{id}/apply", place.Apply)
    ∷ (codes "/rejudgings/{id}/cancel", place.Cancel) ∷ []

-- the rows of a router of the whole table
unfoldable pub rows : RowsOf (RouteOf Place)
rows = fold with_path [] table

-- the place that a path names by the rows
abbrev pub place_in : RowsOf (RouteOf Place) → List ℕ → Option Place
place_in rows path = option_map (λ r. r.value) (first rows path)
