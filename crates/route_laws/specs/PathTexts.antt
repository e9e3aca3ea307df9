-- The path of each route.
use Rattle.std.specs.Prelude.{ℕ, ◌≢◌, ◌≤◌, List, ◌++◌, codes, ⊤}
use Rattle.std.specs.Fmt.{decimal}
use Rattle.wire_json.specs.declared.routes.Route.{Route}
use Rattle.wire_json.specs.declared.routes.Route.TheVariants as route

abbrev pub path_text : Route → List ℕ
path_text route.Hosts = codes "/judgehosts"
path_text route.FetchWork = codes "/judgehosts/fetch-work"
path_text route.AddRun = codes "/judgehosts/add-judging-run"
path_text route.Renew = codes "/judgehosts/renew"
path_text route.Down = codes "/judgehosts/down"
path_text (route.Job judging test) = codes "/judgehosts/job/" ++ (decimal judging ++ (codes "/" ++ decimal test))
path_text (route.JobRest judging test) =
    codes "/judgehosts/job/" ++ (decimal judging ++ (codes "/" ++ (decimal test ++ codes "/rest")))
path_text (route.Judgement judging) = codes "/judgements/" ++ decimal judging
path_text (route.Submission judging) = codes "/judgements/" ++ (decimal judging ++ codes "/submission")
path_text (route.Verify judging) = codes "/judgements/" ++ (decimal judging ++ codes "/verify")
path_text (route.Ask judging) = codes "/judgements/" ++ (decimal judging ++ codes "/ask")
path_text route.Board = codes "/board"
path_text route.Audit = codes "/audit"
path_text route.Rejudgings = codes "/rejudgings"
path_text (route.Rejudging rejudging) = codes "/rejudgings/" ++ decimal rejudging
path_text (route.Apply rejudging) = codes "/rejudgings/" ++ (decimal rejudging ++ codes "/apply")
path_text (route.Cancel rejudging) = codes "/rejudgings/" ++ (decimal rejudging ++ codes "/cancel")

-- what a path can say as a number
abbrev pub IsId : ℕ → Type 0
IsId id = id ≤ 4294967295

abbrev pub HasIds : Route → Type 0
HasIds (route.Job judging test) = IsId judging × IsId test
HasIds (route.JobRest judging test) = IsId judging × IsId test
HasIds (route.Judgement judging) = IsId judging
HasIds (route.Submission judging) = IsId judging
HasIds (route.Verify judging) = IsId judging
HasIds (route.Ask judging) = IsId judging
HasIds (route.Rejudging rejudging) = IsId rejudging
HasIds (route.Apply rejudging) = IsId rejudging
HasIds (route.Cancel rejudging) = IsId rejudging
HasIds route.Hosts = ⊤
HasIds route.FetchWork = ⊤
HasIds route.AddRun = ⊤
HasIds route.Renew = ⊤
HasIds route.Down = ⊤
HasIds route.Board = ⊤
HasIds route.Audit = ⊤
HasIds route.Rejudgings = ⊤

-- no route has the path, and neither has what anybody may see
pub record NamesNothing (path : List ℕ) : Type 0 where
  pub route : (r : Route) → HasIds r → path ≢ path_text r
  pub public : path ≢ codes "/public"
  pub page : path ≢ codes "/"
  pub contest : path ≢ codes "/contest"
