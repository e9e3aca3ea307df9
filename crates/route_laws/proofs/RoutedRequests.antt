-- What a request asks for, by its method and its path.
use Rattle.std.proofs.Common.{ℕ, inl, inr, ◌≡◌, ◌≢◌, List, Option, Some, None, Bool, true, false, cond, refl, sym, ap, ◌∙◌}
use Rattle.std.specs.Prelude.{codes, ◌↔◌}
use Rattle.std.specs.Str.{bytes_eq}
use Rattle.std.proofs.lemmas.Slice.Eq.{bytes_eq-Decides}
use Rattle.matchit.proofs.OnLiterals.{matchit_on_literals}
use Rattle.wire_json.specs.declared.routes.Route.{Route}
use Rattle.farm_api.specs.declared.paths.Place.{Place}
use Rattle.farm_api.specs.declared.paths.Place.TheVariants as place
use Rattle.farm_api.specs.declared.routes.Routed.{Routed}
use Rattle.farm_api.specs.declared.routes.Routed.TheVariants as routed
use Rattle.farm_api.specs.Table.{rows, place_in}
use Rattle.farm_api.specs.Routes.{path_of, method_of, route_at, route_by, route_of, routed_by, got_by, routed_at, routed_of}
use Rattle.route_laws.specs.PathTexts.{path_text, HasIds, NamesNothing}
use Rattle.route_laws.proofs.Seeking.{Spells}
use Rattle.route_laws.proofs.Patterns.{pattern_of, named, place_of, no_other_path, each_path}

-- ---- a method that is asked for, and one that is not

routed_is : (method : List ℕ) (o : Option Route) (r : Route) → routed_by method o ≡ routed.Route r → (o ≡ Some r) × (method ≡ method_of r)
routed_is method None r e = let no' : ⊥ = cc in absurd no'
routed_is method (Some named_route) r e = by (bytes_eq method (method_of named_route)) refl e
  where
    by : (t : Bool) → bytes_eq method (method_of named_route) ≡ t → cond t (routed.Route named_route) routed.NoMethod ≡ routed.Route r → (Some named_route ≡ Some r) × (method ≡ method_of r)
    by true f is =
        let same : named_route ≡ r = cc in
        (ap (λ (x : Route). Some x) same, (bytes_eq-Decides method (method_of named_route)).0 f ∙ ap method_of same)
    by false f is = let no' : ⊥ = cc in absurd no'

routed_so : (method : List ℕ) (r : Route) → method ≡ method_of r → routed_by method (Some r) ≡ routed.Route r
routed_so method r e = ap (λ (t : Bool). cond t (routed.Route r) routed.NoMethod) ((bytes_eq-Decides method (method_of r)).1 e)

-- what is routed by a method is a route, or has another method, or there is none
pub data IsPlain : Routed → Type 0 where
  ARoute : (r : Route) → IsPlain (routed.Route r)
  ANoMethod : IsPlain routed.NoMethod
  ANoRoute : IsPlain routed.NoRoute

routed_plain : (method : List ℕ) (o : Option Route) → IsPlain (routed_by method o)
routed_plain method None = ANoRoute
routed_plain method (Some r) = elim (bytes_eq method (method_of r)) as (λ t. IsPlain (cond t (routed.Route r) routed.NoMethod)) [ true ↦ ARoute r | false ↦ ANoMethod ]

not_public : (what : Routed) → IsPlain what → what ≡ routed.Public → ⊥
not_public what (ARoute r) e = let no' : ⊥ = cc in no'
not_public what ANoMethod e = let no' : ⊥ = cc in no'
not_public what ANoRoute e = let no' : ⊥ = cc in no'

not_page : (what : Routed) → IsPlain what → what ≡ routed.Page → ⊥
not_page what (ARoute r) e = let no' : ⊥ = cc in no'
not_page what ANoMethod e = let no' : ⊥ = cc in no'
not_page what ANoRoute e = let no' : ⊥ = cc in no'

not_contest : (what : Routed) → IsPlain what → what ≡ routed.Contest → ⊥
not_contest what (ARoute r) e = let no' : ⊥ = cc in no'
not_contest what ANoMethod e = let no' : ⊥ = cc in no'
not_contest what ANoRoute e = let no' : ⊥ = cc in no'

got_so : (method : List ℕ) (what : Routed) → method ≡ codes "GET" → got_by method what ≡ what
got_so method what e = ap (λ (t : Bool). cond t what routed.NoMethod) ((bytes_eq-Decides method (codes "GET")).1 e)

got_is : (method : List ℕ) (what other : Routed) → got_by method what ≡ other → other ≢ routed.NoMethod → (what ≡ other) × (method ≡ codes "GET")
got_is method what other e ne = by (bytes_eq method (codes "GET")) refl e
  where
    by : (t : Bool) → bytes_eq method (codes "GET") ≡ t → cond t what routed.NoMethod ≡ other → (what ≡ other) × (method ≡ codes "GET")
    by true f is = (is, (bytes_eq-Decides method (codes "GET")).0 f)
    by false f is = absurd (ne (sym is))

-- ---- routes

route_there : (method path : List ℕ) (p : Place) (r : Route) → routed_at method (Some p) path ≡ routed.Route r → (route_at p path ≡ Some r) × (method ≡ method_of r)
route_there method path place.Hosts r e = routed_is method (route_at place.Hosts path) r e
route_there method path place.FetchWork r e = routed_is method (route_at place.FetchWork path) r e
route_there method path place.AddRun r e = routed_is method (route_at place.AddRun path) r e
route_there method path place.Renew r e = routed_is method (route_at place.Renew path) r e
route_there method path place.Down r e = routed_is method (route_at place.Down path) r e
route_there method path place.Job r e = routed_is method (route_at place.Job path) r e
route_there method path place.JobRest r e = routed_is method (route_at place.JobRest path) r e
route_there method path place.Judgement r e = routed_is method (route_at place.Judgement path) r e
route_there method path place.Submission r e = routed_is method (route_at place.Submission path) r e
route_there method path place.Verify r e = routed_is method (route_at place.Verify path) r e
route_there method path place.Ask r e = routed_is method (route_at place.Ask path) r e
route_there method path place.Board r e = routed_is method (route_at place.Board path) r e
route_there method path place.Public r e =
    let h = got_is method routed.Public (routed.Route r) e (λ f. let no' : ⊥ = cc in no') in
    let is : routed.Public ≡ routed.Route r = h.0 in
    let no' : ⊥ = cc in absurd no'
route_there method path place.Page r e =
    let h = got_is method routed.Page (routed.Route r) e (λ f. let no' : ⊥ = cc in no') in
    let is : routed.Page ≡ routed.Route r = h.0 in
    let no' : ⊥ = cc in absurd no'
route_there method path place.Contest r e =
    let h = got_is method routed.Contest (routed.Route r) e (λ f. let no' : ⊥ = cc in no') in
    let is : routed.Contest ≡ routed.Route r = h.0 in
    let no' : ⊥ = cc in absurd no'
route_there method path place.Audit r e = routed_is method (route_at place.Audit path) r e
route_there method path place.Rejudgings r e = routed_is method (route_at place.Rejudgings path) r e
route_there method path place.Rejudging r e = routed_is method (route_at place.Rejudging path) r e
route_there method path place.Apply r e = routed_is method (route_at place.Apply path) r e
route_there method path place.Cancel r e = routed_is method (route_at place.Cancel path) r e

route_so : (method path : List ℕ) (p : Place) (r : Route) → route_at p path ≡ Some r → routed_at method (Some p) path ≡ routed_by method (Some r)
route_so method path place.Hosts r e = ap (λ (o : Option Route). routed_by method o) e
route_so method path place.FetchWork r e = ap (λ (o : Option Route). routed_by method o) e
route_so method path place.AddRun r e = ap (λ (o : Option Route). routed_by method o) e
route_so method path place.Renew r e = ap (λ (o : Option Route). routed_by method o) e
route_so method path place.Down r e = ap (λ (o : Option Route). routed_by method o) e
route_so method path place.Job r e = ap (λ (o : Option Route). routed_by method o) e
route_so method path place.JobRest r e = ap (λ (o : Option Route). routed_by method o) e
route_so method path place.Judgement r e = ap (λ (o : Option Route). routed_by method o) e
route_so method path place.Submission r e = ap (λ (o : Option Route). routed_by method o) e
route_so method path place.Verify r e = ap (λ (o : Option Route). routed_by method o) e
route_so method path place.Ask r e = ap (λ (o : Option Route). routed_by method o) e
route_so method path place.Board r e = ap (λ (o : Option Route). routed_by method o) e
route_so method path place.Public r e = let no' : ⊥ = cc in absurd no'
route_so method path place.Page r e = let no' : ⊥ = cc in absurd no'
route_so method path place.Contest r e = let no' : ⊥ = cc in absurd no'
route_so method path place.Audit r e = ap (λ (o : Option Route). routed_by method o) e
route_so method path place.Rejudgings r e = ap (λ (o : Option Route). routed_by method o) e
route_so method path place.Rejudging r e = ap (λ (o : Option Route). routed_by method o) e
route_so method path place.Apply r e = ap (λ (o : Option Route). routed_by method o) e
route_so method path place.Cancel r e = ap (λ (o : Option Route). routed_by method o) e

-- a path of a route is routed by the method alone
routed_path : (method path : List ℕ) (r : Route) → path ≡ path_text r → HasIds r → routed_at method (place_in rows path) path ≡ routed_by method (Some r)
routed_path method path r is ids =
    let there = place_of (place_in rows path) path r (ap route_of is ∙ each_path r ids) in
    ap (λ (o : Option Place). routed_at method o path) there.1 ∙ route_so method path there.0 r there.2

route_from : (method path : List ℕ) (o : Option Place) (r : Route) → place_in rows path ≡ o → routed_at method o path ≡ routed.Route r → (route_of path ≡ Some r) × (method ≡ method_of r)
route_from method path None r f e = let no' : ⊥ = cc in absurd no'
route_from method path (Some p) r f e =
    let h = route_there method path p r e in
    (ap (λ (o : Option Place). route_by o path) f ∙ h.0, h.1)

pub routed_iff : (method target : List ℕ) (r : Route) → (routed_of method target ≡ routed.Route r) ↔ ((path_of target ≡ path_text r) × HasIds r × (method ≡ method_of r))
routed_iff method target r = (
  (λ e.
      let h = route_from method (path_of target) (place_in rows (path_of target)) r refl e in
      let path = no_other_path (path_of target) r h.0 in
      (path.0, path.1, h.1)),
  (λ h. routed_path method (path_of target) r h.0 h.1 ∙ routed_so method r h.2),
)

-- ---- /public

public_path : (path : List ℕ) → Spells (pattern_of place.Public) path → path ≡ codes "/public"
public_path path (inl catch) = let no' : ⊥ = cc in absurd no'
public_path path (inr s) = s.2

public_place : place_in rows (codes "/public") ≡ Some place.Public
unfolding rows matchit_on_literals
public_place = refl

public_at : (method path : List ℕ) (p : Place) → place_in rows path ≡ Some p → routed_at method (Some p) path ≡ routed.Public → (path ≡ codes "/public") × (method ≡ codes "GET")
public_at method path place.Hosts f e = absurd (not_public (routed_by method (route_at place.Hosts path)) (routed_plain method (route_at place.Hosts path)) e)
public_at method path place.FetchWork f e = absurd (not_public (routed_by method (route_at place.FetchWork path)) (routed_plain method (route_at place.FetchWork path)) e)
public_at method path place.AddRun f e = absurd (not_public (routed_by method (route_at place.AddRun path)) (routed_plain method (route_at place.AddRun path)) e)
public_at method path place.Renew f e = absurd (not_public (routed_by method (route_at place.Renew path)) (routed_plain method (route_at place.Renew path)) e)
public_at method path place.Down f e = absurd (not_public (routed_by method (route_at place.Down path)) (routed_plain method (route_at place.Down path)) e)
public_at method path place.Job f e = absurd (not_public (routed_by method (route_at place.Job path)) (routed_plain method (route_at place.Job path)) e)
public_at method path place.JobRest f e = absurd (not_public (routed_by method (route_at place.JobRest path)) (routed_plain method (route_at place.JobRest path)) e)
public_at method path place.Judgement f e = absurd (not_public (routed_by method (route_at place.Judgement path)) (routed_plain method (route_at place.Judgement path)) e)
public_at method path place.Submission f e = absurd (not_public (routed_by method (route_at place.Submission path)) (routed_plain method (route_at place.Submission path)) e)
public_at method path place.Verify f e = absurd (not_public (routed_by method (route_at place.Verify path)) (routed_plain method (route_at place.Verify path)) e)
public_at method path place.Ask f e = absurd (not_public (routed_by method (route_at place.Ask path)) (routed_plain method (route_at place.Ask path)) e)
public_at method path place.Board f e = absurd (not_public (routed_by method (route_at place.Board path)) (routed_plain method (route_at place.Board path)) e)
public_at method path place.Public f e = (public_path path (named path place.Public f), (got_is method routed.Public routed.Public e (λ g. let no' : ⊥ = cc in no')).1)
public_at method path place.Page f e =
    let h = got_is method routed.Page routed.Public e (λ g. let no' : ⊥ = cc in no') in
    let is : routed.Page ≡ routed.Public = h.0 in
    let no' : ⊥ = cc in absurd no'
public_at method path place.Contest f e =
    let h = got_is method routed.Contest routed.Public e (λ g. let no' : ⊥ = cc in no') in
    let is : routed.Contest ≡ routed.Public = h.0 in
    let no' : ⊥ = cc in absurd no'
public_at method path place.Audit f e = absurd (not_public (routed_by method (route_at place.Audit path)) (routed_plain method (route_at place.Audit path)) e)
public_at method path place.Rejudgings f e = absurd (not_public (routed_by method (route_at place.Rejudgings path)) (routed_plain method (route_at place.Rejudgings path)) e)
public_at method path place.Rejudging f e = absurd (not_public (routed_by method (route_at place.Rejudging path)) (routed_plain method (route_at place.Rejudging path)) e)
public_at method path place.Apply f e = absurd (not_public (routed_by method (route_at place.Apply path)) (routed_plain method (route_at place.Apply path)) e)
public_at method path place.Cancel f e = absurd (not_public (routed_by method (route_at place.Cancel path)) (routed_plain method (route_at place.Cancel path)) e)

public_from : (method path : List ℕ) (o : Option Place) → place_in rows path ≡ o → routed_at method o path ≡ routed.Public → (path ≡ codes "/public") × (method ≡ codes "GET")
public_from method path None f e = let no' : ⊥ = cc in absurd no'
public_from method path (Some p) f e = public_at method path p f e

public_so : (method path : List ℕ) → path ≡ codes "/public" → routed_at method (place_in rows path) path ≡ got_by method routed.Public
public_so method path is = ap (λ (o : Option Place). routed_at method o path) (ap (λ (z : List ℕ). place_in rows z) is ∙ public_place)

pub public_iff : (method target : List ℕ) → (routed_of method target ≡ routed.Public) ↔ ((path_of target ≡ codes "/public") × (method ≡ codes "GET"))
public_iff method target = (
  public_from method (path_of target) (place_in rows (path_of target)) refl,
  (λ h. public_so method (path_of target) h.0 ∙ got_so method routed.Public h.1),
)

-- ---- /

page_path : (path : List ℕ) → Spells (pattern_of place.Page) path → path ≡ codes "/"
page_path path (inl catch) = let no' : ⊥ = cc in absurd no'
page_path path (inr s) = s.2

page_place : place_in rows (codes "/") ≡ Some place.Page
unfolding rows matchit_on_literals
page_place = refl

page_at : (method path : List ℕ) (p : Place) → place_in rows path ≡ Some p → routed_at method (Some p) path ≡ routed.Page → (path ≡ codes "/") × (method ≡ codes "GET")
page_at method path place.Hosts f e = absurd (not_page (routed_by method (route_at place.Hosts path)) (routed_plain method (route_at place.Hosts path)) e)
page_at method path place.FetchWork f e = absurd (not_page (routed_by method (route_at place.FetchWork path)) (routed_plain method (route_at place.FetchWork path)) e)
page_at method path place.AddRun f e = absurd (not_page (routed_by method (route_at place.AddRun path)) (routed_plain method (route_at place.AddRun path)) e)
page_at method path place.Renew f e = absurd (not_page (routed_by method (route_at place.Renew path)) (routed_plain method (route_at place.Renew path)) e)
page_at method path place.Down f e = absurd (not_page (routed_by method (route_at place.Down path)) (routed_plain method (route_at place.Down path)) e)
page_at method path place.Job f e = absurd (not_page (routed_by method (route_at place.Job path)) (routed_plain method (route_at place.Job path)) e)
page_at method path place.JobRest f e = absurd (not_page (routed_by method (route_at place.JobRest path)) (routed_plain method (route_at place.JobRest path)) e)
page_at method path place.Judgement f e = absurd (not_page (routed_by method (route_at place.Judgement path)) (routed_plain method (route_at place.Judgement path)) e)
page_at method path place.Submission f e = absurd (not_page (routed_by method (route_at place.Submission path)) (routed_plain method (route_at place.Submission path)) e)
page_at method path place.Verify f e = absurd (not_page (routed_by method (route_at place.Verify path)) (routed_plain method (route_at place.Verify path)) e)
page_at method path place.Ask f e = absurd (not_page (routed_by method (route_at place.Ask path)) (routed_plain method (route_at place.Ask path)) e)
page_at method path place.Board f e = absurd (not_page (routed_by method (route_at place.Board path)) (routed_plain method (route_at place.Board path)) e)
page_at method path place.Public f e =
    let h = got_is method routed.Public routed.Page e (λ g. let no' : ⊥ = cc in no') in
    let is : routed.Public ≡ routed.Page = h.0 in
    let no' : ⊥ = cc in absurd no'
page_at method path place.Page f e = (page_path path (named path place.Page f), (got_is method routed.Page routed.Page e (λ g. let no' : ⊥ = cc in no')).1)
page_at method path place.Contest f e =
    let h = got_is method routed.Contest routed.Page e (λ g. let no' : ⊥ = cc in no') in
    let is : routed.Contest ≡ routed.Page = h.0 in
    let no' : ⊥ = cc in absurd no'
page_at method path place.Audit f e = absurd (not_page (routed_by method (route_at place.Audit path)) (routed_plain method (route_at place.Audit path)) e)
page_at method path place.Rejudgings f e = absurd (not_page (routed_by method (route_at place.Rejudgings path)) (routed_plain method (route_at place.Rejudgings path)) e)
page_at method path place.Rejudging f e = absurd (not_page (routed_by method (route_at place.Rejudging path)) (routed_plain method (route_at place.Rejudging path)) e)
page_at method path place.Apply f e = absurd (not_page (routed_by method (route_at place.Apply path)) (routed_plain method (route_at place.Apply path)) e)
page_at method path place.Cancel f e = absurd (not_page (routed_by method (route_at place.Cancel path)) (routed_plain method (route_at place.Cancel path)) e)

page_from : (method path : List ℕ) (o : Option Place) → place_in rows path ≡ o → routed_at method o path ≡ routed.Page → (path ≡ codes "/") × (method ≡ codes "GET")
page_from method path None f e = let no' : ⊥ = cc in absurd no'
page_from method path (Some p) f e = page_at method path p f e

page_so : (method path : List ℕ) → path ≡ codes "/" → routed_at method (place_in rows path) path ≡ got_by method routed.Page
page_so method path is = ap (λ (o : Option Place). routed_at method o path) (ap (λ (z : List ℕ). place_in rows z) is ∙ page_place)

pub page_iff : (method target : List ℕ) → (routed_of method target ≡ routed.Page) ↔ ((path_of target ≡ codes "/") × (method ≡ codes "GET"))
page_iff method target = (
  page_from method (path_of target) (place_in rows (path_of target)) refl,
  (λ h. page_so method (path_of target) h.0 ∙ got_so method routed.Page h.1),
)

-- ---- /contest

contest_path : (path : List ℕ) → Spells (pattern_of place.Contest) path → path ≡ codes "/contest"
contest_path path (inl catch) = let no' : ⊥ = cc in absurd no'
contest_path path (inr s) = s.2

contest_place : place_in rows (codes "/contest") ≡ Some place.Contest
unfolding rows matchit_on_literals
contest_place = refl

contest_at : (method path : List ℕ) (p : Place) → place_in rows path ≡ Some p → routed_at method (Some p) path ≡ routed.Contest → (path ≡ codes "/contest") × (method ≡ codes "GET")
contest_at method path place.Hosts f e = absurd (not_contest (routed_by method (route_at place.Hosts path)) (routed_plain method (route_at place.Hosts path)) e)
contest_at method path place.FetchWork f e = absurd (not_contest (routed_by method (route_at place.FetchWork path)) (routed_plain method (route_at place.FetchWork path)) e)
contest_at method path place.AddRun f e = absurd (not_contest (routed_by method (route_at place.AddRun path)) (routed_plain method (route_at place.AddRun path)) e)
contest_at method path place.Renew f e = absurd (not_contest (routed_by method (route_at place.Renew path)) (routed_plain method (route_at place.Renew path)) e)
contest_at method path place.Down f e = absurd (not_contest (routed_by method (route_at place.Down path)) (routed_plain method (route_at place.Down path)) e)
contest_at method path place.Job f e = absurd (not_contest (routed_by method (route_at place.Job path)) (routed_plain method (route_at place.Job path)) e)
contest_at method path place.JobRest f e = absurd (not_contest (routed_by method (route_at place.JobRest path)) (routed_plain method (route_at place.JobRest path)) e)
contest_at method path place.Judgement f e = absurd (not_contest (routed_by method (route_at place.Judgement path)) (routed_plain method (route_at place.Judgement path)) e)
contest_at method path place.Submission f e = absurd (not_contest (routed_by method (route_at place.Submission path)) (routed_plain method (route_at place.Submission path)) e)
contest_at method path place.Verify f e = absurd (not_contest (routed_by method (route_at place.Verify path)) (routed_plain method (route_at place.Verify path)) e)
contest_at method path place.Ask f e = absurd (not_contest (routed_by method (route_at place.Ask path)) (routed_plain method (route_at place.Ask path)) e)
contest_at method path place.Board f e = absurd (not_contest (routed_by method (route_at place.Board path)) (routed_plain method (route_at place.Board path)) e)
contest_at method path place.Public f e =
    let h = got_is method routed.Public routed.Contest e (λ g. let no' : ⊥ = cc in no') in
    let is : routed.Public ≡ routed.Contest = h.0 in
    let no' : ⊥ = cc in absurd no'
contest_at method path place.Page f e =
    let h = got_is method routed.Page routed.Contest e (λ g. let no' : ⊥ = cc in no') in
    let is : routed.Page ≡ routed.Contest = h.0 in
    let no' : ⊥ = cc in absurd no'
contest_at method path place.Contest f e = (contest_path path (named path place.Contest f), (got_is method routed.Contest routed.Contest e (λ g. let no' : ⊥ = cc in no')).1)
contest_at method path place.Audit f e = absurd (not_contest (routed_by method (route_at place.Audit path)) (routed_plain method (route_at place.Audit path)) e)
contest_at method path place.Rejudgings f e = absurd (not_contest (routed_by method (route_at place.Rejudgings path)) (routed_plain method (route_at place.Rejudgings path)) e)
contest_at method path place.Rejudging f e = absurd (not_contest (routed_by method (route_at place.Rejudging path)) (routed_plain method (route_at place.Rejudging path)) e)
contest_at method path place.Apply f e = absurd (not_contest (routed_by method (route_at place.Apply path)) (routed_plain method (route_at place.Apply path)) e)
contest_at method path place.Cancel f e = absurd (not_contest (routed_by method (route_at place.Cancel path)) (routed_plain method (route_at place.Cancel path)) e)

contest_from : (method path : List ℕ) (o : Option Place) → place_in rows path ≡ o → routed_at method o path ≡ routed.Contest → (path ≡ codes "/contest") × (method ≡ codes "GET")
contest_from method path None f e = let no' : ⊥ = cc in absurd no'
contest_from method path (Some p) f e = contest_at method path p f e

contest_so : (method path : List ℕ) → path ≡ codes "/contest" → routed_at method (place_in rows path) path ≡ got_by method routed.Contest
contest_so method path is = ap (λ (o : Option Place). routed_at method o path) (ap (λ (z : List ℕ). place_in rows z) is ∙ contest_place)

pub contest_iff : (method target : List ℕ) → (routed_of method target ≡ routed.Contest) ↔ ((path_of target ≡ codes "/contest") × (method ≡ codes "GET"))
contest_iff method target = (
  contest_from method (path_of target) (place_in rows (path_of target)) refl,
  (λ h. contest_so method (path_of target) h.0 ∙ got_so method routed.Contest h.1),
)

-- ---- no route

some_route : (method : List ℕ) (r : Route) → routed_by method (Some r) ≢ routed.NoRoute
some_route method r = by (bytes_eq method (method_of r))
  where
    by : (t : Bool) → cond t (routed.Route r) routed.NoMethod ≢ routed.NoRoute
    by true e = let no' : ⊥ = cc in no'
    by false e = let no' : ⊥ = cc in no'

got_some : (method : List ℕ) (what : Routed) → what ≢ routed.NoRoute → got_by method what ≢ routed.NoRoute
got_some method what ne = by (bytes_eq method (codes "GET"))
  where
    by : (t : Bool) → cond t what routed.NoMethod ≢ routed.NoRoute
    by true e = ne e
    by false e = let no' : ⊥ = cc in no'

routed_none : (method path : List ℕ) (o : Option Route) → route_of path ≡ o → NamesNothing path → routed_by method o ≡ routed.NoRoute
routed_none method path None f h = refl
routed_none method path (Some r) f h = let is = no_other_path path r f in absurd (h.route r is.1 is.0)

none_at : (method path : List ℕ) (p : Place) → place_in rows path ≡ Some p → NamesNothing path → routed_at method (Some p) path ≡ routed.NoRoute
none_at method path place.Hosts f h = routed_none method path (route_at place.Hosts path) (ap (λ (o : Option Place). route_by o path) f) h
none_at method path place.FetchWork f h = routed_none method path (route_at place.FetchWork path) (ap (λ (o : Option Place). route_by o path) f) h
none_at method path place.AddRun f h = routed_none method path (route_at place.AddRun path) (ap (λ (o : Option Place). route_by o path) f) h
none_at method path place.Renew f h = routed_none method path (route_at place.Renew path) (ap (λ (o : Option Place). route_by o path) f) h
none_at method path place.Down f h = routed_none method path (route_at place.Down path) (ap (λ (o : Option Place). route_by o path) f) h
none_at method path place.Job f h = routed_none method path (route_at place.Job path) (ap (λ (o : Option Place). route_by o path) f) h
none_at method path place.JobRest f h = routed_none method path (route_at place.JobRest path) (ap (λ (o : Option Place). route_by o path) f) h
none_at method path place.Judgement f h = routed_none method path (route_at place.Judgement path) (ap (λ (o : Option Place). route_by o path) f) h
none_at method path place.Submission f h = routed_none method path (route_at place.Submission path) (ap (λ (o : Option Place). route_by o path) f) h
none_at method path place.Verify f h = routed_none method path (route_at place.Verify path) (ap (λ (o : Option Place). route_by o path) f) h
none_at method path place.Ask f h = routed_none method path (route_at place.Ask path) (ap (λ (o : Option Place). route_by o path) f) h
none_at method path place.Board f h = routed_none method path (route_at place.Board path) (ap (λ (o : Option Place). route_by o path) f) h
none_at method path place.Public f h = absurd (h.public (public_path path (named path place.Public f)))
none_at method path place.Page f h = absurd (h.page (page_path path (named path place.Page f)))
none_at method path place.Contest f h = absurd (h.contest (contest_path path (named path place.Contest f)))
none_at method path place.Audit f h = routed_none method path (route_at place.Audit path) (ap (λ (o : Option Place). route_by o path) f) h
none_at method path place.Rejudgings f h = routed_none method path (route_at place.Rejudgings path) (ap (λ (o : Option Place). route_by o path) f) h
none_at method path place.Rejudging f h = routed_none method path (route_at place.Rejudging path) (ap (λ (o : Option Place). route_by o path) f) h
none_at method path place.Apply f h = routed_none method path (route_at place.Apply path) (ap (λ (o : Option Place). route_by o path) f) h
none_at method path place.Cancel f h = routed_none method path (route_at place.Cancel path) (ap (λ (o : Option Place). route_by o path) f) h

none_from : (method path : List ℕ) (o : Option Place) → place_in rows path ≡ o → NamesNothing path → routed_at method o path ≡ routed.NoRoute
none_from method path None f h = refl
none_from method path (Some p) f h = none_at method path p f h

pub no_route_iff : (method target : List ℕ) → (routed_of method target ≡ routed.NoRoute) ↔ NamesNothing (path_of target)
no_route_iff method target = (
  (λ e. record {
    route = (λ r ids is. some_route method r (sym (routed_path method (path_of target) r is ids) ∙ e));
    public = (λ is. got_some method routed.Public (λ f. let no' : ⊥ = cc in no') (sym (public_so method (path_of target) is) ∙ e));
    page = (λ is. got_some method routed.Page (λ f. let no' : ⊥ = cc in no') (sym (page_so method (path_of target) is) ∙ e));
    contest = (λ is. got_some method routed.Contest (λ f. let no' : ⊥ = cc in no') (sym (contest_so method (path_of target) is) ∙ e));
  }),
  none_from method (path_of target) (place_in rows (path_of target)) refl,
)
