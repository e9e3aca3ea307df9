-- Each path of the table, and no other, names its place.
use Rattle.std.proofs.Common.{ℕ, suc, inl, inr, ◌≡◌, ◌+◌, List, [], ◌∷◌, ◌++◌, Option, Some, None, Bool, true, false, cond, not, refl, sym, ap, ◌∙◌, subst, arith, length, take, drop, get_or, eqb}
use Rattle.std.specs.Prelude.{codes, ⊤}
use Rattle.std.specs.Fmt.{decimal}
use Rattle.std.specs.List.{position_or_len}
use Rattle.std.specs.Option.{option_map}
use Rattle.std.proofs.Math.Seq.{take-append_seam}
use Rattle.matchit.specs.Rows.{RowsOf, param_token}
use Rattle.matchit.specs.Seek.{seek, step, own, first, has_slash, with_suffix}
use Rattle.matchit.specs.Router.{RouteOf}
use Rattle.matchit.proofs.OnLiterals.{matchit_on_literals}
use Rattle.farm_model.specs.Numbers.{number_of}
use Rattle.command_text.proofs.Decimals.{number_of-decimal}
use Rattle.wire_json.specs.declared.routes.Route.{Route}
use Rattle.wire_json.specs.declared.routes.Route.TheVariants as route
use Rattle.wire_job.specs.declared.parts.JobPart.{JobPart}
use Rattle.wire_job.specs.declared.parts.JobPart.TheVariants as part
use Rattle.farm_api.specs.declared.paths.Place.{Place}
use Rattle.farm_api.specs.declared.paths.Place.TheVariants as place
use Rattle.farm_api.specs.Table.{rows, place_in}
use Rattle.farm_api.specs.Routes.{before, behind, id_of, job_of, with_id, job_route, job_with, route_at, route_by, route_of}
use Rattle.route_laws.proofs.Spelling.{AreSlashless}
use Rattle.route_laws.specs.PathTexts.{path_text, IsId, HasIds}
use Rattle.route_laws.proofs.Seeking.{HasRow, Spells, found}
use Rattle.route_laws.proofs.Numerals.{written, digits_slashless, decimal_is_digits}
use Rattle.route_laws.proofs.Walking.{walked, is_plain, walk, goes_on, TakesNumber, number_between, number_at_end, one_slash}

-- ---- what stands before the first slash, and behind it

first_slash : (v more : List ℕ) → has_slash v ≡ false → position_or_len (λ b. eqb b 47) (v ++ 47 ∷ more) ≡ length v
first_slash [] more e = refl
first_slash (b ∷ v) more e = by (eqb b 47) e (first_slash v more)
  where
    by : (t : Bool) → cond t true (has_slash v) ≡ false → (has_slash v ≡ false → position_or_len (λ x. eqb x 47) (v ++ 47 ∷ more) ≡ length v) → cond (not t) (1 + position_or_len (λ x. eqb x 47) (v ++ 47 ∷ more)) 0 ≡ length (b ∷ v)
    by true f h = let no' : ⊥ = cc in absurd no'
    by false f h = let n = h f in omega (arith, n)

no_slash : (v : List ℕ) → has_slash v ≡ false → position_or_len (λ b. eqb b 47) v ≡ length v
no_slash [] e = refl
no_slash (b ∷ v) e = by (eqb b 47) e (no_slash v)
  where
    by : (t : Bool) → cond t true (has_slash v) ≡ false → (has_slash v ≡ false → position_or_len (λ x. eqb x 47) v ≡ length v) → cond (not t) (1 + position_or_len (λ x. eqb x 47) v) 0 ≡ length (b ∷ v)
    by true f h = let no' : ⊥ = cc in absurd no'
    by false f h = let n = h f in omega (arith, n)

before_slash : (v more : List ℕ) → has_slash v ≡ false → before 47 (v ++ 47 ∷ more) ≡ v
before_slash v more e = ap (λ (n : ℕ). take n (v ++ 47 ∷ more)) (first_slash v more e) ∙ take-append_seam v (47 ∷ more)

before_none : (v : List ℕ) → has_slash v ≡ false → before 47 v ≡ v
before_none v e = ap (λ (n : ℕ). take n v) (no_slash v e) ∙ all_of v
  where
    all_of : (xs : List ℕ) → take (length xs) xs ≡ xs
    all_of [] = refl
    all_of (x ∷ xs) = ap (λ (z : List ℕ). x ∷ z) (all_of xs)

behind_slash : (v more : List ℕ) → has_slash v ≡ false → behind 47 (v ++ 47 ∷ more) ≡ more
behind_slash v more e = ap (λ (n : ℕ). drop (n + 1) (v ++ 47 ∷ more)) (first_slash v more e) ∙ past v
  where
    past : (xs : List ℕ) → drop (length xs + 1) (xs ++ 47 ∷ more) ≡ more
    past [] = refl
    past (x ∷ xs) = let n : length (x ∷ xs) + 1 ≡ suc (length xs + 1) = omega arith in ap (λ (m : ℕ). drop m (x ∷ (xs ++ 47 ∷ more))) n ∙ past xs

-- ---- the patterns of the table

abbrev pub pattern_of : Place → List ℕ
pattern_of place.Hosts = codes "/judgehosts"
pattern_of place.FetchWork = codes "/judgehosts/fetch-work"
pattern_of place.AddRun = codes "/judgehosts/add-judging-run"
pattern_of place.Renew = codes "/judgehosts/renew"
pattern_of place.Down = codes "/judgehosts/down"
pattern_of place.Job = codes "/judgehosts/job/" ++ (param_token ∷ (codes "/" ++ param_token ∷ []))
pattern_of place.JobRest = codes "/judgehosts/job/" ++ (param_token ∷ (codes "/" ++ (param_token ∷ codes "/rest")))
pattern_of place.Judgement = codes "/judgements/" ++ (param_token ∷ codes "")
pattern_of place.Submission = codes "/judgements/" ++ (param_token ∷ codes "/submission")
pattern_of place.Verify = codes "/judgements/" ++ (param_token ∷ codes "/verify")
pattern_of place.Ask = codes "/judgements/" ++ (param_token ∷ codes "/ask")
pattern_of place.Board = codes "/board"
pattern_of place.Public = codes "/public"
pattern_of place.Page = codes "/"
pattern_of place.Contest = codes "/contest"
pattern_of place.Audit = codes "/audit"
pattern_of place.Rejudgings = codes "/rejudgings"
pattern_of place.Rejudging = codes "/rejudgings/" ++ (param_token ∷ codes "")
pattern_of place.Apply = codes "/rejudgings/" ++ (param_token ∷ codes "/apply")
pattern_of place.Cancel = codes "/rejudgings/" ++ (param_token ∷ codes "/cancel")

abbrev AreKeyed : RowsOf (RouteOf Place) → Type 0
AreKeyed [] = ⊤
AreKeyed ((t, row) ∷ rest) = (t ≡ pattern_of row.value) × AreKeyed rest

are_keyed : AreKeyed rows
unfolding rows matchit_on_literals
are_keyed = (refl, (refl, (refl, (refl, (refl, (refl, (refl, (refl, (refl, (refl, (refl, (refl, (refl, (refl, (refl, (refl, (refl, (refl, (refl, (refl, tt))))))))))))))))))))

keyed : (rs : RowsOf (RouteOf Place)) (t : List ℕ) (row : RouteOf Place) → AreKeyed rs → HasRow rs t row → t ≡ pattern_of row.value
keyed [] t row all there = absurd there
keyed ((s, key) ∷ rs) t row all (inl is) =
    let same_t : s ≡ t = ap (λ (x : List ℕ × RouteOf Place). x.0) is in
    let same_row : key ≡ row = ap (λ (x : List ℕ × RouteOf Place). x.1) is in
    sym same_t ∙ (all.0 ∙ ap (λ (x : RouteOf Place). pattern_of x.value) same_row)
keyed ((s, key) ∷ rs) t row all (inr there) = keyed rs t row all.1 there

row_of : (o : Option (RouteOf Place)) (p : Place) → option_map (λ row. row.value) o ≡ Some p → (row : RouteOf Place) × (o ≡ Some row) × (row.value ≡ p)
row_of None p e = let no' : ⊥ = cc in absurd no'
row_of (Some row) p e = (row, refl, let is : row.value ≡ p = cc in is)

-- a path that names a place is spelled by its pattern
pub named : (path : List ℕ) (p : Place) → place_in rows path ≡ Some p → Spells (pattern_of p) path
named path p e =
    let row = row_of (first rows path) p e in
    let f = found 0 rows path row.0 row.1 in
    subst (λ (t : List ℕ). Spells t path) (keyed rows f.pattern row.0 are_keyed f.there ∙ ap pattern_of row.2) f.spells

-- ---- no other path names a route

fixed : (path : List ℕ) (named r : Route) → path ≡ path_text named → HasIds named → Some named ≡ Some r → (path ≡ path_text r) × HasIds r
fixed path named r is ids e = let same : named ≡ r = cc in subst (λ (x : Route). (path ≡ path_text x) × HasIds x) same (is, ids)

id_said : (make : ℕ → Route) (o : Option ℕ) (r : Route) → with_id make o ≡ Some r → (id : ℕ) × (o ≡ Some id) × (make id ≡ r)
id_said make None r e = let no' : ⊥ = cc in absurd no'
id_said make (Some id) r e = (id, refl, let is : make id ≡ r = cc in is)

with_one : (make : ℕ → Route) (prefix back v path : List ℕ) (r : Route) → path ≡ prefix ++ (v ++ back) → id_of path ≡ number_of v
    → ((id : ℕ) → path_text (make id) ≡ prefix ++ (decimal id ++ back)) → ((id : ℕ) → IsId id → HasIds (make id)) → with_id make (id_of path) ≡ Some r → (path ≡ path_text r) × HasIds r
with_one make prefix back v path r is read text ids e =
    let said = id_said make (id_of path) r e in
    let w = written v said.0 (sym read ∙ said.1) in
    subst (λ (x : Route). (path ≡ path_text x) × HasIds x) said.2 (is ∙ (ap (λ (z : List ℕ). prefix ++ (z ++ back)) w.0 ∙ sym (text said.0)), ids said.0 w.1)

with_last : (make : ℕ → Route) (prefix v path : List ℕ) (r : Route) → path ≡ prefix ++ v → id_of path ≡ number_of v
    → ((id : ℕ) → path_text (make id) ≡ prefix ++ decimal id) → ((id : ℕ) → IsId id → HasIds (make id)) → with_id make (id_of path) ≡ Some r → (path ≡ path_text r) × HasIds r
with_last make prefix v path r is read text ids e =
    let said = id_said make (id_of path) r e in
    let w = written v said.0 (sym read ∙ said.1) in
    subst (λ (x : Route). (path ≡ path_text x) × HasIds x) said.2 (is ∙ (ap (λ (z : List ℕ). prefix ++ z) w.0 ∙ sym (text said.0)), ids said.0 w.1)

job_said : (q : JobPart) (o p : Option ℕ) (r : Route) → job_with q o p ≡ Some r → (judging test : ℕ) × (o ≡ Some judging) × (p ≡ Some test) × (job_route q judging test ≡ r)
job_said q None p r e = let no' : ⊥ = cc in absurd no'
job_said q (Some judging) None r e = let no' : ⊥ = cc in absurd no'
job_said q (Some judging) (Some test) r e = (judging, test, refl, refl, let is : job_route q judging test ≡ r = cc in is)

slashless_first : (values : List (List ℕ)) → AreSlashless values → has_slash (get_or values 0 []) ≡ false
slashless_first [] h = refl
slashless_first (v ∷ values) h = h.0

slashless_second : (values : List (List ℕ)) → AreSlashless values → has_slash (get_or (drop 1 values) 0 []) ≡ false
slashless_second [] h = refl
slashless_second (v ∷ values) h = slashless_first values h.1

-- what is read of the path of a job: the numbers v and w, of which w begins the tail
job_read : (q : JobPart) (path v w tail : List ℕ) → path ≡ codes "/judgehosts/job/" ++ (v ++ 47 ∷ tail) → has_slash v ≡ false → before 47 tail ≡ w → job_of q path ≡ job_with q (number_of v) (number_of w)
job_read q path v w tail is none begins =
    ap (job_of q) is
    ∙ (ap (λ (x : List ℕ). job_with q (number_of x) (number_of (before 47 (behind 47 (v ++ 47 ∷ tail))))) (before_slash v tail none)
    ∙ (ap (λ (x : List ℕ). job_with q (number_of v) (number_of (before 47 x))) (behind_slash v tail none) ∙ ap (λ (x : List ℕ). job_with q (number_of v) (number_of x)) begins))

with_two : (q : JobPart) (tail : List ℕ → List ℕ) (path v w : List ℕ) (r : Route) → path ≡ codes "/judgehosts/job/" ++ (v ++ 47 ∷ tail w) → has_slash v ≡ false → before 47 (tail w) ≡ w
    → ((judging test : ℕ) → path_text (job_route q judging test) ≡ codes "/judgehosts/job/" ++ (decimal judging ++ 47 ∷ tail (decimal test)))
    → ((judging test : ℕ) → IsId judging → IsId test → HasIds (job_route q judging test)) → job_of q path ≡ Some r → (path ≡ path_text r) × HasIds r
with_two q tail path v w r is none begins text ids e =
    let said = job_said q (number_of v) (number_of w) r (sym (job_read q path v w (tail w) is none begins) ∙ e) in
    let first_id = written v said.0 said.2 in
    let second_id = written w said.1 said.3 in
    subst (λ (x : Route). (path ≡ path_text x) × HasIds x) said.4 (
      is ∙ (ap (λ (z : List ℕ). codes "/judgehosts/job/" ++ (z ++ 47 ∷ tail w)) first_id.0
          ∙ (ap (λ (z : List ℕ). codes "/judgehosts/job/" ++ (decimal said.0 ++ 47 ∷ tail z)) second_id.0 ∙ sym (text said.0 said.1))),
      ids said.0 said.1 first_id.1 second_id.1,
    )

no_catch : {A : Type 0} → false ≡ true → A
no_catch e = let no' : ⊥ = cc in absurd no'

nothing_behind : (xs : List ℕ) → xs ++ [] ≡ xs
nothing_behind [] = refl
nothing_behind (x ∷ xs) = ap (λ (z : List ℕ). x ∷ z) (nothing_behind xs)

spelled_route : (p : Place) (path : List ℕ) (r : Route) → Spells (pattern_of p) path → route_at p path ≡ Some r → (path ≡ path_text r) × HasIds r
spelled_route place.Hosts path r (inl catch) e = no_catch catch
spelled_route place.Hosts path r (inr s) e = fixed path route.Hosts r s.2 tt e
spelled_route place.FetchWork path r (inl catch) e = no_catch catch
spelled_route place.FetchWork path r (inr s) e = fixed path route.FetchWork r s.2 tt e
spelled_route place.AddRun path r (inl catch) e = no_catch catch
spelled_route place.AddRun path r (inr s) e = fixed path route.AddRun r s.2 tt e
spelled_route place.Renew path r (inl catch) e = no_catch catch
spelled_route place.Renew path r (inr s) e = fixed path route.Renew r s.2 tt e
spelled_route place.Down path r (inl catch) e = no_catch catch
spelled_route place.Down path r (inr s) e = fixed path route.Down r s.2 tt e
spelled_route place.Job path r (inl catch) e = no_catch catch
spelled_route place.Job path r (inr s) e =
    let v = get_or s.0 0 [] in
    let w = get_or (drop 1 s.0) 0 [] in
    with_two part.Whole (λ z. z) path v w r (s.2 ∙ ap (λ (z : List ℕ). codes "/judgehosts/job/" ++ (v ++ 47 ∷ z)) (nothing_behind w)) (slashless_first s.0 s.1)
    (before_none w (slashless_second s.0 s.1)) (λ judging test. refl) (λ judging test h k. (h, k)) e
spelled_route place.JobRest path r (inl catch) e = no_catch catch
spelled_route place.JobRest path r (inr s) e =
    let v = get_or s.0 0 [] in
    let w = get_or (drop 1 s.0) 0 [] in
    with_two part.Rest (λ z. z ++ codes "/rest") path v w r s.2 (slashless_first s.0 s.1) (before_slash w (codes "rest") (slashless_second s.0 s.1)) (λ judging test. refl) (λ judging test h k. (h, k)) e
spelled_route place.Judgement path r (inl catch) e = no_catch catch
spelled_route place.Judgement path r (inr s) e =
    let v = get_or s.0 0 [] in
    let is : path ≡ codes "/judgements/" ++ v = s.2 ∙ ap (λ (z : List ℕ). codes "/judgements/" ++ z) (nothing_behind v) in
    let read : id_of path ≡ number_of v = ap id_of is ∙ ap number_of (before_none v (slashless_first s.0 s.1)) in
    with_last route.Judgement (codes "/judgements/") v path r is read (λ id. refl) (λ id h. h) e
spelled_route place.Submission path r (inl catch) e = no_catch catch
spelled_route place.Submission path r (inr s) e =
    let v = get_or s.0 0 [] in
    let read : id_of path ≡ number_of v = ap id_of s.2 ∙ ap number_of (before_slash v (codes "submission") (slashless_first s.0 s.1)) in
    with_one route.Submission (codes "/judgements/") (codes "/submission") v path r s.2 read (λ id. refl) (λ id h. h) e
spelled_route place.Verify path r (inl catch) e = no_catch catch
spelled_route place.Verify path r (inr s) e =
    let v = get_or s.0 0 [] in
    let read : id_of path ≡ number_of v = ap id_of s.2 ∙ ap number_of (before_slash v (codes "verify") (slashless_first s.0 s.1)) in
    with_one route.Verify (codes "/judgements/") (codes "/verify") v path r s.2 read (λ id. refl) (λ id h. h) e
spelled_route place.Ask path r (inl catch) e = no_catch catch
spelled_route place.Ask path r (inr s) e =
    let v = get_or s.0 0 [] in
    let read : id_of path ≡ number_of v = ap id_of s.2 ∙ ap number_of (before_slash v (codes "ask") (slashless_first s.0 s.1)) in
    with_one route.Ask (codes "/judgements/") (codes "/ask") v path r s.2 read (λ id. refl) (λ id h. h) e
spelled_route place.Board path r (inl catch) e = no_catch catch
spelled_route place.Board path r (inr s) e = fixed path route.Board r s.2 tt e
spelled_route place.Public path r (inl catch) e = no_catch catch
spelled_route place.Public path r (inr s) e = let no' : ⊥ = cc in absurd no'
spelled_route place.Page path r (inl catch) e = no_catch catch
spelled_route place.Page path r (inr s) e = let no' : ⊥ = cc in absurd no'
spelled_route place.Contest path r (inl catch) e = no_catch catch
spelled_route place.Contest path r (inr s) e = let no' : ⊥ = cc in absurd no'
spelled_route place.Audit path r (inl catch) e = no_catch catch
spelled_route place.Audit path r (inr s) e = fixed path route.Audit r s.2 tt e
spelled_route place.Rejudgings path r (inl catch) e = no_catch catch
spelled_route place.Rejudgings path r (inr s) e = fixed path route.Rejudgings r s.2 tt e
spelled_route place.Rejudging path r (inl catch) e = no_catch catch
spelled_route place.Rejudging path r (inr s) e =
    let v = get_or s.0 0 [] in
    let is : path ≡ codes "/rejudgings/" ++ v = s.2 ∙ ap (λ (z : List ℕ). codes "/rejudgings/" ++ z) (nothing_behind v) in
    let read : id_of path ≡ number_of v = ap id_of is ∙ ap number_of (before_none v (slashless_first s.0 s.1)) in
    with_last route.Rejudging (codes "/rejudgings/") v path r is read (λ id. refl) (λ id h. h) e
spelled_route place.Apply path r (inl catch) e = no_catch catch
spelled_route place.Apply path r (inr s) e =
    let v = get_or s.0 0 [] in
    let read : id_of path ≡ number_of v = ap id_of s.2 ∙ ap number_of (before_slash v (codes "apply") (slashless_first s.0 s.1)) in
    with_one route.Apply (codes "/rejudgings/") (codes "/apply") v path r s.2 read (λ id. refl) (λ id h. h) e
spelled_route place.Cancel path r (inl catch) e = no_catch catch
spelled_route place.Cancel path r (inr s) e =
    let v = get_or s.0 0 [] in
    let read : id_of path ≡ number_of v = ap id_of s.2 ∙ ap number_of (before_slash v (codes "cancel") (slashless_first s.0 s.1)) in
    with_one route.Cancel (codes "/rejudgings/") (codes "/cancel") v path r s.2 read (λ id. refl) (λ id h. h) e

pub place_of : (o : Option Place) (path : List ℕ) (r : Route) → route_by o path ≡ Some r → (p : Place) × (o ≡ Some p) × (route_at p path ≡ Some r)
place_of None path r e = let no' : ⊥ = cc in absurd no'
place_of (Some p) path r e = (p, refl, e)

-- a path that names a route is its path
pub no_other_path : (path : List ℕ) (r : Route) → route_of path ≡ Some r → (path ≡ path_text r) × HasIds r
no_other_path path r e =
    let named_place = place_of (place_in rows path) path r e in
    spelled_route named_place.0 path r (named path named_place.0 named_place.1) named_place.2

-- ---- the path of each route names it

number_read : (id : ℕ) → IsId id → number_of (decimal id) ≡ Some id
number_read id h = number_of-decimal id h

place_between : (prefix back : List ℕ) (p : Place) → is_plain prefix rows ≡ true → TakesNumber (walked prefix rows) → goes_on (step param_token (walked prefix rows)) ≡ true
    → option_map (λ row. row.value) (seek 0 (with_suffix one_slash (step param_token (walked prefix rows))) (47 ∷ back)) ≡ Some p
    → (id : ℕ) → IsId id → place_in rows (prefix ++ (decimal id ++ 47 ∷ back)) ≡ Some p
place_between prefix back p plain takes on there id h =
    ap (λ (o : Option (RouteOf Place)). option_map (λ row. row.value) o) (
    walk prefix rows (decimal id ++ 47 ∷ back) plain ∙ number_between (walked prefix rows) (decimal id) back (decimal_is_digits id h) takes on
    )
    ∙ there

place_last : (prefix : List ℕ) (p : Place) → is_plain prefix rows ≡ true → TakesNumber (walked prefix rows)
    → option_map (λ row. row.value) (own (step param_token (walked prefix rows))) ≡ Some p → (id : ℕ) → IsId id → place_in rows (prefix ++ decimal id) ≡ Some p
place_last prefix p plain takes there id h =
    ap (λ (o : Option (RouteOf Place)). option_map (λ row. row.value) o) (walk prefix rows (decimal id) plain ∙ number_at_end (walked prefix rows) (decimal id) (decimal_is_digits id h) takes)
    ∙ there

make_route : (make : ℕ → Route) (path : List ℕ) (p : Place) (id : ℕ) → IsId id → place_in rows path ≡ Some p → route_at p path ≡ with_id make (id_of path)
    → id_of path ≡ number_of (decimal id) → route_of path ≡ Some (make id)
make_route make path p id h there at read =
    ap (λ (o : Option Place). route_by o path) there ∙ (at ∙ ap (λ (o : Option ℕ). with_id make o) (read ∙ number_read id h))

decimal_slashless : (id : ℕ) → IsId id → has_slash (decimal id) ≡ false
decimal_slashless id h = digits_slashless (decimal id) ((decimal_is_digits id h).digits)

judgements_plain : is_plain (codes "/judgements/") rows ≡ true
unfolding rows matchit_on_literals
judgements_plain = refl

judgements_take : TakesNumber (walked (codes "/judgements/") rows)
unfolding rows matchit_on_literals
judgements_take = record { params = refl; plain = refl }

judgements_go_on : goes_on (step param_token (walked (codes "/judgements/") rows)) ≡ true
unfolding rows matchit_on_literals
judgements_go_on = refl

rejudgings_plain : is_plain (codes "/rejudgings/") rows ≡ true
unfolding rows matchit_on_literals
rejudgings_plain = refl

rejudgings_take : TakesNumber (walked (codes "/rejudgings/") rows)
unfolding rows matchit_on_literals
rejudgings_take = record { params = refl; plain = refl }

rejudgings_go_on : goes_on (step param_token (walked (codes "/rejudgings/") rows)) ≡ true
unfolding rows matchit_on_literals
rejudgings_go_on = refl

jobs_plain : is_plain (codes "/judgehosts/job/") rows ≡ true
unfolding rows matchit_on_literals
jobs_plain = refl

jobs_take : TakesNumber (walked (codes "/judgehosts/job/") rows)
unfolding rows matchit_on_literals
jobs_take = record { params = refl; plain = refl }

jobs_go_on : goes_on (step param_token (walked (codes "/judgehosts/job/") rows)) ≡ true
unfolding rows matchit_on_literals
jobs_go_on = refl

judgement_place : option_map (λ row. row.value) (own (step param_token (walked (codes "/judgements/") rows))) ≡ Some place.Judgement
unfolding rows matchit_on_literals
judgement_place = refl

judgement_path : (id : ℕ) → IsId id → route_of (path_text (route.Judgement id)) ≡ Some (route.Judgement id)
judgement_path id h =
    make_route route.Judgement (path_text (route.Judgement id)) place.Judgement id h (place_last (codes "/judgements/") place.Judgement judgements_plain judgements_take judgement_place id h) refl
    (ap number_of (before_none (decimal id) (decimal_slashless id h)))

submission_place : option_map (λ row. row.value) (seek 0 (with_suffix one_slash (step param_token (walked (codes "/judgements/") rows))) (codes "/submission")) ≡ Some place.Submission
unfolding rows matchit_on_literals
submission_place = refl

submission_path : (id : ℕ) → IsId id → route_of (path_text (route.Submission id)) ≡ Some (route.Submission id)
submission_path id h =
    make_route route.Submission (path_text (route.Submission id)) place.Submission id h (place_between (codes "/judgements/") (codes "submission") place.Submission judgements_plain judgements_take judgements_go_on submission_place id h) refl
    (ap number_of (before_slash (decimal id) (codes "submission") (decimal_slashless id h)))

verify_place : option_map (λ row. row.value) (seek 0 (with_suffix one_slash (step param_token (walked (codes "/judgements/") rows))) (codes "/verify")) ≡ Some place.Verify
unfolding rows matchit_on_literals
verify_place = refl

verify_path : (id : ℕ) → IsId id → route_of (path_text (route.Verify id)) ≡ Some (route.Verify id)
verify_path id h =
    make_route route.Verify (path_text (route.Verify id)) place.Verify id h (place_between (codes "/judgements/") (codes "verify") place.Verify judgements_plain judgements_take judgements_go_on verify_place id h) refl
    (ap number_of (before_slash (decimal id) (codes "verify") (decimal_slashless id h)))

ask_place : option_map (λ row. row.value) (seek 0 (with_suffix one_slash (step param_token (walked (codes "/judgements/") rows))) (codes "/ask")) ≡ Some place.Ask
unfolding rows matchit_on_literals
ask_place = refl

ask_path : (id : ℕ) → IsId id → route_of (path_text (route.Ask id)) ≡ Some (route.Ask id)
ask_path id h =
    make_route route.Ask (path_text (route.Ask id)) place.Ask id h (place_between (codes "/judgements/") (codes "ask") place.Ask judgements_plain judgements_take judgements_go_on ask_place id h) refl
    (ap number_of (before_slash (decimal id) (codes "ask") (decimal_slashless id h)))

rejudging_place : option_map (λ row. row.value) (own (step param_token (walked (codes "/rejudgings/") rows))) ≡ Some place.Rejudging
unfolding rows matchit_on_literals
rejudging_place = refl

rejudging_path : (id : ℕ) → IsId id → route_of (path_text (route.Rejudging id)) ≡ Some (route.Rejudging id)
rejudging_path id h =
    make_route route.Rejudging (path_text (route.Rejudging id)) place.Rejudging id h (place_last (codes "/rejudgings/") place.Rejudging rejudgings_plain rejudgings_take rejudging_place id h) refl
    (ap number_of (before_none (decimal id) (decimal_slashless id h)))

apply_place : option_map (λ row. row.value) (seek 0 (with_suffix one_slash (step param_token (walked (codes "/rejudgings/") rows))) (codes "/apply")) ≡ Some place.Apply
unfolding rows matchit_on_literals
apply_place = refl

apply_path : (id : ℕ) → IsId id → route_of (path_text (route.Apply id)) ≡ Some (route.Apply id)
apply_path id h =
    make_route route.Apply (path_text (route.Apply id)) place.Apply id h (place_between (codes "/rejudgings/") (codes "apply") place.Apply rejudgings_plain rejudgings_take rejudgings_go_on apply_place id h) refl
    (ap number_of (before_slash (decimal id) (codes "apply") (decimal_slashless id h)))

cancel_place : option_map (λ row. row.value) (seek 0 (with_suffix one_slash (step param_token (walked (codes "/rejudgings/") rows))) (codes "/cancel")) ≡ Some place.Cancel
unfolding rows matchit_on_literals
cancel_place = refl

cancel_path : (id : ℕ) → IsId id → route_of (path_text (route.Cancel id)) ≡ Some (route.Cancel id)
cancel_path id h =
    make_route route.Cancel (path_text (route.Cancel id)) place.Cancel id h (place_between (codes "/rejudgings/") (codes "cancel") place.Cancel rejudgings_plain rejudgings_take rejudgings_go_on cancel_place id h) refl
    (ap number_of (before_slash (decimal id) (codes "cancel") (decimal_slashless id h)))

-- the numbers in the path of a job
job_named : (q : JobPart) (path tail : List ℕ) (judging test : ℕ) → IsId judging → IsId test → path ≡ codes "/judgehosts/job/" ++ (decimal judging ++ 47 ∷ tail) → before 47 tail ≡ decimal test
    → job_of q path ≡ Some (job_route q judging test)
job_named q path tail judging test h k is begins =
    job_read q path (decimal judging) (decimal test) tail is (decimal_slashless judging h) begins
    ∙ (ap (λ (o : Option ℕ). job_with q o (number_of (decimal test))) (number_read judging h) ∙ ap (λ (o : Option ℕ). job_with q (Some judging) o) (number_read test k))

-- behind the judging of a job
abbrev tests : RowsOf (RouteOf Place)
tests = with_suffix one_slash (step param_token (walked (codes "/judgehosts/job/") rows))

tests_plain : is_plain one_slash tests ≡ true
unfolding rows matchit_on_literals
tests_plain = refl

tests_take : TakesNumber (walked one_slash tests)
unfolding rows matchit_on_literals
tests_take = record { params = refl; plain = refl }

job_place : option_map (λ row. row.value) (own (step param_token (walked one_slash tests))) ≡ Some place.Job
unfolding rows matchit_on_literals
job_place = refl

job_path : (judging test : ℕ) → IsId judging → IsId test → route_of (path_text (route.Job judging test)) ≡ Some (route.Job judging test)
job_path judging test h k =
    let prefix = codes "/judgehosts/job/" in
    let path = path_text (route.Job judging test) in
    let leads : first rows path ≡ own (step param_token (walked one_slash tests))
    = walk prefix rows (decimal judging ++ 47 ∷ decimal test) jobs_plain
    ∙ (number_between (walked prefix rows) (decimal judging) (decimal test) (decimal_is_digits judging h) jobs_take jobs_go_on
    ∙ (walk one_slash tests (decimal test) tests_plain ∙ number_at_end (walked one_slash tests) (decimal test) (decimal_is_digits test k) tests_take)) in
    let there : place_in rows path ≡ Some place.Job = ap (λ (o : Option (RouteOf Place)). option_map (λ row. row.value) o) leads ∙ job_place in
    ap (λ (o : Option Place). route_by o path) there
    ∙ job_named part.Whole path (decimal test) judging test h k refl (before_none (decimal test) (decimal_slashless test k))

tests_go_on : goes_on (step param_token (walked one_slash tests)) ≡ true
unfolding rows matchit_on_literals
tests_go_on = refl

rest_place : option_map (λ row. row.value) (seek 0 (with_suffix one_slash (step param_token (walked one_slash tests))) (codes "/rest")) ≡ Some place.JobRest
unfolding rows matchit_on_literals
rest_place = refl

rest_path : (judging test : ℕ) → IsId judging → IsId test → route_of (path_text (route.JobRest judging test)) ≡ Some (route.JobRest judging test)
rest_path judging test h k =
    let prefix = codes "/judgehosts/job/" in
    let path = path_text (route.JobRest judging test) in
    let tail = decimal test ++ codes "/rest" in
    let leads : first rows path ≡ seek 0 (with_suffix one_slash (step param_token (walked one_slash tests))) (codes "/rest")
    = walk prefix rows (decimal judging ++ 47 ∷ tail) jobs_plain
    ∙ (number_between (walked prefix rows) (decimal judging) tail (decimal_is_digits judging h) jobs_take jobs_go_on
    ∙ (walk one_slash tests tail tests_plain ∙ number_between (walked one_slash tests) (decimal test) (codes "rest") (decimal_is_digits test k) tests_take tests_go_on)) in
    let there : place_in rows path ≡ Some place.JobRest = ap (λ (o : Option (RouteOf Place)). option_map (λ row. row.value) o) leads ∙ rest_place in
    ap (λ (o : Option Place). route_by o path) there
    ∙ job_named part.Rest path tail judging test h k refl (before_slash (decimal test) (codes "rest") (decimal_slashless test k))

hosts_path : route_of (codes "/judgehosts") ≡ Some route.Hosts
unfolding rows matchit_on_literals
hosts_path = refl

fetchwork_path : route_of (codes "/judgehosts/fetch-work") ≡ Some route.FetchWork
unfolding rows matchit_on_literals
fetchwork_path = refl

addrun_path : route_of (codes "/judgehosts/add-judging-run") ≡ Some route.AddRun
unfolding rows matchit_on_literals
addrun_path = refl

renew_path : route_of (codes "/judgehosts/renew") ≡ Some route.Renew
unfolding rows matchit_on_literals
renew_path = refl

down_path : route_of (codes "/judgehosts/down") ≡ Some route.Down
unfolding rows matchit_on_literals
down_path = refl

board_path : route_of (codes "/board") ≡ Some route.Board
unfolding rows matchit_on_literals
board_path = refl

audit_path : route_of (codes "/audit") ≡ Some route.Audit
unfolding rows matchit_on_literals
audit_path = refl

rejudgings_path : route_of (codes "/rejudgings") ≡ Some route.Rejudgings
unfolding rows matchit_on_literals
rejudgings_path = refl

pub each_path : (r : Route) → HasIds r → route_of (path_text r) ≡ Some r
each_path (route.Job judging test) h = job_path judging test h.0 h.1
each_path (route.JobRest judging test) h = rest_path judging test h.0 h.1
each_path (route.Judgement id) h = judgement_path id h
each_path (route.Submission id) h = submission_path id h
each_path (route.Verify id) h = verify_path id h
each_path (route.Ask id) h = ask_path id h
each_path (route.Rejudging id) h = rejudging_path id h
each_path (route.Apply id) h = apply_path id h
each_path (route.Cancel id) h = cancel_path id h
each_path route.Hosts h = hosts_path
each_path route.FetchWork h = fetchwork_path
each_path route.AddRun h = addrun_path
each_path route.Renew h = renew_path
each_path route.Down h = down_path
each_path route.Board h = board_path
each_path route.Audit h = audit_path
each_path route.Rejudgings h = rejudgings_path
