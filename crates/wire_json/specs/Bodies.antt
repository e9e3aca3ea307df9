-- What the body of a request says.
use Rattle.std.specs.Prelude.{ℕ, List, [], ◌∷◌, Bool, true, false, ◌==◌, ◌||◌, nat_lt, Option, Some, None, if◌then◌else◌, option_and_then, Result, Ok, Err}
use Rattle.std.specs.List.{count_by}
use Rattle.std.specs.Str.{is_utf8}
use Rattle.serde_json.specs.Data.{Data, object, no_members, null, boolean, number, string, array}
use Rattle.serde_json.specs.Read.{read}
use Rattle.farm_kinds.specs.Names.{jury}
use Rattle.wire_json.specs.declared.bodies.Body.{Body}
use Rattle.wire_json.specs.declared.bodies.Body.TheVariants as body
use Rattle.wire_json.specs.declared.faults.BodyFault.{BodyFault}
use Rattle.wire_json.specs.declared.faults.BodyFault.TheVariants.{NotJson, TooManyValues, TooLongStrings}
use Rattle.wire_json.specs.declared.faults.Field.TheVariants as field
use Rattle.wire_json.specs.declared.routes.Route.{Route}
use Rattle.wire_json.specs.declared.routes.Route.TheVariants as route
use Rattle.wire_json.specs.Fields.{needed, optional, name_in, number_in, kind_in, max_in, numbers_in}
use Rattle.wire_json.specs.Strings.{has_too_long_strings}

-- the value, where it is an object
abbrev pub only_object : Data → Option Data
only_object null = None
only_object (boolean b) = None
only_object (number n) = None
only_object (string s) = None
only_object (array values) = None
only_object (object fields) = Some (object fields)

-- the object that a body is; an empty body counts as `{}`. JSON is what the library reads, in UTF-8
abbrev pub object_of : List ℕ → Option Data
object_of [] = Some (object no_members)
object_of (b ∷ bytes) = if is_utf8 (b ∷ bytes) then option_and_then only_object (read (b ∷ bytes)) else None

-- the byte begins a list, an object, or what stands behind their first value (RFC 8259, section 2)
abbrev pub begins_value : ℕ → Bool
begins_value b = (b == 44) || ((b == 91) || (b == 123))

-- A body with more than 131,072 bytes that begin a value would take many times its size to be read, and says nothing that a
-- shorter one could not: there are fewer submissions.
abbrev pub has_too_many_values : List ℕ → Bool
has_too_many_values bytes = nat_lt 131072 (count_by begins_value bytes)

-- what comes after what was said
abbrev pub next : {A B : Type 0} → Result A BodyFault → (A → Result B BodyFault) → Result B BodyFault
next (Ok a) f = f a
next (Err fault) f = Err fault

-- Each list of fields, in the order in which they are looked at

abbrev pub host_body : Data → Result Body BodyFault
host_body d = next (needed field.Hostname name_in d) (λ hostname. Ok (body.Host hostname))

abbrev pub fetch_body : Data → Result Body BodyFault
fetch_body d =
    next (needed field.Hostname name_in d) (λ hostname.
    next (optional field.Max max_in None d) (λ max.
    Ok (body.Fetch hostname max)))

abbrev pub run_body : Data → Result Body BodyFault
run_body d =
    next (needed field.Hostname name_in d) (λ hostname.
    next (needed field.Judging number_in d) (λ judging.
    next (needed field.Test number_in d) (λ test.
    next (needed field.Result kind_in d) (λ kind.
    Ok (body.Run hostname judging test kind)))))

abbrev pub held_body : Data → Result Body BodyFault
held_body d =
    next (needed field.Hostname name_in d) (λ hostname.
    next (needed field.Judging number_in d) (λ judging.
    next (needed field.Test number_in d) (λ test.
    Ok (body.Held hostname judging test))))

abbrev pub actor_body : Data → Result Body BodyFault
actor_body d = next (optional field.Who name_in jury d) (λ who. Ok (body.Actor who))

abbrev pub rejudge_body : Data → Result Body BodyFault
rejudge_body d =
    next (needed field.Submissions numbers_in d) (λ submissions.
    next (optional field.Who name_in jury d) (λ who.
    Ok (body.Rejudge submissions who)))

abbrev pub in_object : (Data → Result Body BodyFault) → Option Data → Result Body BodyFault
in_object fields None = Err NotJson
in_object fields (Some d) = fields d

-- what the fields of a body say, unless it has too many values or too long strings
abbrev pub in_body : (Data → Result Body BodyFault) → List ℕ → Result Body BodyFault
in_body fields bytes =
    if has_too_many_values bytes then Err TooManyValues
    else (if has_too_long_strings bytes then Err TooLongStrings else in_object fields (object_of bytes))

-- what the body of a route says, or its first fault; a body without fields is not looked at
abbrev pub body_of : Route → List ℕ → Result Body BodyFault
body_of route.Hosts bytes = in_body host_body bytes
body_of route.FetchWork bytes = in_body fetch_body bytes
body_of route.AddRun bytes = in_body run_body bytes
body_of route.Renew bytes = in_body held_body bytes
body_of route.Down bytes = in_body host_body bytes
body_of (route.Job judging test) bytes = Ok body.Empty
body_of (route.JobRest judging test) bytes = Ok body.Empty
body_of (route.Judgement judging) bytes = Ok body.Empty
body_of (route.Submission judging) bytes = Ok body.Empty
body_of (route.Verify judging) bytes = in_body actor_body bytes
body_of (route.Ask judging) bytes = in_body actor_body bytes
body_of route.Board bytes = Ok body.Empty
body_of route.Audit bytes = Ok body.Empty
body_of route.Rejudgings bytes = in_body rejudge_body bytes
body_of (route.Rejudging rejudging) bytes = Ok body.Empty
body_of (route.Apply rejudging) bytes = in_body actor_body bytes
body_of (route.Cancel rejudging) bytes = in_body actor_body bytes

-- the route's body has fields
abbrev pub has_fields : Route → Bool
has_fields route.Hosts = true
has_fields route.FetchWork = true
has_fields route.AddRun = true
has_fields route.Renew = true
has_fields route.Down = true
has_fields (route.Job judging test) = false
has_fields (route.JobRest judging test) = false
has_fields (route.Judgement judging) = false
has_fields (route.Submission judging) = false
has_fields (route.Verify judging) = true
has_fields (route.Ask judging) = true
has_fields route.Board = false
has_fields route.Audit = false
has_fields route.Rejudgings = true
has_fields (route.Rejudging rejudging) = false
has_fields (route.Apply rejudging) = true
has_fields (route.Cancel rejudging) = true
