-- The bytes of requests (RFC 9112, section 3).
use Rattle.std.specs.Prelude.{ℕ, List, ◌++◌, length, codes}
use Rattle.std.specs.Fmt.{decimal}
use Rattle.std.specs.List.{flat_map}
use Rattle.farm_kinds.specs.Kinds.{name_of}
use Rattle.remote_host.specs.declared.asks.Ask.{Ask}
use Rattle.remote_host.specs.declared.asks.Ask.TheVariants as ask
use Rattle.remote_host.specs.declared.asks.Caller.{Caller}

-- the first line of a request of this method, and its field `host`
abbrev pub first_lines : List ℕ → List ℕ → List ℕ
first_lines method path = method ++ (codes " " ++ (path ++ codes " HTTP/1.1\r\nhost: farm\r\n"))

-- the field `content-length`, the empty line and the body
abbrev pub length_and_body : List ℕ → List ℕ
length_and_body body = codes "content-length: " ++ (decimal (length body) ++ (codes "\r\n\r\n" ++ body))

-- a request without a body, with these further lines in its head
abbrev pub get_text : List ℕ → List ℕ → List ℕ
get_text lines path = first_lines (codes "GET") path ++ (lines ++ codes "\r\n")

-- a request with this body
abbrev pub post_text : List ℕ → List ℕ → List ℕ → List ℕ
post_text lines path body = first_lines (codes "POST") path ++ (lines ++ length_and_body body)

abbrev pub host_body : List ℕ → List ℕ
host_body name = codes "{\"hostname\":\"" ++ (name ++ codes "\"}")

abbrev pub result_body : List ℕ → ℕ → ℕ → List ℕ → List ℕ
result_body name judging test kind =
    codes "{\"hostname\":\"" ++ (name ++ (codes "\",\"judging\":" ++ (decimal judging ++ (codes ",\"result\":\"" ++ (kind
    ++ (codes "\",\"test\":" ++ (decimal test ++ codes "}")))))))

abbrev pub job_path : ℕ → ℕ → List ℕ
job_path judging test = codes "/judgehosts/job/" ++ (decimal judging ++ (codes "/" ++ decimal test))

abbrev pub rest_path : ℕ → ℕ → List ℕ
rest_path judging test = codes "/judgehosts/job/" ++ (decimal judging ++ (codes "/" ++ (decimal test ++ codes "/rest")))

-- the bytes of a request of this host
unfoldable pub spell : Caller → Ask → List ℕ
spell who ask.Enter = post_text who.lines (codes "/judgehosts") (host_body who.name)
spell who ask.Fetch = post_text who.lines (codes "/judgehosts/fetch-work") (host_body who.name)
spell who (ask.Job task) = get_text who.lines (job_path task.judging task.test)
spell who (ask.JobRest task) = get_text who.lines (rest_path task.judging task.test)
spell who (ask.Post task kind) =
    post_text who.lines (codes "/judgehosts/add-judging-run") (result_body who.name task.judging task.test (name_of kind))

-- the bytes of requests, one behind the other
abbrev pub spelled : Caller → List Ask → List ℕ
spelled who asks = flat_map (spell who) asks
