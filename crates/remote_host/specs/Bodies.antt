-- What the bodies of responses say.
use Rattle.std.specs.Prelude.{ℕ, List, Bool, ◌||◌, ◌&&◌, nat_eq, codes, Option, None, Some, option_map, option_and_then, if◌then◌else◌, Result, Ok, Err}
use Rattle.std.specs.Str.{bytes_eq}
use Rattle.serde_json.specs.Data.{Data}
use Rattle.serde_json.specs.Find.{get, as_str}
use Rattle.farm_kinds.specs.declared.outcomes.Task.{Task}
use Rattle.farm_kinds.specs.declared.kinds.Kind.{Kind}
use Rattle.farm_kinds.specs.declared.events.Reply.{Reply}
use Rattle.farm_kinds.specs.declared.events.Reply.TheVariants as reply
use Rattle.case_run.specs.Cases.{TestCase}
use Rattle.wire_json.specs.Fields.{whole_in, number_in, kind_in}
use Rattle.wire_json.specs.Bodies.{object_of}
use Rattle.wire_job.specs.declared.faults.JobFault.{JobFault}
use Rattle.wire_job.specs.JobValue.{JobValue}
use Rattle.wire_job.specs.Reading.{job_of}
use Rattle.remote_host.specs.declared.asks.Wrong.{Wrong}
use Rattle.remote_host.specs.declared.asks.Wrong.TheVariants as wrong
use Rattle.remote_host.specs.declared.asks.Fetched.{Fetched}
use Rattle.remote_host.specs.declared.asks.Fetched.TheVariants as fetched

-- the word that the field `reply` says
abbrev pub word_of : Data → Option (List ℕ)
word_of d = option_and_then as_str (get (codes "reply") d)

-- the number in this field
abbrev pub number_at : List ℕ → Data → Option ℕ
number_at key d = option_and_then number_in (get key d)

-- the kind in this field
abbrev pub kind_at : List ℕ → Data → Option Kind
kind_at key d = option_and_then kind_in (get key d)

-- Of a name that is entered

abbrev pub is_entered : List ℕ → Bool
is_entered word = bytes_eq word (codes "host") || bytes_eq word (codes "known")

abbrev pub entered_in : Data → Option (Unit {0})
entered_in d = option_and_then (λ word. if is_entered word then Some tt else None) (word_of d)

unfoldable pub enters : List ℕ → Option (Unit {0})
enters body = option_and_then entered_in (object_of body)

-- Of a task that is asked for

-- the test is from 1 to 65,535
abbrev pub task_at : Data → Option Task
task_at d =
    option_and_then (λ judging. option_map (λ test. record { judging = judging; test = test })
    (option_and_then (λ value. whole_in 1 65535 value) (get (codes "test") d)))
    (number_at (codes "judging") d)

abbrev pub fetched_by : List ℕ → Data → Option Fetched
fetched_by word d =
    if bytes_eq word (codes "task") then option_map fetched.Task (task_at d)
    else if bytes_eq word (codes "nothing") then Some fetched.Nothing
    else if bytes_eq word (codes "no-host") then Some fetched.NoHost
    else if bytes_eq word (codes "holding") then Some fetched.Holding else None

abbrev pub fetched_in : Data → Option Fetched
fetched_in d = option_and_then (λ word. fetched_by word d) (word_of d)

unfoldable pub fetch_said : List ℕ → Option Fetched
fetch_said body = option_and_then fetched_in (object_of body)

-- Of a job

abbrev pub same_task : Task → Task → Bool
same_task t u = nat_eq t.judging u.judging && nat_eq t.test u.test

abbrev pub job_read : Task → Result JobValue JobFault → Result TestCase Wrong
job_read task (Ok job) = if same_task job.task task then Ok job.case else Err (wrong.OtherTask job.task)
job_read task (Err fault) = Err wrong.BadBody

-- the case of the job, which has to be one of this task, to a host that has this image or none
unfoldable pub job_said : Option (List ℕ) → Task → List ℕ → Result TestCase Wrong
job_said has task body = job_read task (job_of has body)

-- Of a result that is posted

abbrev pub refused_by : List ℕ → Data → Option (Option Reply)
refused_by word d =
    if bytes_eq word (codes "dropped") then Some (Some reply.Dropped)
    else if bytes_eq word (codes "not-handed") then Some (Some reply.NotHanded)
    else if bytes_eq word (codes "no-judging") then option_map (λ n. Some (reply.NoJudging n)) (number_at (codes "judging") d)
    else if bytes_eq word (codes "no-test") then option_map (λ n. Some (reply.NoTest n)) (number_at (codes "test") d)
    else if bytes_eq word (codes "no-host") then Some None else None

abbrev pub posted_by : List ℕ → Data → Option (Option Reply)
posted_by word d =
    if bytes_eq word (codes "counted") then Some (Some reply.Counted)
    else if bytes_eq word (codes "repeat") then option_map (λ kept. Some (reply.Repeat kept)) (kind_at (codes "kept") d)
    else if bytes_eq word (codes "differs") then
    option_and_then (λ kept. option_map (λ given. Some (reply.Differs kept given)) (kind_at (codes "given") d)) (kind_at (codes "kept") d)
    else refused_by word d

abbrev pub posted_in : Data → Option (Option Reply)
posted_in d = option_and_then (λ word. posted_by word d) (word_of d)

-- the reply to a result, or none where the host is not up
unfoldable pub post_said : List ℕ → Option (Option Reply)
post_said body = option_and_then posted_in (object_of body)
