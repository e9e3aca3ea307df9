-- Runs of events from a state on.
use Rattle.std.specs.Prelude.{◌≡◌, ℕ, ◌≤◌, List, [], ◌∷◌, map, filter_map, count_by, Option, Some, None, IsSome, IsSomeAnd, if◌then◌else◌, All}
use Rattle.std.specs.Option.{option_map}
use Rattle.farm_kinds.specs.declared.kinds.Kind.{Kind}
use Rattle.farm_kinds.specs.declared.outcomes.Task.{Task}
use Rattle.farm_kinds.specs.declared.outcomes.Verdict.{Verdict}
use Rattle.farm_kinds.specs.declared.outcomes.Verdict.TheVariants.{Tests, CompilerError}
use Rattle.farm_kinds.specs.declared.events.Event.{Event}
use Rattle.farm_kinds.specs.declared.events.Event.TheVariants as event
use Rattle.farm_kinds.specs.declared.events.Reply.{Reply}
use Rattle.farm_kinds.specs.declared.events.Reply.TheVariants as reply
use Rattle.farm_kinds.specs.RuleValue.{RuleValue}
use Rattle.farm_kinds.specs.Rules.{verdict_of, remap_of}
use Rattle.farm_model.specs.Numbered.{numbers_to}
use Rattle.farm_model.specs.Rows.{Row}
use Rattle.farm_model.specs.Judgings.{task_of}
use Rattle.farm_model.specs.Leases.{same_task}
use Rattle.farm_model.specs.State.{State}
use Rattle.farm_model.specs.Farm.{farm_step}

-- the state after the events
abbrev pub state_after : State → List Event → State
state_after s [] = s
state_after s (e ∷ es) = state_after (farm_step s e).0 es

abbrev pub reply_to : State → Event → Reply
reply_to s e = (farm_step s e).1

-- the events with their replies
abbrev pub answered : State → List Event → List (Event × Reply)
answered s [] = []
answered s (e ∷ es) = (e, reply_to s e) ∷ answered (farm_step s e).0 es

-- Results that count

-- the task and the kind that an event gives a result of
abbrev pub given_by : Event → Option (Task × Kind)
given_by (event.Problem who name tests) = None
given_by (event.Replace who name tests) = None
given_by (event.Host name) = None
given_by (event.Submit problem class broken) = None
given_by (event.Claim host) = None
given_by (event.Fetch host most) = None
given_by (event.Result host j test kind) = Some (task_of j test, kind)
given_by (event.Entry j test kind) = Some (task_of j test, kind)
given_by (event.Renew host j test) = None
given_by (event.Tick moment) = None
given_by (event.Down host) = None
given_by (event.Show j) = None
given_by (event.Owner j) = None
given_by event.Board = None
given_by (event.Rejudge who list) = None
given_by (event.Matrix r) = None
given_by (event.Apply who r) = None
given_by (event.Cancel who r) = None
given_by (event.Verify who j) = None
given_by (event.Ask who j) = None
given_by event.Audit = None

abbrev pub if_counted : Reply → Option (Task × Kind) → Option (Task × Kind)
if_counted reply.Counted given = given
if_counted r given = None

-- the task and the kind of a result that was answered `counted`
abbrev pub counted_by : Event × Reply → Option (Task × Kind)
counted_by p = if_counted p.1 (given_by p.0)

-- the tasks and the kinds that were counted, in order
abbrev pub counted_in : State → List Event → List (Task × Kind)
counted_in s es = filter_map counted_by (answered s es)

-- the kind that was counted for the task, where one was
abbrev pub kind_for : Task → List (Task × Kind) → Option Kind
kind_for task [] = None
kind_for task (p ∷ ps) = if same_task p.0 task then Some p.1 else kind_for task ps

-- what was counted for the task, after remapping
abbrev pub cell_for : RuleValue → List (Task × Kind) → Task → Option Kind
cell_for rule counted task = option_map (remap_of rule) (kind_for task counted)

-- the row of a judging of n tests, by what was counted for each
abbrev pub counted_row : RuleValue → List (Task × Kind) → ℕ → ℕ → Row
counted_row rule counted j n = map (λ test. cell_for rule counted (task_of j test)) (numbers_to n)

-- how often a result of the task was counted
abbrev pub times_counted : List (Task × Kind) → Task → ℕ
times_counted counted task = count_by (λ p. same_task p.0 task) counted

-- What the tests truly give

-- the kind that each task gives, where it is known
abbrev pub Truth : Type 0
Truth = Task → Option Kind

-- a counted result and the truth count as the same kind
abbrev pub AgreesWith : RuleValue → Truth → Task × Kind → Type 0
AgreesWith rule truth p = IsSomeAnd (truth p.0) (λ kind. remap_of rule p.1 ≡ remap_of rule kind)

-- every counted result agrees with the truth
abbrev pub IsHonest : State → List Event → Truth → Type 0
IsHonest s es truth = All (AgreesWith s.judge.rule truth) (counted_in s es)

-- the truth of the n tests of a judging is known
abbrev pub KnowsAll : Truth → ℕ → ℕ → Type 0
KnowsAll truth j n = (test : ℕ) → 1 ≤ test → test ≤ n → IsSome (truth (task_of j test))

-- what the tests of a judging truly count as, in rank order
abbrev pub true_kinds : RuleValue → Truth → ℕ → ℕ → List Kind
true_kinds rule truth j n = map (remap_of rule) (filter_map (λ test. truth (task_of j test)) (numbers_to n))

abbrev pub verdict_from : Option Kind → Verdict
verdict_from None = CompilerError
verdict_from (Some kind) = Tests kind

-- what running every test in rank order on one thread gives; no tests stand for a broken submission
abbrev pub one_thread_verdict : RuleValue → Truth → ℕ → ℕ → Verdict
one_thread_verdict rule truth j n = verdict_from (verdict_of rule (true_kinds rule truth j n))
