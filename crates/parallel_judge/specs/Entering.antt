-- How a contest enters a farm: its problems, its submissions, and what is asked for of these.
use Rattle.std.specs.Prelude.{ℕ, ◌+◌, List, [], ◌∷◌, ◌++◌, map, Bool, if◌then◌else◌}
use Rattle.farm_kinds.specs.Names.{jury}
use Rattle.farm_kinds.specs.declared.outcomes.Class.TheVariants.{Normal}
use Rattle.farm_kinds.specs.declared.outcomes.NamedMode.{NamedMode}
use Rattle.farm_model.specs.Changes.{asked_named}
use Rattle.farm_kinds.specs.declared.events.Event.{Event}
use Rattle.farm_kinds.specs.declared.events.Event.TheVariants as event

-- a problem of this name, with so many tests
pub record NamedProblem : Type 0 where
  pub name : List ℕ
  pub tests : ℕ

-- a submission to the problem of this name
pub record NamedSubmission : Type 0 where
  pub problem : List ℕ
  pub broken : Bool

abbrev pub problem_event : NamedProblem → Event
problem_event problem = event.Problem jury problem.name problem.tests

abbrev pub submission_event : NamedSubmission → Event
submission_event submission = event.Submit submission.problem Normal submission.broken

-- the numbers of the submissions, from n on, whose judgings wait to be asked for
abbrev pub waiting : List NamedMode → ℕ → List NamedSubmission → List ℕ
waiting modes n [] = []
waiting modes n (x ∷ xs) =
    if asked_named modes x.problem then waiting modes (n + 1) xs else n ∷ waiting modes (n + 1) xs

-- the judging of a submission, which has its number, is asked for
abbrev pub ask_event : ℕ → Event
ask_event number = event.Ask jury number

abbrev pub contest_events : List NamedMode → List NamedProblem → List NamedSubmission → List Event
contest_events modes problems submissions =
    (map problem_event problems ++ map submission_event submissions) ++ map ask_event (waiting modes 1 submissions)
