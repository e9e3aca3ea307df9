-- A contest that hosts are judging.
use Rattle.std.specs.Prelude.{◌≡◌, ℕ, ◌+◌, ◌-◌, ◌<◌, ◌≤◌, true, false, List, [], ◌∷◌, map, length, ◌++◌, Option, Some, codes, slice_get}
use Rattle.farm_kinds.specs.declared.outcomes.Task.{Task}
use Rattle.farm_kinds.specs.declared.events.Event.{Event}
use Rattle.farm_kinds.specs.declared.events.Event.TheVariants as event
use Rattle.farm_model.specs.declared.records.Host.{Host}
use Rattle.farm_model.specs.declared.records.Lease.{Lease}
use Rattle.farm_model.specs.Judgings.{task_of}
use Rattle.farm_model.specs.Changes.{host_as}
use Rattle.farm_model.specs.State.{State, SettingsValue}
use Rattle.case_run.specs.Cases.{TestCase}
use Rattle.parallel_judge.specs.Working.{truth_of, AreRunnable, IsHonestRun, row_lengths}

-- the names of the hosts, of which there are at most 16
abbrev pub all_hosts : List (List ℕ)
all_hosts =
    codes "h1" ∷ codes "h2" ∷ codes "h3" ∷ codes "h4" ∷ codes "h5" ∷ codes "h6" ∷ codes "h7" ∷ codes "h8"
    ∷ codes "h9" ∷ codes "h10" ∷ codes "h11" ∷ codes "h12" ∷ codes "h13" ∷ codes "h14" ∷ codes "h15" ∷ codes "h16" ∷ []

-- the host of this number, from 1, has the name
abbrev pub IsNamed : ℕ → List ℕ → Type 0
IsNamed number name = slice_get all_hosts (number - 1) ≡ Some name

-- the host of this number enters such an event: a claim or a result of its own
abbrev pub IsOfHost : ℕ → Event → Type 0
IsOfHost number (event.Claim host) = IsNamed number host
IsOfHost number (event.Result host j test kind) = IsNamed number host
IsOfHost number e = ⊥

-- what a host enters: it claims, and what it gives as a task's result is the value of the task's case
abbrev pub IsHostEvent : (Task → Option TestCase) → Event → Type 0
IsHostEvent case_at (event.Claim host) = Unit {0}
IsHostEvent case_at (event.Result host j test kind) = truth_of case_at (task_of j test) ≡ Some kind
IsHostEvent case_at e = ⊥

-- the hosts of these names, which are down, and then those that are up
abbrev pub hosts_of : List (List ℕ) → List (List ℕ) → List Host
hosts_of down up = map (λ name. host_as name false) down ++ map (λ name. host_as name true) up

-- one of the last hosts of a list holds the lease
abbrev pub IsHeldAfter : ℕ → ℕ → Lease → Type 0
IsHeldAfter before more lease = (before < lease.host) × (lease.host ≤ before + more)

abbrev pub AreHeldAfter : ℕ → ℕ → List Lease → Type 0
AreHeldAfter before more [] = Unit {0}
AreHeldAfter before more (lease ∷ leases) = IsHeldAfter before more lease × AreHeldAfter before more leases

-- A contest whose judgings have so many cells is judged by hosts. The first of them have died, and hold nothing. Each
-- result that was counted is the value of its case
pub record IsUnderWay (settings : SettingsValue) (case_at : Task → Option TestCase) (cells : List ℕ)
    (down up : List (List ℕ)) (s : State) : Type 0 where
  pub runnable : AreRunnable case_at s.judge.judgings
  pub honest : IsHonestRun settings case_at s
  pub lengths : row_lengths s ≡ cells
  pub hosts : s.hosts ≡ hosts_of down up
  pub held : AreHeldAfter (length down) (length up) s.judge.leases
