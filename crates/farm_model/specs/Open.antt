-- Open tasks: those that a host may be given (DOMjudge manual, "Judging": judge tasks and their priority).
use Rattle.std.specs.Prelude.{ℕ, ◌-◌, ◌&&◌, List, ◌++◌, length, slice_index_or, filter, map, flat_map, None, is_none, Bool, true, false, not}
use Rattle.std.specs.List.{enumerate_from}
use Rattle.farm_kinds.specs.declared.outcomes.Class.{Class}
use Rattle.farm_kinds.specs.declared.outcomes.Class.TheVariants.{High, Normal, Low}
use Rattle.farm_kinds.specs.declared.outcomes.Mode.{Mode}
use Rattle.farm_kinds.specs.declared.outcomes.Mode.TheVariants.{Lazy, Full}
use Rattle.farm_kinds.specs.declared.outcomes.Task.{Task}
use Rattle.farm_kinds.specs.RuleValue.{RuleValue}
use Rattle.farm_model.specs.declared.records.Lease.{Lease}
use Rattle.farm_model.specs.Numbered.{numbers_to}
use Rattle.farm_model.specs.Rows.{Row, matters}
use Rattle.farm_model.specs.Leases.{lease_on}
use Rattle.farm_model.specs.Judgings.{Judging, task_of}

abbrev pub same_class : Class → Class → Bool
same_class High High = true
same_class Normal Normal = true
same_class Low Low = true
same_class a b = false

abbrev pub is_empty_cell : Row → ℕ → Bool
is_empty_cell row test = is_none (slice_index_or row (test - 1) None)

-- lazily only a cell that matters is judged
abbrev pub is_wanted : RuleValue → Mode → Row → ℕ → Bool
is_wanted rule Lazy row test = matters rule row test
is_wanted rule Full row test = true

-- the tests of a row that are still to be judged, in rank order
abbrev pub wanted_tests : RuleValue → Mode → Row → List ℕ
wanted_tests rule mode row = filter (is_wanted rule mode row) (filter (is_empty_cell row) (numbers_to (length row)))

-- no lease is held on the task
abbrev pub is_free : List Lease → Task → Bool
is_free leases task = is_none (lease_on leases task)

-- the open tasks of the judging of this number
abbrev pub open_in : RuleValue → List Lease → ℕ × Judging → List Task
open_in rule leases p = filter (is_free leases) (map (task_of p.0) (wanted_tests rule p.1.mode p.1.row))

-- it was asked for, and not dropped
abbrev pub is_active : Judging → Bool
is_active judging = not judging.dropped && judging.asked

-- the active judgings of a class, with their numbers
abbrev pub judgings_in : List Judging → Class → List (ℕ × Judging)
judgings_in judgings class =
    filter (λ p. same_class p.1.class class) (filter (λ p. is_active p.1) (enumerate_from 1 judgings))

abbrev pub open_in_class : RuleValue → List Judging → List Lease → Class → List Task
open_in_class rule judgings leases class = flat_map (open_in rule leases) (judgings_in judgings class)

-- the open tasks, by class, judging and test
abbrev pub open_tasks : RuleValue → List Judging → List Lease → List Task
open_tasks rule judgings leases =
    open_in_class rule judgings leases High
    ++ open_in_class rule judgings leases Normal
    ++ open_in_class rule judgings leases Low
