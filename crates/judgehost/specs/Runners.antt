-- Which closures run cases.
use Rattle.std.specs.Prelude.{◌≡◌, Result, Ok, Err}
use denote.Ref.{Bor}
use Rattle.farm_kinds.specs.declared.kinds.Kind.{Kind}
use Rattle.farm_kinds.specs.declared.outcomes.NoMemory.{NoMemory}
use Rattle.case_run.specs.declared.case.Case.{Case}
use Rattle.case_run.specs.Cases.{CanRun, TestCase, test_case}
use Rattle.case_run.specs.Values.{case_value}

-- it may be called on every case that can be run, and a kind that it answers is the case's value
abbrev pub RunsCases : (Bor Case → Type 0) → (Bor Case → Result Kind NoMemory → Type 0) → Type 0
RunsCases may_call answers =
    (c : Bor Case) → CanRun (test_case c.now) → may_call c
    × ((kind : Kind) → answers c (Ok kind) → kind ≡ case_value (test_case c.now))

-- a call on this case may answer that no memory was left
abbrev pub MayWantMemory : (Bor Case → Result Kind NoMemory → Type 0) → TestCase → Type 0
MayWantMemory answers c = (given : Bor Case) × (test_case given.now ≡ c) × answers given (Err (record {}))
