-- What the values of `farm.json` say.
use Rattle.std.specs.Prelude.{ℕ, List, codes, ◌&&◌, Option, Some, None, Bool, true, false, nat_le, if◌then◌else◌, option_and_then}
use Rattle.std.specs.Str.{bytes_eq}
use Rattle.serde_json.specs.Data.{Data}
use Rattle.serde_json.specs.Find.{as_number, as_str, as_u64}
use Rattle.farm_kinds.specs.declared.kinds.Kind.{Kind}
use Rattle.farm_kinds.specs.declared.outcomes.Mode.{Mode}
use Rattle.farm_kinds.specs.declared.outcomes.Mode.TheVariants.{Lazy, Full}
use Rattle.farm_kinds.specs.declared.outcomes.ProblemMode.{ProblemMode}
use Rattle.farm_kinds.specs.declared.outcomes.ProblemMode.TheVariants as problem
use Rattle.farm_kinds.specs.Kinds.{kind_named}

abbrev pub within : ℕ → ℕ → ℕ → Option ℕ
within least most n = if nat_le least n && nat_le n most then Some n else None

-- the whole number that a value is, where it is in range
abbrev pub whole : ℕ → ℕ → Data → Option ℕ
whole least most value = option_and_then (within least most) (option_and_then as_u64 (as_number value))

-- the kind that a value names
abbrev pub kind_of : Data → Option Kind
kind_of value = option_and_then kind_named (as_str value)

-- the mode of a problem that a word names
abbrev pub problem_mode_named : List ℕ → Option ProblemMode
problem_mode_named word =
    if bytes_eq word (codes "lazy") then Some problem.Lazy
    else if bytes_eq word (codes "full") then Some problem.Full
    else if bytes_eq word (codes "on-demand") then Some problem.OnDemand
    else None

-- the mode of a problem that a value names
abbrev pub problem_mode_of : Data → Option ProblemMode
problem_mode_of value = option_and_then problem_mode_named (as_str value)

-- whether judging stops once the verdict is known
abbrev pub mode_of : Bool → Mode
mode_of true = Lazy
mode_of false = Full
