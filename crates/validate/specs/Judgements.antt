-- What the default output validator says of an output
-- (Kattis problem package format, legacy, "Default Output Validator Specification").
use Rattle.std.specs.Prelude.{ℕ, List, Option, Some, None, Result, Ok, Err, Bool, true, false}
use Rattle.default_validator.specs.Flags.{flags_of}
use Rattle.default_validator.specs.Accepts.{accepts_of, wide_token_of}
use Rattle.default_validator.specs.declared.flags.Flags.{Flags}
use Rattle.default_validator.specs.declared.flags.FlagFault.{FlagFault}
use Rattle.validate.specs.declared.judgement.Judgement.{Judgement}
use Rattle.validate.specs.declared.judgement.Judgement.TheVariants as judged

abbrev pub by_acceptance : Bool → Judgement
by_acceptance true = judged.Accepted
by_acceptance false = judged.Rejected

-- an answer with a wide token is not compared
abbrev pub by_answer : Option ℕ → Bool → Judgement
by_answer None accepted = by_acceptance accepted
by_answer (Some at) accepted = judged.WideAnswer at

abbrev pub by_flags : Result Flags FlagFault → List ℕ → List ℕ → Judgement
by_flags (Err fault) answer output = judged.BadFlags fault
by_flags (Ok flags) answer output = by_answer (wide_token_of flags answer) (accepts_of flags answer output)

abbrev pub judgement_of : List ℕ → List ℕ → List ℕ → Judgement
judgement_of flags answer output = by_flags (flags_of flags) answer output

-- 42 and 43 are the package format's; any other status is a judge's error
abbrev pub status_of : Judgement → ℕ
status_of judged.Accepted = 42
status_of judged.Rejected = 43
status_of (judged.BadFlags fault) = 1
status_of (judged.WideAnswer at) = 1
