-- How a job's output is checked.
use Rattle.std.specs.Prelude.{Result, Ok, Err}
use Rattle.case_run.specs.Cases.{Checking, ByDefault, ByProgram}
use Rattle.wire_job.specs.declared.job.OwnCheck.{OwnCheck}
use Rattle.wire_job.specs.declared.job.OwnCheck.TheVariants as own
use Rattle.wire_job.specs.declared.faults.JobFault.{JobFault}
use Rattle.wire_job.specs.JobFields.{IsReading}

abbrev pub own_checking : OwnCheck → Checking
own_checking (own.Default flags) = ByDefault flags
own_checking (own.Custom image flags) = ByProgram image flags

abbrev pub result_checking : Result OwnCheck JobFault → Result Checking JobFault
result_checking (Ok check) = Ok (own_checking check)
result_checking (Err fault) = Err fault

-- the answer is what was told, or memory was wanting
abbrev pub IsCheckRead : Result Checking JobFault → Result OwnCheck JobFault → Type 0
IsCheckRead told result = IsReading told (result_checking result)
