-- What is reported of a run.
use Rattle.rv_machine.specs.Stepping.{Finish}
use Rattle.rv_memory.specs.Paged.{page_count}
use Rattle.rvrun.specs.declared.report.Report.{Report}

-- the ending of a run, and the cost and the pages of the state there
abbrev pub report_of : Finish → Report
report_of finish = record {
  ending = finish.ending;
  cost = finish.state.cost;
  pages = page_count finish.state.hart.memory;
}
