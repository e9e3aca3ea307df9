use Rattle.contest_folder.specs.JudgingCases.{case_at}
use Rattle.parallel_judge.specs.Hosts.{admits_of}
use Rattle.parallel_judge.proofs.judging.judge_all.Given as goal

abbrev pub ghosts-judge_named : goal.ghosts-judge_named
ghosts-judge_named g a = record { admits = admits_of (case_at a.roster.now) }
