use Rattle.std.proofs.Common.{[]}
use Rattle.parallel_judge.proofs.entering.enter_contest.Goals as goal

pub returns-clause-entered : goal.returns-clause-entered
returns-clause-entered g c start o h =
    let first = c.in_ok-enter_problems.ensures.entered start [] o h in
    let second = c.in_ok-enter_submissions.ensures.entered start _ o first in
    let third = c.in_ok-ask_for_waiting.ensures.entered start _ o second in
    c.enter_hosts.ensures.entered start _ o third
