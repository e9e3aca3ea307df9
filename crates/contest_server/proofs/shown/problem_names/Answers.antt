use Rattle.std.proofs.Common.{◌∙◌}
use Rattle.contest_server.proofs.Names.{one_problem_more}
use Rattle.contest_server.proofs.shown.problem_names.Goals as goal

pub loop-i-preserved : goal.loop-i-preserved
loop-i-preserved c =
    c.in_ok-push.ensures.items
    ∙ one_problem_more c.args.roster.now.problems c.loop-i.names.items c.loop-i.i c.problem.result c.loop-i.invariant c.problem.ensures
