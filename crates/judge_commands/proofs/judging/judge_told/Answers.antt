use Rattle.std.proofs.Common.{Err, ap}
use Rattle.judge_commands.proofs.NoContests.{fault_told, no_contest, refused_complete}
use Rattle.judge_commands.proofs.judging.judge_told.Goals as goal

pub returns-in-Err-clause-ends : goal.returns-in-Err-clause-ends
returns-in-Err-clause-ends g c =
    let files = g.T.Tree.files c.args.tree.now in
    no_contest files c.args.folder.now c.args.hosts c.args.journal _ _ _ c.refuse_contest.result
    (c.refuse_contest.ensures.ends files c.args.folder.now (fault_told files c.args.folder.now c.in-Err.fault c.in-Err.ensures.contest))

pub returns-in-Err-clause-complete : goal.returns-in-Err-clause-complete
returns-in-Err-clause-complete g c =
    let files = g.T.Tree.files c.args.tree.now in
    refused_complete files c.args.folder.now _ _ _ _ _ c.refuse_contest.result
    (c.refuse_contest.ensures.ends files c.args.folder.now (fault_told files c.args.folder.now c.in-Err.fault c.in-Err.ensures.contest))
    (λ q. c.in-Err.ensures.cause (ap Err (c.refuse_contest.ensures.tree q))) c.refuse_contest.ensures.write_fault
