use Rattle.std.proofs.Common.{rules}
use Rattle.farm_core.proofs.Judged.{entry_stepped}
use Rattle.farm_core.proofs.contest.ContestState.enter.Goals as goal

pub returns : goal.returns
returns c =
    entry_stepped c.args.self.now c.args.judging c.args.test c.args.kind _ c.enter.result c.count_reply.result
    (search rules) (search rules) c.count_reply.ensures
