use Rattle.std.proofs.Common.{rules}
use Rattle.farm_core.proofs.Refusing.{taken_known, taken_by_book}
use Rattle.farm_core.proofs.contest.ContestState.change.Goals as goal

pub rejudge-requires-clause-known : goal.rejudge-requires-clause-known
rejudge-requires-clause-known c = taken_known c.args.self.now c.as_slice.result.now (search rules)

pub rejudge-requires-clause-accepted : goal.rejudge-requires-clause-accepted
rejudge-requires-clause-accepted c = taken_by_book c.args.self.now c.as_slice.result.now (search rules)
