use Rattle.remote_host.proofs.Talking.{stands_start}
use Rattle.remote_host.proofs.bench.RemoteBench.enter.Goals as goal

pub returns-clause-entered : goal.returns-clause-entered
returns-clause-entered g c =
    (c.args.self.now.talker.conn, c.requires.start, c.enter.ensures.talks _ 0 0 0 c.requires.wrong (stands_start _ _ _ _ c.requires.ahead))
