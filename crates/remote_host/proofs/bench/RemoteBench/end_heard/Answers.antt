use Rattle.std.proofs.Common.{rules}
use Rattle.remote_host.proofs.bench.RemoteBench.end_heard.Goals as goal

pub returns-in-Refused : goal.returns-in-Refused
returns-in-Refused g c = search rules
