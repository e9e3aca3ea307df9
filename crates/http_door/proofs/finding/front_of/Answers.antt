use Rattle.http_door.specs.Heads.{head_limit}
use Rattle.http_door.proofs.Findings.{take_min}
use Rattle.http_door.proofs.finding.front_of.Goals as goal

pub returns : goal.returns
returns c = rw c.min.ensures (take_min head_limit c.args.bytes.now)
