use Rattle.std.proofs.Common.{rules}
use Rattle.remote_host.proofs.passwords.authorization.Goals as goal

pub returns : goal.returns
returns c = search rules
