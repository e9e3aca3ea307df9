use Rattle.std.proofs.Common.{refl}
use Rattle.base64.proofs.OnLiterals.{base64_on_literals}
use Rattle.remote_host.proofs.worked.worked_authorizations.Goals as goal

pub returns : goal.returns
unfolding base64_on_literals
returns c = record { example = refl; colons = refl }
