use Rattle.std.proofs.Common.{refl}
use Rattle.clap.proofs.OnLiterals.{clap_on_literals}
use Rattle.command_line.specs.CommandLine.{is_accepted, named_command}
use Rattle.command_line.proofs.worked.worked_stores.Goals as goal

pub returns : goal.returns
unfolding clap_on_literals is_accepted named_command
returns c = record {
  plain = refl;
  no_file = refl;
  two_files = refl;
  option = refl;
}
