use Rattle.std.proofs.Common.{refl}
use Rattle.clap.proofs.OnLiterals.{clap_on_literals}
use Rattle.command_line.specs.CommandLine.{is_accepted, named_command}
use Rattle.command_line.proofs.worked.worked_judgings.Goals as goal

pub returns : goal.returns
unfolding clap_on_literals is_accepted named_command
returns c = record {
  spaced = refl;
  joined = refl;
  journal = refl;
  most_hosts = refl;
  too_many_hosts = refl;
  no_hosts = refl;
  no_folder = refl;
  two_folders = refl;
  twice = refl;
  journal_twice = refl;
  journal_of_a_value = refl;
  leading_zero = refl;
  sign = refl;
  no_value = refl;
  empty_value = refl;
  value_with_dash = refl;
  joined_value_with_dash = refl;
}
