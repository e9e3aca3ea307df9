use Rattle.std.proofs.Common.{refl}
use Rattle.clap.proofs.OnLiterals.{clap_on_literals}
use Rattle.command_line.specs.CommandLine.{is_accepted, named_command}
use Rattle.command_line.proofs.worked.worked_scripts.Goals as goal

pub returns : goal.returns
unfolding clap_on_literals is_accepted named_command
returns c = record {
  plain = refl;
  spaced = refl;
  joined = refl;
  second_sign = refl;
  spaced_store = refl;
  joined_store = refl;
  config_and_store = refl;
  store_and_config = refl;
  no_value = refl;
  empty_value = refl;
  value_with_dash = refl;
  joined_value_with_dash = refl;
  operand = refl;
  other_option = refl;
  store_twice = refl;
  no_store = refl;
  empty_store = refl;
}
