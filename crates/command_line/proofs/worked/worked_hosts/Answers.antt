use Rattle.std.proofs.Common.{refl}
use Rattle.clap.proofs.OnLiterals.{clap_on_literals}
use Rattle.command_line.specs.CommandLine.{is_accepted, named_command}
use Rattle.command_line.proofs.worked.worked_hosts.Goals as goal

pub returns : goal.returns
unfolding clap_on_literals is_accepted named_command
returns c = record {
  least = refl;
  most = refl;
  least_wait = refl;
  no_port = refl;
  too_great_port = refl;
  no_fuel = refl;
  too_much_fuel = refl;
  no_wait = refl;
  too_long_wait = refl;
  no_name = refl;
  longest_name = refl;
  too_long_name = refl;
  address_left_out = refl;
  port_left_out = refl;
  name_left_out = refl;
  fuel_left_out = refl;
  wait_twice = refl;
  user = refl;
  user_with_wait = refl;
  user_with_colon = refl;
  user_with_control = refl;
  user_alone = refl;
  password_file_alone = refl;
  user_twice = refl;
}
