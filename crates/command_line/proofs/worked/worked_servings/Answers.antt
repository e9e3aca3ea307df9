use Rattle.std.proofs.Common.{refl}
use Rattle.clap.proofs.OnLiterals.{clap_on_literals}
use Rattle.command_line.specs.CommandLine.{is_accepted, named_command}
use Rattle.std.specs.Net.Reader.{read_number, read_octet, read_ipv4, read_segment, read_segments, read_ipv6}
use Rattle.command_line.proofs.worked.worked_servings.Goals as goal

pub returns : goal.returns
unfolding clap_on_literals is_accepted named_command read_number read_octet read_ipv4 read_segment read_segments read_ipv6
returns c = record {
  least = refl;
  most = refl;
  least_patience = refl;
  too_great_port = refl;
  no_lane = refl;
  too_many_lanes = refl;
  no_connection = refl;
  too_many_connections = refl;
  address = refl;
  no_address = refl;
  no_patience = refl;
  too_much_patience = refl;
  flag_of_a_value = refl;
  port_left_out = refl;
  lanes_left_out = refl;
  connections_left_out = refl;
  connections_left_out_last = refl;
  no_number_of_connections = refl;
  connections = refl;
  folder_left_out = refl;
}
