use Rattle.std.proofs.Common.{refl}
use Rattle.std.specs.Net.Reader.{read_number, read_octet, read_ipv4, read_segment, read_segments, read_ipv6}
use Rattle.command_line.proofs.worked.worked_addresses.Goals as goal

pub returns : goal.returns
unfolding read_number read_octet read_ipv4 read_segment read_segments read_ipv6
returns c = record {
  dotted = refl;
  greatest = refl;
  great_number = refl;
  leading_zero = refl;
  three_numbers = refl;
  name = refl;
  with_port = refl;
  elided = refl;
  any = refl;
  all_groups = refl;
  with_dotted = refl;
  brackets = refl;
  elided_twice = refl;
  seven_groups = refl;
}
