use Rattle.std.proofs.Common.{refl}
use Rattle.clap.proofs.OnLiterals.{clap_on_literals}
use Rattle.command_line.specs.CommandLine.{is_accepted, named_command}
use Rattle.command_line.proofs.worked.worked_makings.Goals as goal

pub returns : goal.returns
unfolding clap_on_literals is_accepted named_command
returns c = record {
  least = refl;
  most = refl;
  no_problem = refl;
  too_many_problems = refl;
  no_submission = refl;
  too_many_submissions = refl;
  too_great = refl;
  two_numbers = refl;
  four_numbers = refl;
}
