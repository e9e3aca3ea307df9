use Rattle.std.proofs.Common.{refl}
use Rattle.clap.proofs.OnLiterals.{clap_on_literals}
use Rattle.command_line.specs.Helping.{answers_to}
use Rattle.command_line.proofs.worked.worked_help.Goals as goal

pub returns : goal.returns
unfolding clap_on_literals answers_to
returns c = record {
  option = refl;
  short_option = refl;
  of_a_command = refl;
  short_of_a_command = refl;
  word = refl;
  version = refl;
  short_version = refl;
  command = refl;
  other_word = refl;
  other_option = refl;
}
