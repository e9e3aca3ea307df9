use Rattle.std.proofs.Common.{refl}
use Rattle.clap.proofs.OnLiterals.{clap_on_literals}
use Rattle.command_line.specs.CommandLine.{is_accepted, named_command}
use Rattle.command_line.proofs.worked.worked_words.Goals as goal

pub returns : goal.returns
unfolding clap_on_literals is_accepted named_command
returns c = record {
  name_alone = refl;
  other_name = refl;
  other_command = refl;
  help = refl;
  help_option = refl;
  short_help = refl;
  help_of_a_command = refl;
  version = refl;
  dashes_first = refl;
  dashes_last = refl;
  dash = refl;
  short_option = refl;
  unknown_option = refl;
  no_word = refl;
  empty_word = refl;
  empty_folder = refl;
}
