-- Which words ask for help or for the version, by what the grammar that knows such words answers.
use Rattle.std.specs.Prelude.{◌≡◌, ◌⊎◌, Bool, true, false, List, [], ◌∷◌, Option, Some, None}
use Rattle.clap.specs.Words.{IsAmong, Kinds, Text, fault_of}
use Rattle.clap.specs.declared.error.kind.ErrorKind.TheVariants.{DisplayHelp, DisplayVersion}
use Rattle.command_line.specs.Commands.{helping}
use Rattle.command_line.specs.CommandLine.{CommandValue, command_value}
use Rattle.command_line.specs.declared.asking.Asked.{Asked}
use Rattle.command_line.specs.declared.asking.Asked.TheVariants as asked

-- the kinds of answer that this grammar may give to the words; it accepts them where there are none
unfoldable pub answers_to : List Text → Kinds
answers_to words = fault_of helping words

-- help or the version is among the answers
abbrev pub MayAsk : Kinds → Type 0
MayAsk kinds = IsAmong DisplayHelp kinds ⊎ IsAmong DisplayVersion kinds

-- help or the version is the one answer
abbrev pub MustAsk : Kinds → Type 0
MustAsk kinds = (kinds ≡ DisplayHelp ∷ []) ⊎ (kinds ≡ DisplayVersion ∷ [])

abbrev pub asked_command : Asked → Option CommandValue
asked_command (asked.Command command) = Some (command_value command)
asked_command (asked.Help text) = None
asked_command (asked.Wrong text) = None

abbrev pub is_help : Asked → Bool
is_help (asked.Help text) = true
is_help _ = false

abbrev pub is_wrong : Asked → Bool
is_wrong (asked.Wrong text) = true
is_wrong _ = false
