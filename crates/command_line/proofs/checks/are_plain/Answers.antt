use Rattle.std.proofs.Common.{string_bytes, ◌∙◌}
use Rattle.command_line.specs.Checks.{is_plain}
use Rattle.command_line.proofs.WordLemmas.{all_past_first}
use Rattle.command_line.proofs.checks.are_plain.Goals as goal

pub returns-in-len1-up : goal.returns-in-len1-up
returns-in-len1-up c = c.all_plain.ensures ∙ all_past_first is_plain string_bytes c.args.words.now
