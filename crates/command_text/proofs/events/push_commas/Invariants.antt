use Rattle.std.proofs.Common.{◌≡◌, ◌++◌, take}
use Rattle.command_text.specs.WordList.{commas}
use Rattle.command_text.proofs.events.push_commas.Given as goal

abbrev pub invariant-loop-number : goal.invariant-loop-number
invariant-loop-number l = l.out.items ≡ l.fn.out.items ++ commas (take l.number-index l.numbers)
