use Rattle.std.proofs.Common.{take}
use Rattle.command_text.specs.NextWord.{IsWord}
use Rattle.command_text.proofs.words.len_of_word.Given as goal

abbrev pub invariant-loop-i : goal.invariant-loop-i
invariant-loop-i l = IsWord (take l.i l.text)
