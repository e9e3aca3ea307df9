use Rattle.std.proofs.Common.{take}
use Rattle.command_text.specs.Parts.{IsPart}
use Rattle.command_text.proofs.lists.cut_part.Given as goal

abbrev pub invariant-loop-i : goal.invariant-loop-i
invariant-loop-i l = IsPart (take l.i l.text)
