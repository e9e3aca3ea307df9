use Rattle.std.proofs.Common.{◌≡◌, ◌++◌, take}
use Rattle.contest_folder.specs.FaultTexts.{printed}
use Rattle.contest_folder.proofs.texts.push_named.Given as goal

abbrev pub invariant-loop-b : goal.invariant-loop-b
invariant-loop-b l = l.text.items ≡ l.fn.text.items ++ (l.prefix ++ printed (take l.b-index l.name))
