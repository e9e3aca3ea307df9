use Rattle.std.proofs.Common.{◌≡◌, ◌+◌, drop}
use Rattle.problem_settings.specs.Fields.{indent_of}
use Rattle.problem_settings.proofs.bytes.indent_of.Given as goal

abbrev pub invariant-loop-i : goal.invariant-loop-i
invariant-loop-i l = l.i + indent_of (drop l.i l.text) ≡ indent_of l.text
