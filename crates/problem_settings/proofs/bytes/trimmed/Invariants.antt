use Rattle.std.proofs.Common.{◌≡◌, ◌+◌, take, length}
use Rattle.std.specs.List.{suffix_len}
use Rattle.problem_settings.specs.Fields.{is_space}
use Rattle.problem_settings.proofs.bytes.trimmed.Given as goal

abbrev pub invariant-loop-n : goal.invariant-loop-n
invariant-loop-n l = l.n + suffix_len is_space l.text ≡ length l.text + suffix_len is_space (take l.n l.text)

abbrev pub decreases-loop-n : goal.decreases-loop-n
decreases-loop-n l = l.n
