use Rattle.std.proofs.Common.{◌≡◌}
use Rattle.std.specs.List.{list_any}
use Rattle.problem_settings.specs.DomjudgeIni.{setting_of}
use Rattle.problem_settings.specs.Lines.{parts_behind, size_behind, without_cr}
use Rattle.problem_settings.specs.Skipped.{has_limit, sets_limit}
use Rattle.problem_settings.proofs.skipped_ini.has_limit.Given as goal

abbrev pub invariant-loop-left : goal.invariant-loop-left
invariant-loop-left l =
    list_any (λ line. sets_limit (setting_of (without_cr line))) (parts_behind 10 l.left) ≡ has_limit l.bytes

abbrev pub decreases-loop-left : goal.decreases-loop-left
decreases-loop-left l = size_behind l.left
