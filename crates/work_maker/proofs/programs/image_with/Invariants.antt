use Rattle.std.proofs.Common.{◌≡◌, take}
use Rattle.work_maker.specs.Programs.{image_with}
use Rattle.work_maker.proofs.programs.image_with.Given as goal

abbrev pub invariant-loop-word : goal.invariant-loop-word
invariant-loop-word l = l.image.items ≡ image_with (take l.word-index l.words)
