use Rattle.std.proofs.Common.{◌≡◌, drop}
use Rattle.farm_model.specs.Words.{words}
use Rattle.command_text.proofs.words.start_of.Given as goal

abbrev pub invariant-loop-i : goal.invariant-loop-i
invariant-loop-i l = words (drop l.i l.text) ≡ words l.text
