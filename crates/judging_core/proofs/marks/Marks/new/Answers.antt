use Rattle.std.proofs.Common.{◌+◌, ◌/◌}
use Rattle.judging_core.proofs.Bits.{no_marks}
use Rattle.judging_core.proofs.marks.Marks.new.Goals as goal

pub returns : goal.returns
returns c = no_marks c.in_ok-words.words.items c.args.tests ((c.args.tests + 63) / 64) c.in_ok-words.ensures
