use Rattle.judging_core.proofs.Bits.{count_is}
use Rattle.judging_core.proofs.marks.Marks.len.Goals as goal

pub returns : goal.returns
returns c = count_is c.self.inside.words.items c.self.inside.tests c.args.self.now c.self.view_is
