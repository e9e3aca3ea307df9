use Rattle.lazy_stop.proofs.Answering.{remap_is_possible}
use Rattle.lazy_stop.proofs.laws.remapped_is_possible.Goals as goal

pub returns : goal.returns
returns c = remap_is_possible c.args.rule.now c.args.kind
