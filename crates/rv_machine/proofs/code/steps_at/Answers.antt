use Rattle.std.proofs.Common.{◌∙◌}
use Rattle.rv_machine.proofs.Kept.{read_page}
use Rattle.rv_machine.proofs.code.steps_at.Goals as goal

pub returns : goal.returns
returns c = c.deref.ensures ∙ read_page c.args.steps.now.items c.index.result.now c.args.here c.index.ensures c.requires
