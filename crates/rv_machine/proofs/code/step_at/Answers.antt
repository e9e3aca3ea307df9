use Rattle.rv_machine.proofs.Kept.{read_fields}
use Rattle.rv_machine.proofs.code.step_at.Goals as goal

pub returns : goal.returns
returns c = read_fields c.args.page.now c.args.word _ c.requires.whole c.requires.within c.requires.step
