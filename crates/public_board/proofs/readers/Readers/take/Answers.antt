use Rattle.std.proofs.Common.{◌∙◌}
use Rattle.public_board.proofs.Publishing.{taken_same}
use Rattle.public_board.proofs.readers.Readers.take.Goals as goal

pub returns-clause-same : goal.returns-clause-same
returns-clause-same g c n r is = taken_same _ _ _ n r c.pop.ensures.items (c.self.view_is ∙ is)
