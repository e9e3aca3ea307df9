use Rattle.public_board.proofs.Keeping.{reads}
use Rattle.public_board.proofs.readers.read_newer.Goals as goal

pub enter_as-requires : goal.enter_as-requires
enter_as-requires g c x = reads g.J.Publication.allows _ _ x
