use Rattle.std.proofs.Common.{rules}
use Rattle.contest_folder.proofs.images.read_image.Goals as goal

pub returns-in-Err-TooLarge-clause-image : goal.returns-in-Err-TooLarge-clause-image
returns-in-Err-TooLarge-clause-image c = search rules
