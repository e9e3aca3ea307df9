use Rattle.std.proofs.Common.{rules}
use Rattle.elf_image.proofs.segment.check_load.Goals as goal

pub returns-clause-ok : goal.returns-clause-ok
returns-clause-ok c = search rules

pub returns-then-meets_one-clause-refused : goal.returns-then-meets_one-clause-refused
returns-then-meets_one-clause-refused c = search rules
