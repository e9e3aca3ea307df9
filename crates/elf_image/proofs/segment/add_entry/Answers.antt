use Rattle.std.proofs.Common.{rules}
use Rattle.elf_image.proofs.segment.add_entry.Goals as goal

pub returns-clause-after : goal.returns-clause-after
returns-clause-after c = search rules

pub returns-clause-ok : goal.returns-clause-ok
returns-clause-ok c = search rules

pub returns-in_err-check_load-clause-refused : goal.returns-in_err-check_load-clause-refused
returns-in_err-check_load-clause-refused c = search rules
