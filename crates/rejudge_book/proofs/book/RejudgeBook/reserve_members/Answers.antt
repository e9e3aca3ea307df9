use Rattle.std.proofs.Common.{rules}
use Rattle.rejudge_book.proofs.book.RejudgeBook.reserve_members.Goals as goal

pub returns-clause-enough : goal.returns-clause-enough
returns-clause-enough c = search rules
