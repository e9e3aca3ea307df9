use Rattle.std.proofs.Common.{◌≡◌, ◌++◌, take}
use Rattle.command_text.specs.WordList.{commas}
use Rattle.command_text.proofs.replies.push_comma_ranks.Given as goal

abbrev pub invariant-loop-rank : goal.invariant-loop-rank
invariant-loop-rank l = l.out.items ≡ l.fn.out.items ++ commas (take l.rank-index l.ranks)
