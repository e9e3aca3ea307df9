use Rattle.std.proofs.Common.{◌≡◌, drop}
use Rattle.rejudge_book.specs.Marks.{marked_refusal}
use Rattle.rejudge_book.proofs.lists.first_marked.Given as goal

abbrev pub invariant-loop-submission : goal.invariant-loop-submission
invariant-loop-submission l = marked_refusal l.marks (drop l.submission-index l.list) ≡ marked_refusal l.fn.marks l.fn.list
