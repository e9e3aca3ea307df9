use Rattle.std.proofs.Common.{◌≡◌, drop, vec_len, vec_capacity}
use Rattle.rejudge_book.specs.Marks.{submissions_of, with_marks}
use Rattle.rejudge_book.proofs.lists.mark.Given as goal

abbrev pub invariant-loop-member : goal.invariant-loop-member
invariant-loop-member l = record {
  marks : with_marks l.marks.items (submissions_of (drop l.member-index l.members)) l.number ≡ with_marks l.initial.marks.items (submissions_of l.members) l.number;
  len : vec_len l.marks ≡ vec_len l.initial.marks;
  capacity : vec_capacity l.marks ≡ vec_capacity l.initial.marks;
}
