use Rattle.std.proofs.Common.{◌≡◌, ◌≤◌, drop}
use Rattle.std.specs.Prelude.{replicate}
use Rattle.std.specs.Vec.{vec_len, vec_capacity}
use Rattle.left_right.specs.Sides.{view}
use Rattle.public_board.specs.Values.{IsUpToDate, new_reader}
use Rattle.public_board.proofs.publisher.new_readers.Given as goal

abbrev pub invariant-loop : goal.invariant-loop
invariant-loop g l = record {
  len : vec_len l.all ≡ l.counter;
  room : l.readers ≤ vec_capacity l.all;
  all : l.all.items ≡ replicate (vec_len l.all) (new_reader (view l.initial.writer.desk.place).seen);
  kept : view l.writer.desk.place ≡ view l.initial.writer.desk.place;
  current : IsUpToDate (view l.writer.desk.place) l.writer.desk.shown.value.rows.items l.writer.desk.shown.value.count (drop l.writer.behind l.writer.log.items);
}
