use Rattle.std.proofs.Common.{◌≡◌, ◌≤◌, ◌+◌, length}
use Rattle.std.specs.Prelude.{vec_len, vec_capacity}
use Rattle.farm_model.specs.Numbers.{all_numbers, list_of}
use Rattle.command_text.specs.Parts.{parts_behind, size_behind, appended}
use Rattle.command_text.proofs.lists.numbers_in.Given as goal

abbrev pub invariant-loop-left : goal.invariant-loop-left
invariant-loop-left l = record {
  sound : list_of l.list ≡ appended l.room.items (all_numbers (parts_behind l.left));
  enough : vec_len l.room + length (parts_behind l.left) ≤ vec_capacity l.room;
}

abbrev pub decreases-loop-left : goal.decreases-loop-left
decreases-loop-left l = size_behind l.left
