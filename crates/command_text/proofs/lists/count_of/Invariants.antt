use Rattle.std.proofs.Common.{◌≡◌, ◌≤◌, ◌+◌, length}
use Rattle.std.specs.Option.{option_map}
use Rattle.farm_model.specs.Numbers.{all_numbers, list_of}
use Rattle.command_text.specs.Parts.{parts_behind, size_behind, total_count}
use Rattle.command_text.proofs.lists.count_of.Given as goal

abbrev pub invariant-loop-left : goal.invariant-loop-left
invariant-loop-left l = record {
  sound : option_map length (list_of l.list) ≡ total_count l.count (all_numbers (parts_behind l.left));
  small : l.count + size_behind l.left ≤ length l.list + 1;
}

abbrev pub decreases-loop-left : goal.decreases-loop-left
decreases-loop-left l = size_behind l.left
