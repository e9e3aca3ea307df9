use Rattle.std.proofs.Common.{◌≡◌, ◌+◌, ◌++◌, ◌≤◌, All, drop, length, map, vec_len, vec_capacity}
use Rattle.farm_model.specs.Numbered.{item_of}
use Rattle.farm_model.specs.Changes.{cells_of_item}
use Rattle.farm_core.proofs.lists.cells_of.Given as goal

abbrev pub invariant-loop-submission : goal.invariant-loop-submission
invariant-loop-submission l = record {
  cells : l.tests.items ++ map (λ n. cells_of_item l.problems (item_of l.submissions n)) (drop l.submission-index l.list) ≡ map (λ n. cells_of_item l.problems (item_of l.submissions n)) l.list;
  short : All (λ n. n ≤ 1000) l.tests.items;
  room : vec_len l.tests + length (drop l.submission-index l.list) ≤ vec_capacity l.tests;
}
