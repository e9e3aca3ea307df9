use Rattle.std.proofs.Common.{◌≡◌, ◌+◌, ◌≤◌, drop, length, map}
use Rattle.farm_model.specs.Numbered.{item_of}
use Rattle.farm_model.specs.Judge.{add_judgings}
use Rattle.farm_model.specs.Changes.{cells_of_item, judging_again}
use Rattle.farm_core.proofs.lists.add_judgings.Given as goal

abbrev pub invariant-loop-submission : goal.invariant-loop-submission
invariant-loop-submission l = record {
  state : add_judgings l.judge.state (map (λ n. judging_again l.problems (item_of l.submissions n)) (drop l.submission-index l.list))
      ≡ add_judgings l.initial.judge.state (map (λ n. judging_again l.problems (item_of l.submissions n)) l.list);
  count : length l.judge.state.judgings + length (drop l.submission-index l.list) ≡ length l.initial.judge.state.judgings + length l.list;
  reserved : l.judge.reserved ≡ map (λ n. cells_of_item l.problems (item_of l.submissions n)) (drop l.submission-index l.list);
  few : length l.judge.state.judgings + length (drop l.submission-index l.list) ≤ 400000;
  hosts : l.judge.hosts ≡ l.initial.judge.hosts;
}
