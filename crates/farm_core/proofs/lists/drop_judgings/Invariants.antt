use Rattle.std.proofs.Common.{◌≡◌, drop, fold, length}
use Rattle.farm_model.specs.Judge.{drop_judging}
use Rattle.farm_model.specs.Rejudgings.{new_judgings}
use Rattle.farm_core.proofs.lists.drop_judgings.Given as goal

abbrev pub invariant-loop-member : goal.invariant-loop-member
invariant-loop-member l = record {
  state : fold drop_judging l.judge.state (new_judgings (drop l.member-index l.members)) ≡ fold drop_judging l.initial.judge.state (new_judgings l.members);
  hosts : l.judge.hosts ≡ l.initial.judge.hosts;
  reserved : l.judge.reserved ≡ l.initial.judge.reserved;
  count : length l.judge.state.judgings ≡ length l.initial.judge.state.judgings;
}
