use Rattle.std.proofs.Common.{◌≡◌, drop, fold}
use Rattle.farm_model.specs.Changes.{with_current}
use Rattle.farm_core.proofs.lists.make_current.Given as goal

abbrev pub invariant-loop-member : goal.invariant-loop-member
invariant-loop-member l = fold with_current l.submissions (drop l.member-index l.members) ≡ fold with_current l.initial.submissions l.members
