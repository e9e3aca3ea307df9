use Rattle.std.proofs.Common.{Bool, sym, ap, ◌∙◌}
use Rattle.farm_kinds.specs.declared.kinds.Kind.{Kind}
use Rattle.farm_kinds.specs.declared.outcomes.Task.{Task}
use Rattle.farm_board.specs.Trusts.{is_value_of}
use Rattle.core_tests.proofs.farm_board_tests.judge_of.Goals as goal

pub new-requires-2-clause-named : goal.new-requires-2-clause-named
new-requires-2-clause-named g c =
    c.requires.named ∙ ap {B = Task → Kind → Bool} (λ (cases : g.row.C.Denot) (task : Task) (kind : Kind). is_value_of (g.C.Cases.case_at cases task) kind) (sym c.new.ensures)
