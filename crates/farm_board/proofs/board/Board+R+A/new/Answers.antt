use Rattle.std.proofs.Common.{rules, ◌≤◌, ◌∙◌, sym, subst, Bool}
use Rattle.farm_board.specs.BoardState.{BoardState}
use Rattle.farm_kinds.specs.declared.kinds.Kind.{Kind}
use Rattle.farm_kinds.specs.declared.outcomes.Task.{Task}
use Rattle.farm_board.specs.Trusts.{IsTrusted}
use Rattle.farm_board.proofs.Trusts.{trusted_opening}
use Rattle.farm_board.proofs.Ends.{opens, begins}
use Rattle.farm_board.proofs.board.Board+R+A.new.Goals as goal

pub new-requires-2 : goal.new-requires-2
new-requires-2 g c =
    let is = c.of-start.ensures ∙ c.in_ok-contents.ensures in
    let small = c.ranges.seats in
    opens _ c.of-start.result c.new-held.result c.push_reserved.new.self.items (search rules) (c.new-held.ensures ∙ sym c.of-start.ensures) (begins _ _ _ _ is (search rules)) (subst (λ (z : BoardState). 1 ≤ z.seats) (sym is) c.requires.seats)

pub new-held-requires : goal.new-held-requires
new-held-requires g c =
    subst (λ (a : Task → Kind → Bool). IsTrusted a c.in_ok-contents.contents) (sym c.requires.named)
    (subst (λ (z : BoardState). IsTrusted (g.R.Trust.admits c.args.trust) z) (sym c.in_ok-contents.ensures) (trusted_opening (g.R.Trust.admits c.args.trust) _ _ c.args.journal c.requires.backed))
