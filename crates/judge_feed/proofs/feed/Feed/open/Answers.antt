use Rattle.std.proofs.Common.{sym, ap, ◌∙◌, subst, ◌∷◌, []}
use Rattle.judge_feed.specs.Showing.{AreShown}
use Rattle.judge_feed.proofs.Feeds.{none_allowed, first_allowed, first_feed}
use Rattle.judge_feed.proofs.feed.Feed.open.Goals as goal

pub open-requires-clause-allowed : goal.open-requires-clause-allowed
open-requires-clause-allowed g c = (
  none_allowed g.J.Naming.start,
  subst (λ (rows : _). AreShown g.J.Naming.start (rows ∷ [])) (sym c.as_slice.ensures) (first_allowed _ _ _ _ c.requires.fresh.begins c.in-Ok.ensures.asks),
)

pub invariant_of-result : goal.invariant_of-result
invariant_of-result g c =
    first_feed _ _ _ _ _ _ _ c.requires.fresh c.in-Ok.ensures.asks c.in-Ok.ensures.turn
    (c.in-Ok-open.ensures.publisher ∙ ap (λ (rows : _). rows ∷ []) c.as_slice.ensures)
