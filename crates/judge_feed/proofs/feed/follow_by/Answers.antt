use Rattle.std.proofs.Common.{refl, ◌∙◌, inr}
use Rattle.judge_feed.proofs.Feeds.{call_feed}
use Rattle.judge_feed.proofs.feed.follow_by.Goals as goal

pub returns-then-is_pending-clause-keeps : goal.returns-then-is_pending-clause-keeps
returns-then-is_pending-clause-keeps g c = call_feed _ _ _ _ _ _ _ _ refl c.if-is_pending.ensures.asks c.if-is_pending.ensures.turn c.requires.keeps

pub refresh_by-requires-clause-keeps : goal.refresh_by-requires-clause-keeps
refresh_by-requires-clause-keeps g c = call_feed _ _ _ _ _ _ _ _ refl c.if-is_pending.ensures.asks.1 c.if-is_pending.ensures.turn c.requires.keeps

pub returns-clause-followed : goal.returns-clause-followed
returns-clause-followed g c = inr (
  λ none. c.if-left-eq0.false (c.left.ensures ∙ none),
  record {
    between = record { versions = c.args.publisher.now; pass = c.is_pending.new.pass };
    answer = c.if-is_pending.ensures.asks.0;
    calls = c.if-is_pending.ensures.asks.1;
    other = c.if-is_pending.ensures.asks.2;
    kept = refl;
    refreshes = c.refresh_by.ensures.refreshed;
  },
)
