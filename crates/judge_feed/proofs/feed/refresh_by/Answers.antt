use Rattle.std.proofs.Common.{refl, sym, subst, ◌≤◌, length, ◌∷◌, ◌++◌, []}
use Rattle.public_board.specs.Versions.{last_of}
use Rattle.public_board.specs.Values.{HasPublished}
use Rattle.judge_feed.specs.Showing.{AreShown}
use Rattle.judge_feed.specs.Refreshing.{KeepsFeed}
use Rattle.judge_feed.proofs.Feeds.{call_feed, rows_long, rows_allowed, published_feed}
use Rattle.judge_feed.proofs.feed.refresh_by.Goals as goal

pub returns-in-Err-clause-keeps : goal.returns-in-Err-clause-keeps
returns-in-Err-clause-keeps g c = call_feed _ _ _ _ _ _ _ _ refl c.in-Err.ensures.asks.1 c.in-Err.ensures.turn c.requires.keeps

pub publish-requires-clause-long : goal.publish-requires-clause-long
publish-requires-clause-long g c =
    subst (λ (z : _). length (last_of c.args.publisher.now) ≤ length z) (sym c.as_slice.ensures) (rows_long _ _ _ _ _ _ _ c.requires.keeps c.in-Ok.ensures.asks)

pub publish-requires-clause-allowed : goal.publish-requires-clause-allowed
publish-requires-clause-allowed g c =
    subst (λ (z : _). AreShown g.J.Naming.start (c.args.publisher.now ++ z ∷ [])) (sym c.as_slice.ensures) (rows_allowed _ _ _ _ _ _ _ c.requires.keeps c.in-Ok.ensures.asks)

pub returns-in-Err-publish-clause-keeps : goal.returns-in-Err-publish-clause-keeps
returns-in-Err-publish-clause-keeps g c =
    subst (λ (vs : _). KeepsFeed g.J.Naming.board g.J.Naming.start g.J.Naming.number vs c.ask_rows.new.pass) (sym c.in-Err-publish.ensures.versions)
    (call_feed _ _ _ _ _ _ _ _ refl c.in-Ok.ensures.asks c.in-Ok.ensures.turn c.requires.keeps)

pub returns-clause-keeps : goal.returns-clause-keeps
returns-clause-keeps g c =
    published_feed _ _ _ _ _ _ _ _ c.requires.keeps c.in-Ok.ensures.asks c.in-Ok.ensures.turn
    (subst (λ (rows : _). HasPublished c.args.publisher.now c.publish.new.self rows) c.as_slice.ensures c.in-Ok-publish.ensures.versions)
