use Rattle.std.proofs.Common.{◌+◌, ◌<◌, [], ◌∷◌, length, arith}
use Rattle.record_store.specs.Held.{held}
use Rattle.store_listing.specs.Listing.{store_text, Shows}
use Rattle.store_listing.proofs.Listings.{on_err, shows_first, nothing_put, first_listed}
use Rattle.store_listing.proofs.listing.list_known.Goals as goal

pub returns-in_err-start-clause-failed : goal.returns-in_err-start-clause-failed
returns-in_err-start-clause-failed g c told = on_err _ _ (nothing_put _ _)

pub returns-in_err-end-clause-failed : goal.returns-in_err-end-clause-failed
returns-in_err-end-clause-failed g c told =
    let config = c.args.config.now in
    let file = (g.Y.Disk.time c.args.disk.now).now.seen in
    let inside : 3 + length config < length file = (let i = c.requires.inside in let e = c.requires.len told in omega (arith, i, e)) in
    let first = g.K.Sink.held c.args.out.now in
    let shows : Shows first first c.start.new.pending.items (store_text (config ∷ [])) = shows_first first c.start.new.pending.items (store_text (config ∷ [])) (c.in_ok-start.ensures.ok c.new-pending.ensures.items) in
    on_err _ _ (c.in_err-end.ensures.failed told first config (first_listed file config (c.requires.first told) inside) shows)

pub returns-in_err-put-clause-failed : goal.returns-in_err-put-clause-failed
returns-in_err-put-clause-failed g c told =
    let config = c.args.config.now in
    let file = (g.Y.Disk.time c.args.disk.now).now.seen in
    let inside : 3 + length config < length file = (let i = c.requires.inside in let e = c.requires.len told in omega (arith, i, e)) in
    let first = g.K.Sink.held c.args.out.now in
    let shows : Shows first first c.start.new.pending.items (store_text (config ∷ [])) = shows_first first c.start.new.pending.items (store_text (config ∷ [])) (c.in_ok-start.ensures.ok c.new-pending.ensures.items) in
    let all = c.in_ok-end.ensures.shows told first config (first_listed file config (c.requires.first told) inside) shows in
    on_err _ _ (c.in_err-put.ensures.failed first (store_text (held file)) all.0)

pub returns-clause-listed : goal.returns-clause-listed
returns-clause-listed g c told =
    let config = c.args.config.now in
    let file = (g.Y.Disk.time c.args.disk.now).now.seen in
    let inside : 3 + length config < length file = (let i = c.requires.inside in let e = c.requires.len told in omega (arith, i, e)) in
    let first = g.K.Sink.held c.args.out.now in
    let shows : Shows first first c.start.new.pending.items (store_text (config ∷ [])) = shows_first first c.start.new.pending.items (store_text (config ∷ [])) (c.in_ok-start.ensures.ok c.new-pending.ensures.items) in
    let all = c.in_ok-end.ensures.shows told first config (first_listed file config (c.requires.first told) inside) shows in
    let end_is = all.1 in
    let len_is = c.requires.len told in (
      (c.in_ok-put.ensures.put first (store_text (held file)) all.0).0,
      omega (arith, end_is, len_is),
    )
