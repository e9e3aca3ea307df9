use Rattle.std.proofs.Common.{ℕ, List, take, subst}
use Rattle.std.specs.Io.KnownBytes.{Appends}
use Rattle.store_listing.proofs.Listings.{put_some}
use Rattle.store_listing.proofs.listing.put.Goals as goal

pub returns-in-Failed-clause-failed : goal.returns-in-Failed-clause-failed
returns-in-Failed-clause-failed g c first whole s =
    let old = g.K.Sink.held c.args.out.now in
    let new = g.K.Sink.held c.put-end.new.self in
    let b = c.in-Failed.ensures.bytes in
    put_some first old c.args.pending.now.items whole s new b.0 (subst (λ (p : List ℕ). Appends old new (take b.0 p)) c.as_slice.ensures.value b.2)
