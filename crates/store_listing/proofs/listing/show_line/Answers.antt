use Rattle.std.proofs.Common.{[], ◌∷◌, ◌++◌}
use Rattle.store_listing.proofs.Listings.{more_line, ok_shows}
use Rattle.store_listing.proofs.listing.show_line.Goals as goal

pub returns-clause-shows : goal.returns-clause-shows
returns-clause-shows g c first whole s =
    let line = c.args.line.now in
    let shown = more_line first (g.K.Sink.held c.args.out.now) c.args.pending.now.items whole s line c.add_line.new.pending.items c.in_ok-add_line.ensures.ok in
    ok_shows c.put.result first (g.K.Sink.held c.put.new.out) (whole ++ line ++ 10 ∷ []) c.put.new.pending.items (c.put.ensures.put first (whole ++ line ++ 10 ∷ []) shown)
