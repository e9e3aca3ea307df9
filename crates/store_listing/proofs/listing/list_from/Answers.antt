use Rattle.std.proofs.Common.{◌≡◌, ◌+◌, ◌<◌, ℕ, IsTrue, length, sym, ◌∙◌, arith}
use Rattle.std.specs.Io.KnownBytes.{Appends}
use Rattle.record_store.specs.Held.{held}
use Rattle.store_listing.specs.Listing.{store_text, is_store, size_behind}
use Rattle.store_listing.proofs.Listings.{no_store, is_a_store, ok_beside}
use Rattle.store_listing.proofs.listing.list_from.Goals as goal

pub returns-in-None-clause-no_store : goal.returns-in-None-clause-no_store
returns-in-None-clause-no_store g c told is =
    let file = (g.Y.Disk.time c.args.disk.now).now.seen in
    let inside : 3 + length c.args.config.now < length file = (let i = c.requires.inside in let e = c.requires.len told in omega (arith, i, e)) in
    no_store file c.args.config.now (c.requires.first told) inside (sym c.config_of.ensures ∙ c.in-None.is)

pub returns-in-Some-clause-listed : goal.returns-in-Some-clause-listed
returns-in-Some-clause-listed g c told =
    let file = (g.Y.Disk.time c.args.disk.now).now.seen in
    let inside : 3 + length c.args.config.now < length file = (let i = c.requires.inside in let e = c.requires.len told in omega (arith, i, e)) in
    let store : IsTrue (is_store file) = is_a_store file c.args.config.now (c.requires.first told) inside c.in-Some.field-0 (sym c.config_of.ensures ∙ c.in-Some.is) in
    ok_beside c.list_known.result (IsTrue (is_store file)) (Appends (g.K.Sink.held c.args.out.now) (g.K.Sink.held c.list_known.new.out) (store_text (held file)))
    (λ (rest : ℕ). rest ≡ size_behind file) store (c.list_known.ensures.listed told)
