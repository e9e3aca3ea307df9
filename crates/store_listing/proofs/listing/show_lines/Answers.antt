use Rattle.std.proofs.Common.{◌≡◌, ◌+◌, ◌<◌, ℕ, List, [], ◌∷◌, ◌++◌, Bool, IsTrue, refl, sym, ◌∙◌, ap, subst, length, drop, arith}
use Rattle.record_store.specs.Model.{DiskTime}
use Rattle.record_store.specs.Held.{held, IsNext}
use Rattle.record_store.specs.Reading.{IsAhead}
use Rattle.store_listing.specs.Listing.{store_text, Shows, IsListed}
use Rattle.store_listing.proofs.Listings.{on_err, shown_behind, shown_all, prefix_behind, listed_more, text_more}
use Rattle.store_listing.proofs.listing.show_lines.Goals as goal

pub records-init : goal.records-init
records-init g c = record {
  within = c.requires.within;
  path = refl;
  tells = refl;
  disk_later = omega arith;
  out_later = omega arith;
  still = λ told. refl;
  ahead = λ told. c.new-ahead.ensures (g.Y.Disk.time c.args.disk.now).now.seen;
  shown = λ told first config is shows. ([], is, shows);
}

pub returns-in-Err-clause-failed : goal.returns-in-Err-clause-failed
returns-in-Err-clause-failed g c told first config is shows =
    let inv = c.records.invariant in
    let file = (g.Y.Disk.time c.args.disk.now).now.seen in
    let inside : c.records.at < length file = (let w = inv.within in let e = c.requires.len told in omega (arith, w, e)) in
    let so_far = inv.shown told first config is shows in
    shown_behind file c.records.at config so_far.0 so_far.1 inside first (g.K.Sink.held c.records.out) c.records.pending.items so_far.2

pub returns-then-not-found-clause-shows : goal.returns-then-not-found-clause-shows
returns-then-not-found-clause-shows g c told first config is shows =
    let inv = c.records.invariant in
    let t = g.Y.Disk.time c.args.disk.now in
    let t1 = g.Y.Disk.time c.records.disk in
    let told1 : IsTrue (g.Y.Disk.tells c.records.disk) = subst (λ (b : Bool). IsTrue b) (sym inv.tells) told in
    let inside : c.records.at < length t.now.seen = (let w = inv.within in let e = c.requires.len told in omega (arith, w, e)) in
    let so_far = inv.shown told first config is shows in
    let met : held (drop c.records.at t1.now.seen) ≡ [] = rw c.if-not-found.true at (c.in-Ok.ensures.next told1) in
    let none : held (drop c.records.at t.now.seen) ≡ [] = subst (λ (s : DiskTime). held (drop c.records.at s.now.seen) ≡ []) (inv.still told) met in
    shown_all t.now.seen c.records.at config so_far.0 so_far.1 inside none first (g.K.Sink.held c.records.out) c.records.pending.items so_far.2

pub returns-in_err-show_line-in-Ok-clause-failed : goal.returns-in_err-show_line-in-Ok-clause-failed
returns-in_err-show_line-in-Ok-clause-failed g c told first config is shows =
    let inv = c.records.invariant in
    let t = g.Y.Disk.time c.args.disk.now in
    let t1 = g.Y.Disk.time c.records.disk in
    let told1 : IsTrue (g.Y.Disk.tells c.records.disk) = subst (λ (b : Bool). IsTrue b) (sym inv.tells) told in
    let so_far = inv.shown told first config is shows in
    let items = c.read_record.new.line.items in
    let line = c.as_slice.result.now in
    let met : IsNext t1.now.seen c.records.at items = rw c.if-not-found.false at (c.in-Ok.ensures.next told1) in
    let here : IsNext t.now.seen c.records.at items = subst (λ (s : DiskTime). IsNext s.now.seen c.records.at items) (inv.still told) met in
    let next : IsNext t.now.seen c.records.at line = subst (λ (l : List ℕ). IsNext t.now.seen c.records.at l) (sym c.as_slice.ensures.value) here in
    let size = ap (λ (l : List ℕ). length l) c.as_slice.ensures.value in
    let fits = c.in-Ok.ensures.inside c.if-not-found.false in
    let inside : c.records.at + 3 + length line < length t.now.seen = (let e = c.requires.len told in omega (arith, size, fits, e)) in
    on_err _ _ (prefix_behind t.now.seen c.records.at config so_far.0 so_far.1 line next inside first (g.K.Sink.held c.show_line.new.out)
    (c.in_err-show_line-in-Ok.ensures.failed first (store_text (config ∷ so_far.0)) so_far.2))

pub records-preserved : goal.records-preserved
records-preserved g c =
    let inv = c.records.invariant in
    let t = g.Y.Disk.time c.args.disk.now in
    let t1 = g.Y.Disk.time c.records.disk in
    let items = c.read_record.new.line.items in
    let line = c.as_slice.result.now in
    let size = ap (λ (l : List ℕ). length l) c.as_slice.ensures.value in
    let fits = c.in-Ok.ensures.inside c.if-not-found.false in
    let at_is : c.records.at + 3 + length line ≡ c.records.at + (3 + c.len.result) = omega (arith, size) in
    record {
      within = omega (arith, size, fits);
      path = c.read_record.ensures.path ∙ inv.path;
      tells = c.read_record.ensures.tells ∙ inv.tells;
      disk_later = (let l = c.read_record.ensures.cause.later in let f = inv.disk_later in omega (arith, l, f));
      out_later = (let l = c.show_line.ensures.later in let f = inv.out_later in omega (arith, l, f));
      still = λ told.
          let told1 : IsTrue (g.Y.Disk.tells c.records.disk) = subst (λ (b : Bool). IsTrue b) (sym inv.tells) told in
          c.read_record.ensures.still told1 ∙ inv.still told;
      ahead = λ told.
          let told1 : IsTrue (g.Y.Disk.tells c.records.disk) = subst (λ (b : Bool). IsTrue b) (sym inv.tells) told in
          subst (λ (s : DiskTime). IsAhead s.now.seen c.read_record.new.ahead) (inv.still told) (c.in-Ok.ensures.ahead told1);
      shown = λ told first config is shows.
          let told1 : IsTrue (g.Y.Disk.tells c.records.disk) = subst (λ (b : Bool). IsTrue b) (sym inv.tells) told in
          let so_far = inv.shown told first config is shows in
          let met : IsNext t1.now.seen c.records.at items = rw c.if-not-found.false at (c.in-Ok.ensures.next told1) in
          let here : IsNext t.now.seen c.records.at items = subst (λ (s : DiskTime). IsNext s.now.seen c.records.at items) (inv.still told) met in
          let next : IsNext t.now.seen c.records.at line = subst (λ (l : List ℕ). IsNext t.now.seen c.records.at l) (sym c.as_slice.ensures.value) here in
          let whole = text_more t.now.seen c.records.at config so_far.0 so_far.1 line in (
            so_far.0 ++ line ∷ [],
            subst (λ (n : ℕ). IsListed t.now.seen n (config ∷ (so_far.0 ++ line ∷ []))) at_is (listed_more t.now.seen c.records.at config so_far.0 so_far.1 line next),
            subst (λ (w : List ℕ). Shows first (g.K.Sink.held c.show_line.new.out) c.show_line.new.pending.items w) (sym whole)
                (c.in_ok-show_line-in-Ok.ensures.shows first (store_text (config ∷ so_far.0)) so_far.2),
          );
    }
