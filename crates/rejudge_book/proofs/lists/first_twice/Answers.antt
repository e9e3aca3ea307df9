use Rattle.std.proofs.Common.{◌≡◌, ◌-◌, ℕ, arith, ap, ◌∙◌, length, get_or}
use Rattle.std.proofs.lemmas.List.{get_or_default}
use Rattle.rejudge_book.specs.Refusals.{AreKnown}
use Rattle.rejudge_book.proofs.Twice.{IsNew, found, seen_more}
use Rattle.rejudge_book.proofs.lists.first_twice.Goals as goal
use Rattle.rejudge_book.proofs.lists.first_twice.Goals.{else-earlier-at-via-then-earlier-at+else-list-earlier, else-earlier-at-via-else-earlier-at}

pub returns-then-list-earlier-clause-first : goal.returns-then-list-earlier-clause-first
returns-then-list-earlier-clause-first c =
    found c.args.list.now c.loop-at.places.items c.loop-at.at c.index-earlier.result.now c.loop-at.invariant.seen c.loop-at-test.true c.if-earlier-at.true c.if-list-earlier.true

pub loop-at-preserved : goal.loop-at-preserved
loop-at-preserved c =
    let len : length c.loop-at.places.items ≡ c.args.places.now.len = omega (arith, c.loop-at.places.ok.0, c.loop-at.invariant.len) in
    let known : AreKnown (length c.loop-at.places.items) c.args.list.now = rw len c.requires.known in
    let own = known c.loop-at.at 0 c.loop-at-test.true in
    let e : c.index-earlier.result.now ≡ get_or c.loop-at.places.items (get_or c.args.list.now c.loop-at.at 0 - 1) 0
    = c.index-earlier.ensures ∙ get_or_default c.loop-at.places.items (get_or c.args.list.now c.loop-at.at 0 - 1) c.index-earlier.result.now 0 (omega (arith, own.numbered, own.within)) in
    let fresh : IsNew c.args.list.now c.loop-at.places.items c.loop-at.at
    = elim c.else-earlier-at.branch [
      | else-earlier-at-via-then-earlier-at+else-list-earlier w ↦ λ b same. w.if-list-earlier.false (ap (λ (p : ℕ). get_or c.args.list.now p 0) e ∙ same)
      | else-earlier-at-via-else-earlier-at w ↦ λ b same. absurd (omega (arith, e))
    ] in
    record {
      seen = seen_more c.args.list.now c.loop-at.places.items c.loop-at.at c.loop-at.invariant.seen c.loop-at-test.true known fresh;
      len = c.loop-at.invariant.len;
      capacity = c.loop-at.invariant.capacity;
    }
