use Rattle.std.proofs.Common.{◌≡◌, ◌+◌, ◌<◌, ◌≤◌, ℕ, List, [], ◌∷◌, ◌++◌, false, IsTrue, sym, ◌∙◌, ap, subst, length, arith}
use Rattle.record_store.specs.Held.{held, records_of, Rests}
use Rattle.farm_model.specs.Texts.{event_text}
use Rattle.farm_journal.proofs.Adds.{not_added, one_length, rests_at}
use Rattle.farm_journal.proofs.journal.Journal.add.Goals as goal

pub returns-in_err-make_text-clause-moments : goal.returns-in_err-make_text-clause-moments
returns-in_err-make_text-clause-moments g c told fresh = not_added (g.Y.Disk.time c.args.disk.now) (event_text c.args.event.now ∷ []) c.args.self.now.end (c.requires.stands told fresh)

pub returns-then-end-self-clause-moments : goal.returns-then-end-self-clause-moments
returns-then-end-self-clause-moments g c told fresh = not_added (g.Y.Disk.time c.args.disk.now) (event_text c.args.event.now ∷ []) c.args.self.now.end (c.requires.stands told fresh)

pub returns-in_err-make_batch-clause-moments : goal.returns-in_err-make_batch-clause-moments
returns-in_err-make_batch-clause-moments g c told fresh = not_added (g.Y.Disk.time c.args.disk.now) (event_text c.args.event.now ∷ []) c.args.self.now.end (c.requires.stands told fresh)

pub returns-in-Ok-clause-moments : goal.returns-in-Ok-clause-moments
returns-in-Ok-clause-moments g c told fresh =
    let text = event_text c.args.event.now in
    let batch : c.as_slice-2.result.now ≡ records_of (text ∷ []) ++ 0 ∷ [] =
    c.as_slice-2.ensures.value ∙ c.in_ok-make_batch.ensures ∙ ap (λ (l : List ℕ). records_of (l ∷ []) ++ 0 ∷ []) (c.as_slice.ensures.value ∙ c.in_ok-make_text.ensures) in
    c.append_records.ensures.moments text [] told batch

pub returns-in-Err-clause-moments : goal.returns-in-Err-clause-moments
returns-in-Err-clause-moments g c told fresh =
    let text = event_text c.args.event.now in
    let batch : c.as_slice-2.result.now ≡ records_of (text ∷ []) ++ 0 ∷ [] =
    c.as_slice-2.ensures.value ∙ c.in_ok-make_batch.ensures ∙ ap (λ (l : List ℕ). records_of (l ∷ []) ++ 0 ∷ []) (c.as_slice.ensures.value ∙ c.in_ok-make_text.ensures) in
    c.append_records.ensures.moments text [] told batch

pub returns-in-Ok-clause-added : goal.returns-in-Ok-clause-added
returns-in-Ok-clause-added g c told =
    let text = event_text c.args.event.now in
    let t = g.Y.Disk.time c.args.disk.now in
    let t1 = g.Y.Disk.time c.append_records.new.disk in
    let batch : c.as_slice-2.result.now ≡ records_of (text ∷ []) ++ 0 ∷ [] =
    c.as_slice-2.ensures.value ∙ c.in_ok-make_batch.ensures ∙ ap (λ (l : List ℕ). records_of (l ∷ []) ++ 0 ∷ []) (c.as_slice.ensures.value ∙ c.in_ok-make_text.ensures) in
    let long = ap (λ (l : List ℕ). length l) c.in_ok-make_text.ensures in
    let whole : c.self.inside.end + length (records_of (text ∷ [])) ≡ c.saturating_add-end.result = omega (arith, one_length text, long) in
    rests_at t1.now (held t.now.seen ++ text ∷ []) (c.self.inside.end + length (records_of (text ∷ []))) c.saturating_add-end.result whole
    (c.in-Ok.ensures.done text [] told batch)
