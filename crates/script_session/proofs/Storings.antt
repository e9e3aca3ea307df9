-- Events of a session that are stored.
use Rattle.std.proofs.Common.{ℕ, ◌≡◌, ◌+◌, ◌<◌, ◌≤◌, ◌^◌, ◌-◌, ◌/◌, ◌%◌, min, Bool, true, false, IsTrue, List, [], ◌∷◌, ◌++◌, ◌⊎◌, inl, inr, length, map, refl, sym, ap, ◌∙◌, append_assoc, append-nil, subst, arith, length-append, if◌then◌else◌}
use Rattle.std.proofs.lemmas.List.{map_push, map-append}
use Rattle.farm_kinds.specs.declared.events.Event.{Event}
use Rattle.farm_model.specs.State.{State}
use Rattle.farm_model.specs.Replay.{state_after, reply_to}
use Rattle.farm_model.specs.Texts.{event_text}
use Rattle.record_store.specs.Model.{DiskState, DiskTime, AtEachMoment, Rose}
use Rattle.record_store.specs.Held.{held, records_of, Rests, IsBeforeOrAfter}
use Rattle.record_store.proofs.Moments.{started, weaken, followed, leaves_now}
use Rattle.record_store.proofs.Images.{quiet_leaves}
use Rattle.record_store.proofs.Prefixes.{closed_held, records_more}
use Rattle.stored_events.specs.Kept.{is_kept, kept_events}
use Rattle.stored_events.proofs.KeptLaws.{kept_append}
use Rattle.script_session.specs.Storing.{stored_lines, HoldsPrefix, LeavesPrefix, store_end, Fits, DoesNotFit, StoreValue, IsReady, IsSameStore, KeepsAll, Fails}

-- One event more

kept_one : (s : State) (e : Event) → kept_events s (e ∷ []) ≡ (if is_kept e (reply_to s e) then e ∷ [] else [])
kept_one s e = refl

pub kept_not : (s : State) (es : List Event) (e : Event) → is_kept e (reply_to (state_after s es) e) ≡ false → kept_events s (es ++ e ∷ []) ≡ kept_events s es
kept_not s es e is =
    kept_append s es (e ∷ []) ∙ ap (λ (b : Bool). kept_events s es ++ (if b then e ∷ [] else [])) is ∙ append-nil (kept_events s es)

pub kept_next : (s : State) (es : List Event) (e : Event) → is_kept e (reply_to (state_after s es) e) ≡ true → kept_events s (es ++ e ∷ []) ≡ kept_events s es ++ e ∷ []
kept_next s es e is = kept_append s es (e ∷ []) ∙ ap (λ (b : Bool). kept_events s es ++ (if b then e ∷ [] else [])) is

pub lines_next : (s : State) (es : List Event) (e : Event) → is_kept e (reply_to (state_after s es) e) ≡ true → stored_lines s (es ++ e ∷ []) ≡ stored_lines s es ++ event_text e ∷ []
lines_next s es e is = ap (λ (l : List Event). map event_text l) (kept_next s es e is) ∙ map_push event_text (kept_events s es) e

-- where the records end with it
pub end_next : (at : ℕ) (s : State) (es : List Event) (e : Event) → is_kept e (reply_to (state_after s es) e) ≡ true → store_end at s (es ++ e ∷ []) ≡ store_end at s es + 3 + length (event_text e)
end_next at s es e is =
    let more : length (records_of (stored_lines s (es ++ e ∷ []))) ≡ length (records_of (stored_lines s es ++ event_text e ∷ [])) = ap (λ (l : List (List ℕ)). length (records_of l)) (lines_next s es e is) in
    let one = ap (λ (l : List ℕ). length l) (records_more (stored_lines s es) (event_text e)) in
    let parts = length-append (records_of (stored_lines s es)) (1 ∷ (length (event_text e) % 256) ∷ (length (event_text e) / 256) ∷ event_text e) in
    omega (arith, more, one, parts)

-- What is stored of fewer events

records_longer : (xs ys : List (List ℕ)) → length (records_of xs) ≤ length (records_of (xs ++ ys))
records_longer [] ys = omega arith
records_longer (x ∷ xs) ys = let more = records_longer xs ys in omega (arith, more, length-append x (records_of xs), length-append x (records_of (xs ++ ys)))

prefix_empty : (xs ys : List Event) → xs ++ ys ≡ [] → xs ≡ []
prefix_empty [] ys is = refl
prefix_empty (x ∷ xs) ys is = cc

pub fits_fewer : (at limit : ℕ) (s : State) (least behind : List Event) → Fits at limit s (least ++ behind) → Fits at limit s least
fits_fewer at limit s least behind (inl none) = inl (prefix_empty (kept_events s least) (kept_events (state_after s least) behind) (sym (kept_append s least behind) ∙ none))
fits_fewer at limit s least behind (inr within) =
    let parts : stored_lines s (least ++ behind) ≡ stored_lines s least ++ map event_text (kept_events (state_after s least) behind) =
    ap (λ (l : List Event). map event_text l) (kept_append s least behind) ∙ map-append event_text (kept_events s least) (kept_events (state_after s least) behind) in
    let longer = records_longer (stored_lines s least) (map event_text (kept_events (state_after s least) behind)) in
    let same = ap (λ (l : List (List ℕ)). length (records_of l)) parts in
    inr (omega (arith, within, longer, same))

-- What a crash leaves

pub prefix_more : (first : List (List ℕ)) (s : State) (least es others : List Event) (file : List ℕ) → HoldsPrefix first s least es file → HoldsPrefix first s least (es ++ others) file
prefix_more first s least es others file h = record {
  more = h.more;
  others = h.others ++ others;
  run = ap (λ (l : List Event). l ++ others) h.run ∙ append_assoc (least ++ h.more) h.others others;
  holds = h.holds;
}

-- the store holds what is stored of the run, or of it and one event more
module _ (first : List (List ℕ)) (s : State) (es : List Event) (e : Event) (stored : is_kept e (reply_to (state_after s es) e) ≡ true) (others : List Event) where
  pub before_or_after : (lines : List (List ℕ)) → lines ≡ first ++ stored_lines s es → (least behind : List Event) → es ≡ least ++ behind → (file : List ℕ) → IsBeforeOrAfter lines (event_text e ∷ []) file
      → HoldsPrefix first s least (es ++ (e ∷ [] ++ others)) file
  before_or_after lines is least behind run file (inl same) = record {
    more = behind;
    others = e ∷ others;
    run = ap (λ (l : List Event). l ++ (e ∷ others)) run;
    holds = same ∙ is ∙ ap (λ (l : List Event). first ++ stored_lines s l) run;
  }
  before_or_after lines is least behind run file (inr more) =
      let whole : es ++ e ∷ [] ≡ least ++ (behind ++ e ∷ []) = ap (λ (l : List Event). l ++ e ∷ []) run ∙ append_assoc least behind (e ∷ []) in
      record {
        more = behind ++ e ∷ [];
        others = others;
        run = sym (append_assoc es (e ∷ []) others) ∙ ap (λ (l : List Event). l ++ others) whole;
        holds =
            more ∙ ap (λ (l : List (List ℕ)). l ++ event_text e ∷ []) is ∙ append_assoc first (stored_lines s es) (event_text e ∷ [])
            ∙ ap (λ (l : List (List ℕ)). first ++ l) (sym (lines_next s es e stored)) ∙ ap (λ (l : List Event). first ++ stored_lines s l) whole;
      }

-- what is held where the records rest
pub rests_lines : (d : DiskState) (lines : List (List ℕ)) (end : ℕ) → Rests d lines end → held d.seen ≡ lines
rests_lines d lines end rests = closed_held d.seen lines end rests.closed

pub ready_rests : (d : DiskState) (lines : List (List ℕ)) (end : ℕ) → Rests d lines end → Rests d (held d.seen) end
ready_rests d lines end rests = subst (λ (l : List (List ℕ)). Rests d l end) (sym (rests_lines d lines end rests)) rests

-- a store in which all was stored leaves at its end what is stored of a prefix, and did so at each moment
pub keeps_leaves : (o v : StoreValue) (s : State) (least es others : List Event) → KeepsAll o v s least es → IsTrue o.tells → LeavesPrefix (held o.time.now.seen) s o.time v.time least (es ++ others)
keeps_leaves o v s least es others k told =
    let first = held o.time.now.seen in
    let rests = k.rests told in
    let here : HoldsPrefix first s least (es ++ others) v.time.now.seen = record {
      more = k.behind;
      others = others;
      run = ap (λ (l : List Event). l ++ others) k.run;
      holds = rests_lines v.time.now (first ++ stored_lines s es) v.journal.end rests ∙ ap (λ (l : List Event). first ++ stored_lines s l) k.run;
    } in
    record {
      moments = weaken (HoldsPrefix first s [] es) (HoldsPrefix first s [] (es ++ others)) o.time v.time (λ file h. prefix_more first s [] es others file h) (k.moments told);
      acknowledged = quiet_leaves (HoldsPrefix first s least (es ++ others)) v.time.now rests.quiet here;
    }

-- The first moment

pub keeps_none : (o : StoreValue) (s : State) → IsReady o → KeepsAll o o s [] []
keeps_none o s ready = record {
  same = record { limit = refl; tells = refl; opened = refl; later = omega arith };
  behind = [];
  run = refl;
  fresh = ready.fresh;
  end = omega arith;
  fits = inl refl;
  moments = λ told.
      let first = held o.time.now.seen in
      started (HoldsPrefix first s [] []) o.time
      (quiet_leaves (HoldsPrefix first s [] []) o.time.now (ready.rests told).quiet (record { more = []; others = []; run = refl; holds = sym (append-nil first) }));
  rests = λ told. subst (λ (l : List (List ℕ)). Rests o.time.now l o.journal.end) (sym (append-nil (held o.time.now.seen))) (ready.rests told);
}

-- One event more

module _ (o v : StoreValue) (s : State) (least es : List Event) (e : Event) (k : KeepsAll o v s least es) where
  run_more : es ++ e ∷ [] ≡ least ++ (k.behind ++ e ∷ [])
  run_more = ap (λ (l : List Event). l ++ e ∷ []) k.run ∙ append_assoc least k.behind (e ∷ [])

  told_still : IsTrue o.tells → IsTrue v.tells
  told_still told = subst IsTrue (sym k.same.tells) told

  held_is : IsTrue o.tells → held v.time.now.seen ≡ held o.time.now.seen ++ stored_lines s es
  held_is told = rests_lines v.time.now (held o.time.now.seen ++ stored_lines s es) v.journal.end (k.rests told)

  -- it is not stored
  pub keeps_quiet : is_kept e (reply_to (state_after s es) e) ≡ false → KeepsAll o v s least (es ++ e ∷ [])
  keeps_quiet not_stored =
      let same = kept_not s es e not_stored in
      let first = held o.time.now.seen in
      record {
        same = k.same;
        behind = k.behind ++ e ∷ [];
        run = run_more;
        fresh = k.fresh;
        end = k.end ∙ ap (λ (l : List Event). o.journal.end + length (records_of (map event_text l))) (sym same);
        fits = subst (λ (l : List Event). (l ≡ []) ⊎ (o.journal.end + length (records_of (map event_text l)) ≤ o.journal.limit)) (sym same) k.fits;
        moments = λ told. weaken (HoldsPrefix first s [] es) (HoldsPrefix first s [] (es ++ e ∷ [])) o.time v.time (λ file h. prefix_more first s [] es (e ∷ []) file h) (k.moments told);
        rests = λ told. subst (λ (l : List Event). Rests v.time.now (first ++ map event_text l) v.journal.end) (sym same) (k.rests told);
      }

  module _ (w : StoreValue) (stored : is_kept e (reply_to (state_after s es) e) ≡ true) (same : IsSameStore v w)
      (adding : IsTrue v.tells → AtEachMoment (IsBeforeOrAfter (held v.time.now.seen) (event_text e ∷ [])) v.time w.time) where
    same_more : IsSameStore o w
    same_more =
        let before = k.same.later in
        let after = same.later in
        record { limit = same.limit ∙ k.same.limit; tells = same.tells ∙ k.same.tells; opened = same.opened ∙ k.same.opened; later = omega (arith, before, after) }

    both_moments : (others : List Event) → IsTrue o.tells → AtEachMoment (HoldsPrefix (held o.time.now.seen) s [] (es ++ (e ∷ [] ++ others))) o.time w.time
    both_moments others told =
        let first = held o.time.now.seen in
        let P : List ℕ → Type 0 = HoldsPrefix first s [] (es ++ (e ∷ [] ++ others)) in
        followed P o.time v.time w.time
        (weaken (HoldsPrefix first s [] es) P o.time v.time (λ file h. prefix_more first s [] es (e ∷ [] ++ others) file h) (k.moments told))
        (weaken (IsBeforeOrAfter (held v.time.now.seen) (event_text e ∷ [])) P v.time w.time
        (before_or_after first s es e stored others (held v.time.now.seen) (held_is told) [] es refl) (adding (told_still told)))

    pub keeps_added : w.journal.spent ≡ false → w.journal.end ≡ v.journal.end + 3 + length (event_text e) → v.journal.end + 3 + length (event_text e) ≤ v.journal.limit
        → (IsTrue v.tells → Rests w.time.now (held v.time.now.seen ++ event_text e ∷ []) w.journal.end) → KeepsAll o w s least (es ++ e ∷ [])
    keeps_added fresh end fits added =
        let more = end_next o.journal.end s es e stored in
        let so_far = k.end in
        let limit = k.same.limit in
        let first = held o.time.now.seen in
        record {
          same = same_more;
          behind = k.behind ++ e ∷ [];
          run = run_more;
          fresh = fresh;
          end = omega (arith, more, so_far, end);
          fits = inr (omega (arith, more, so_far, fits, limit));
          moments = λ told. both_moments [] told;
          rests = λ told.
              let lines : held v.time.now.seen ++ event_text e ∷ [] ≡ first ++ stored_lines s (es ++ e ∷ []) =
              ap (λ (l : List (List ℕ)). l ++ event_text e ∷ []) (held_is told) ∙ append_assoc first (stored_lines s es) (event_text e ∷ [])
              ∙ ap (λ (l : List (List ℕ)). first ++ l) (sym (lines_next s es e stored)) in
              subst (λ (l : List (List ℕ)). Rests w.time.now l w.journal.end) lines (added (told_still told));
        }

    pub fails_adding : w.journal.spent ≡ true → Rose v.faults w.faults → (others : List Event) → Fails o w s least (es ++ (e ∷ [] ++ others))
    fails_adding spent rose others =
        let before = k.same.later in
        let first = held o.time.now.seen in
        record {
          same = same_more;
          spent = spent;
          rose = omega (arith, before, rose);
          fits = fits_fewer o.journal.end o.journal.limit s least k.behind (subst (λ (l : List Event). Fits o.journal.end o.journal.limit s l) k.run k.fits);
          leaves = λ told.
              let P : List ℕ → Type 0 = HoldsPrefix first s least (es ++ (e ∷ [] ++ others)) in
              record {
                moments = both_moments others told;
                acknowledged = leaves_now P v.time w.time
                    (weaken (IsBeforeOrAfter (held v.time.now.seen) (event_text e ∷ [])) P v.time w.time
                    (before_or_after first s es e stored others (held v.time.now.seen) (held_is told) least k.behind k.run) (adding (told_still told)));
              };
        }

  -- it has no room
  pub not_fitting : (stored : is_kept e (reply_to (state_after s es) e) ≡ true) (end : ℕ) → v.journal.limit < v.journal.end + 3 + length (event_text e)
      → end ≡ min (v.journal.end + 3 + length (event_text e)) (2 ^ 64 - 1) → (others : List Event) → DoesNotFit o.journal.end o.journal.limit s (es ++ (e ∷ [] ++ others)) end
  not_fitting stored end past is others =
      let more = end_next o.journal.end s es e stored in
      let so_far = k.end in
      let limit = k.same.limit in
      record {
        before = es;
        next = e;
        others = others;
        run = refl;
        fits = k.fits;
        stored = stored;
        past = omega (arith, more, so_far, past, limit);
        would_end = omega (arith, more, so_far, is);
      }

  -- nothing was done
  pub keeps_still : (w : StoreValue) → IsSameStore v w → w.journal.end ≡ v.journal.end → w.journal.spent ≡ false → (IsTrue v.tells → w.time ≡ v.time) → KeepsAll o w s least es
  keeps_still w same end fresh still =
      let before = k.same.later in
      let after = same.later in
      record {
        same = record { limit = same.limit ∙ k.same.limit; tells = same.tells ∙ k.same.tells; opened = same.opened ∙ k.same.opened; later = omega (arith, before, after) };
        behind = k.behind;
        run = k.run;
        fresh = fresh;
        end = end ∙ k.end;
        fits = k.fits;
        moments = λ told. subst (λ (t : DiskTime). AtEachMoment (HoldsPrefix (held o.time.now.seen) s [] es) o.time t) (sym (still (told_still told))) (k.moments told);
        rests = λ told.
            subst (λ (n : ℕ). Rests w.time.now (held o.time.now.seen ++ stored_lines s es) n) (sym end)
            (subst (λ (t : DiskTime). Rests t.now (held o.time.now.seen ++ stored_lines s es) v.journal.end) (sym (still (told_still told))) (k.rests told));
      }

-- all of it is settled
pub keeps_settled : (o v : StoreValue) (s : State) (least es : List Event) → KeepsAll o v s least es → KeepsAll o v s es es
keeps_settled o v s least es k = record {
  same = k.same;
  behind = [];
  run = sym (append-nil es);
  fresh = k.fresh;
  end = k.end;
  fits = k.fits;
  moments = k.moments;
  rests = k.rests;
}
