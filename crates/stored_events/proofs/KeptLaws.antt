-- What is stored of a run leads to the state of the whole run.
use Rattle.std.proofs.Common.{ℕ, ◌≡◌, Bool, true, false, List, [], ◌∷◌, ◌++◌, Option, Some, None, refl, sym, ◌∙◌, ap, if◌then◌else◌}
use Rattle.farm_kinds.specs.declared.outcomes.Claim.{Claim}
use Rattle.farm_kinds.specs.declared.outcomes.Fetched.{Fetched}
use Rattle.farm_kinds.specs.declared.outcomes.Count.{Count}
use Rattle.farm_kinds.specs.declared.outcomes.Renewed.{Renewed}
use Rattle.farm_kinds.specs.declared.outcomes.Task.{Task}
use Rattle.farm_kinds.specs.declared.kinds.Kind.{Kind}
use Rattle.farm_kinds.specs.declared.events.Event.{Event}
use Rattle.farm_kinds.specs.declared.events.Event.TheVariants as event
use Rattle.farm_kinds.specs.declared.events.Reply.{Reply}
use Rattle.farm_kinds.specs.declared.events.Reply.TheVariants as reply
use Rattle.farm_kinds.specs.Rules.{remap_of}
use Rattle.farm_model.specs.Numbered.{number_or_0}
use Rattle.farm_model.specs.Refusing.{refused_or}
use Rattle.farm_model.specs.Leases.{held_count}
use Rattle.farm_model.specs.Judgings.{entry_refusal, result_refusal}
use Rattle.farm_model.specs.Judge.{JudgeState, claim_refusal, claimed, first_open, fetch_refusal, batch_from, batch_size, counted, renew_refusal, renew_leases}
use Rattle.farm_model.specs.State.{State, up_number}
use Rattle.farm_model.specs.Refusals.{claim_reply, fetch_reply, count_reply, renewed_reply, refusal_of}
use Rattle.farm_model.specs.Changes.{by_judge, accepted}
use Rattle.farm_model.specs.Farm.{farm_step}
use Rattle.farm_model.specs.Replay.{state_after, reply_to}
use Rattle.stored_events.specs.Kept.{is_done, is_kept, kept_events}

-- the judge did nothing, or the reply is that something was done
Still : State → State × Reply → Type 0
Still s p = is_done p.1 ≡ false → p.0 ≡ s

claim_still : (s : State) (host : ℕ) (o : Option Claim) (t : Option Task) → Still s (by_judge s claim_reply (refused_or s.judge o (claimed s.judge host t)))
unfolding Still
claim_still s host (Some r) t quiet = refl
claim_still s host None None quiet = refl
claim_still s host None (Some task) quiet = absurd (cc)

fetch_still : (s : State) (host size : ℕ) (o : Option Fetched) (t : Option Task) → Still s (by_judge s fetch_reply (refused_or s.judge o (batch_from s.judge host size t)))
unfolding Still
fetch_still s host size (Some r) t quiet = refl
fetch_still s host size None None quiet = refl
fetch_still s host size None (Some task) quiet = absurd (cc)

count_still : (s : State) (j test : ℕ) (kind : Kind) (o : Option Count) → Still s (by_judge s (count_reply j test) (refused_or s.judge o (counted s.judge j test kind)))
unfolding Still
count_still s j test kind (Some r) quiet = refl
count_still s j test kind None quiet = absurd (cc)

renew_still : (s : State) (host j test : ℕ) (o : Option Renewed) → Still s (by_judge s (renewed_reply j test) (refused_or s.judge o (renew_leases s.judge host j)))
unfolding Still
renew_still s host j test (Some r) quiet = refl
renew_still s host j test None quiet = absurd (cc)

accepted_still : (s : State) (e : Event) → is_kept e (accepted s e).1 ≡ false → (accepted s e).0 ≡ s
unfolding Still
accepted_still s (event.Problem who name tests) quiet = absurd (cc)
accepted_still s (event.Replace who name tests) quiet = absurd (cc)
accepted_still s (event.Host name) quiet = absurd (cc)
accepted_still s (event.Submit problem class broken) quiet = absurd (cc)
accepted_still s (event.Claim host) quiet =
    let n = number_or_0 (up_number s.hosts host) in
    claim_still s n (claim_refusal s.judge.leases n) (first_open s.judge) quiet
accepted_still s (event.Fetch host most) quiet =
    let n = number_or_0 (up_number s.hosts host) in
    fetch_still s n (batch_size most (held_count s.judge.leases n)) (fetch_refusal s.judge.leases n) (first_open s.judge) quiet
accepted_still s (event.Result host j test kind) quiet =
    let given = remap_of s.judge.rule kind in
    count_still s j test given (result_refusal s.judge.judgings j test given) quiet
accepted_still s (event.Entry j test kind) quiet =
    let given = remap_of s.judge.rule kind in
    count_still s j test given (entry_refusal s.judge.judgings j test given) quiet
accepted_still s (event.Renew host j test) quiet =
    let n = number_or_0 (up_number s.hosts host) in
    renew_still s n j test (renew_refusal s.judge n j test) quiet
accepted_still s (event.Tick moment) quiet = absurd (cc)
accepted_still s (event.Down host) quiet = absurd (cc)
accepted_still s (event.Show j) quiet = refl
accepted_still s (event.Owner j) quiet = refl
accepted_still s event.Board quiet = refl
accepted_still s (event.Rejudge who list) quiet = absurd (cc)
accepted_still s (event.Matrix r) quiet = refl
accepted_still s (event.Apply who r) quiet = absurd (cc)
accepted_still s (event.Cancel who r) quiet = absurd (cc)
accepted_still s (event.Verify who j) quiet = absurd (cc)
accepted_still s (event.Ask who j) quiet = absurd (cc)
accepted_still s event.Audit quiet = refl

refused_still : (s : State) (e : Event) (o : Option Reply) → is_kept e (refused_or s o (accepted s e)).1 ≡ false → (refused_or s o (accepted s e)).0 ≡ s
refused_still s e (Some r) quiet = refl
refused_still s e None quiet = accepted_still s e quiet

-- an event that is not stored changes nothing
pub not_kept : (s : State) (e : Event) → is_kept e (reply_to s e) ≡ false → (farm_step s e).0 ≡ s
not_kept s e quiet = refused_still s e (refusal_of s e) quiet

pub kept_lead : (s : State) (es : List Event) → state_after s (kept_events s es) ≡ state_after s es
kept_lead s [] = refl
kept_lead s (e ∷ es) = cases (is_kept e (reply_to s e)) refl (kept_lead (farm_step s e).0 es)
  where
    cases : (b : Bool) → is_kept e (reply_to s e) ≡ b → state_after (farm_step s e).0 (kept_events (farm_step s e).0 es) ≡ state_after (farm_step s e).0 es
        → state_after s (if b then e ∷ kept_events (farm_step s e).0 es else kept_events (farm_step s e).0 es) ≡ state_after (farm_step s e).0 es
    cases true is rest = rest
    cases false is rest = ap (λ (s' : State). state_after s' (kept_events (farm_step s e).0 es)) (sym (not_kept s e is)) ∙ rest

pub kept_append : (s : State) (es more : List Event) → kept_events s (es ++ more) ≡ kept_events s es ++ kept_events (state_after s es) more
kept_append s [] more = refl
kept_append s (e ∷ es) more = cases (is_kept e (reply_to s e)) (kept_append (farm_step s e).0 es more)
  where
    cases : (b : Bool) → kept_events (farm_step s e).0 (es ++ more) ≡ kept_events (farm_step s e).0 es ++ kept_events (state_after (farm_step s e).0 es) more
        → (if b then e ∷ kept_events (farm_step s e).0 (es ++ more) else kept_events (farm_step s e).0 (es ++ more))
        ≡ (if b then e ∷ kept_events (farm_step s e).0 es else kept_events (farm_step s e).0 es) ++ kept_events (state_after (farm_step s e).0 es) more
    cases true rest = ap (λ (l : List Event). e ∷ l) rest
    cases false rest = rest
