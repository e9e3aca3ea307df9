-- A reply with a list comes from an event that changes nothing.
use Rattle.std.proofs.Common.{◌≡◌, refl, subst, ℕ, Bool, false, Option, Some, None, IsTrue}
use Rattle.farm_kinds.specs.declared.events.Event.{Event}
use Rattle.farm_kinds.specs.declared.events.Event.TheVariants as event
use Rattle.farm_kinds.specs.declared.events.Reply.{Reply}
use Rattle.farm_kinds.specs.declared.outcomes.Claim.{Claim}
use Rattle.farm_kinds.specs.declared.outcomes.Claim.TheVariants as claim
use Rattle.farm_kinds.specs.declared.outcomes.Fetched.{Fetched}
use Rattle.farm_kinds.specs.declared.outcomes.Fetched.TheVariants as fetch
use Rattle.farm_kinds.specs.declared.outcomes.Count.{Count}
use Rattle.farm_kinds.specs.declared.outcomes.Count.TheVariants as count
use Rattle.farm_kinds.specs.declared.outcomes.Renewed.{Renewed}
use Rattle.farm_kinds.specs.declared.outcomes.Renewed.TheVariants as lease
use Rattle.farm_model.specs.State.{State, up_number}
use Rattle.farm_model.specs.Numbered.{number_or_0}
use Rattle.farm_model.specs.Judge.{judge_claim, judge_fetch, judge_result, judge_enter, judge_renew}
use Rattle.farm_model.specs.Refusing.{refused_or}
use Rattle.farm_model.specs.Refusals.{refusal_of, claim_reply, fetch_reply, count_reply, renewed_reply}
use Rattle.farm_model.specs.Changes.{accepted}
use Rattle.farm_model.specs.Farm.{farm_step}
use Rattle.farm_board.specs.Copies.{has_list}

unlisted_claim : (c : Claim) → has_list (claim_reply c) ≡ false
unlisted_claim claim.Holding = refl
unlisted_claim claim.Nothing = refl
unlisted_claim (claim.Handed task until) = refl

unlisted_fetch : (f : Fetched) → has_list (fetch_reply f) ≡ false
unlisted_fetch fetch.Holding = refl
unlisted_fetch fetch.Nothing = refl
unlisted_fetch (fetch.Batch judging tests until) = refl

unlisted_count : (j test : ℕ) → (c : Count) → has_list (count_reply j test c) ≡ false
unlisted_count j test count.NoJudging = refl
unlisted_count j test count.NoTest = refl
unlisted_count j test count.NotHanded = refl
unlisted_count j test (count.Repeat kept) = refl
unlisted_count j test (count.Differs kept given) = refl
unlisted_count j test count.Dropped = refl
unlisted_count j test count.Counted = refl

unlisted_renewed : (j test : ℕ) → (r : Renewed) → has_list (renewed_reply j test r) ≡ false
unlisted_renewed j test lease.NoJudging = refl
unlisted_renewed j test lease.NoTest = refl
unlisted_renewed j test lease.NoLease = refl
unlisted_renewed j test (lease.Until until) = refl

pub refuted : {X : Type 0} → IsTrue false → X
refuted h = cc

never : {X : Type 0} → (b : Bool) → b ≡ false → IsTrue b → X
never b e h = refuted (subst (λ (v : Bool). IsTrue v) e h)

listed_accepted : (s : State) → (e : Event) → IsTrue (has_list (accepted s e).1) → (accepted s e).0 ≡ s
listed_accepted s (event.Problem who name tests) h = refuted h
listed_accepted s (event.Replace who name tests) h = refuted h
listed_accepted s (event.Host name) h = refuted h
listed_accepted s (event.Submit problem class broken) h = refuted h
listed_accepted s (event.Claim host) h =
    let r = judge_claim s.judge (number_or_0 (up_number s.hosts host)) in never (has_list (claim_reply r.1)) (unlisted_claim r.1) h
listed_accepted s (event.Fetch host most) h =
    let r = judge_fetch s.judge (number_or_0 (up_number s.hosts host)) most in never (has_list (fetch_reply r.1)) (unlisted_fetch r.1) h
listed_accepted s (event.Result host j test kind) h =
    let r = judge_result s.judge j test kind in never (has_list (count_reply j test r.1)) (unlisted_count j test r.1) h
listed_accepted s (event.Entry j test kind) h =
    let r = judge_enter s.judge j test kind in never (has_list (count_reply j test r.1)) (unlisted_count j test r.1) h
listed_accepted s (event.Renew host j test) h =
    let r = judge_renew s.judge (number_or_0 (up_number s.hosts host)) j test in
    never (has_list (renewed_reply j test r.1)) (unlisted_renewed j test r.1) h
listed_accepted s (event.Tick moment) h = refuted h
listed_accepted s (event.Down host) h = refuted h
listed_accepted s (event.Show j) h = refl
listed_accepted s (event.Owner j) h = refl
listed_accepted s event.Board h = refl
listed_accepted s (event.Rejudge who list) h = refuted h
listed_accepted s (event.Matrix r) h = refl
listed_accepted s (event.Apply who r) h = refuted h
listed_accepted s (event.Cancel who r) h = refuted h
listed_accepted s (event.Verify who j) h = refuted h
listed_accepted s (event.Ask who j) h = refuted h
listed_accepted s event.Audit h = refl

listed_or_refused : (s : State) → (refusal : Option Reply) → (done : State × Reply) → (IsTrue (has_list done.1) → done.0 ≡ s) →
    IsTrue (has_list (refused_or s refusal done).1) → (refused_or s refusal done).0 ≡ s
listed_or_refused s None done keeps h = keeps h
listed_or_refused s (Some refusal) done keeps h = refl

pub listed_keeps : (s : State) → (e : Event) → IsTrue (has_list (farm_step s e).1) → (farm_step s e).0 ≡ s
listed_keeps s e h = listed_or_refused s (refusal_of s e) (accepted s e) (listed_accepted s e) h
