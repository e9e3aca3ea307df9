-- Which events change the current judging of a submission.
use Rattle.std.proofs.Common.{ℕ, ◌≡◌, List, ◌++◌, Option, refl, sym, ap, ◌∙◌}
use Rattle.std.specs.Option.{IsSome, option_map}
use Rattle.farm_kinds.specs.declared.events.Event.{Event}
use Rattle.farm_kinds.specs.declared.events.Event.TheVariants as event
use Rattle.farm_kinds.specs.declared.events.Reply.{Reply}
use Rattle.farm_model.specs.declared.records.Submission.{Submission}
use Rattle.farm_model.specs.Numbered.{item_of}
use Rattle.farm_model.specs.Refusing.{refused_or}
use Rattle.farm_model.specs.State.{State}
use Rattle.farm_model.specs.Refusals.{refusal_of}
use Rattle.farm_model.specs.Changes.{accepted}
use Rattle.farm_model.specs.Farm.{farm_step}
use Rattle.farm_model.specs.Replay.{reply_to}
use Rattle.farm_laws.specs.Laws.{current_in, AppliesNone}
use Rattle.farm_laws.proofs.Items.{there, item_append}
use Rattle.farm_laws.proofs.Outcomes.{outcome}

-- the current judging of the submission of this number, where there is one
abbrev pub current_at : List Submission → ℕ → Option ℕ
current_at submissions n = option_map (λ submission. submission.current) (item_of submissions n)

-- the submissions that are there keep their current judgings
abbrev KeepsCurrent : State → State × Reply → Type 0
KeepsCurrent s p = (n : ℕ) → IsSome (item_of s.submissions n) → current_in p.0 n ≡ current_in s n

-- an event that changes no submission
kept : (s : State) (e : Event) → (accepted s e).0.submissions ≡ s.submissions → KeepsCurrent s (farm_step s e)
kept s e same = outcome (KeepsCurrent s) s (refusal_of s e) (accepted s e) (λ x n is. refl) (λ none n is. ap (λ (submissions : List Submission). current_at submissions n) same)

-- one more submission
appended : (submissions more : List Submission) (n : ℕ) → IsSome (item_of submissions n) → current_at (submissions ++ more) n ≡ current_at submissions n
appended submissions more n is =
    let x = there (item_of submissions n) is in
    ap (option_map (λ (submission : Submission). submission.current)) (item_append submissions more n x.0 x.1 ∙ sym x.1)

-- an apply that is not accepted
not_applied : (s : State) (who : List ℕ) (r : ℕ) → AppliesNone (event.Apply who r) (λ x. reply_to s (event.Apply who r) ≡ x) → KeepsCurrent s (farm_step s (event.Apply who r))
not_applied s who r none =
    let e = event.Apply who r in
    outcome (KeepsCurrent s) s (refusal_of s e) (accepted s e) (λ x n is. refl)
    (λ done. absurd (none who r _ refl (ap (λ refusal. (refused_or s refusal (accepted s e)).1) done)))

pub only_apply : (s : State) (e : Event) → AppliesNone e (λ x. reply_to s e ≡ x) → KeepsCurrent s (farm_step s e)
only_apply s (event.Problem who name tests) none = kept s (event.Problem who name tests) refl
only_apply s (event.Replace who name tests) none = kept s (event.Replace who name tests) refl
only_apply s (event.Host name) none = kept s (event.Host name) refl
only_apply s (event.Submit problem class broken) none =
    let e = event.Submit problem class broken in
    outcome (KeepsCurrent s) s (refusal_of s e) (accepted s e) (λ x n is. refl) (λ done n is. appended s.submissions _ n is)
only_apply s (event.Claim host) none = kept s (event.Claim host) refl
only_apply s (event.Fetch host most) none = kept s (event.Fetch host most) refl
only_apply s (event.Result host j t kind) none = kept s (event.Result host j t kind) refl
only_apply s (event.Entry j t kind) none = kept s (event.Entry j t kind) refl
only_apply s (event.Renew host j t) none = kept s (event.Renew host j t) refl
only_apply s (event.Tick moment) none = kept s (event.Tick moment) refl
only_apply s (event.Down host) none = kept s (event.Down host) refl
only_apply s (event.Show j) none = kept s (event.Show j) refl
only_apply s (event.Owner j) none = kept s (event.Owner j) refl
only_apply s event.Board none = kept s event.Board refl
only_apply s (event.Rejudge who list) none = kept s (event.Rejudge who list) refl
only_apply s (event.Matrix r) none = kept s (event.Matrix r) refl
only_apply s (event.Apply who r) none = not_applied s who r none
only_apply s (event.Cancel who r) none = kept s (event.Cancel who r) refl
only_apply s (event.Verify who j) none = kept s (event.Verify who j) refl
only_apply s (event.Ask who j) none = kept s (event.Ask who j) refl
only_apply s event.Audit none = kept s event.Audit refl
