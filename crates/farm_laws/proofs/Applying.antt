-- What an apply makes of the submissions.
use Rattle.std.proofs.Common.{ℕ, zero, suc, ◌≡◌, ◌≢◌, List, [], ◌∷◌, Option, Some, None, Bool, true, false, refl, sym, ap, ◌∙◌, subst, arith, map}
use Rattle.std.specs.Prelude.{Contains, All}
use Rattle.std.specs.Option.{IsSome, option_map}
use Rattle.std.specs.List.{fold}
use Rattle.farm_kinds.specs.declared.outcomes.How.{How}
use Rattle.farm_kinds.specs.declared.events.Event.{Event}
use Rattle.farm_kinds.specs.declared.events.Event.TheVariants as event
use Rattle.farm_kinds.specs.declared.events.Reply.{Reply}
use Rattle.farm_kinds.specs.declared.events.Reply.TheVariants as reply
use Rattle.farm_model.specs.declared.records.Submission.{Submission}
use Rattle.farm_model.specs.declared.records.Member.{Member}
use Rattle.farm_model.specs.Numbered.{item_of}
use Rattle.farm_model.specs.Refusing.{unless, first_of, refused_or}
use Rattle.farm_model.specs.Rejudgings.{members_in}
use Rattle.farm_model.specs.State.{State, SettingsValue}
use Rattle.farm_model.specs.Refusals.{refusal_of}
use Rattle.farm_model.specs.Changes.{make_current, with_current, accepted}
use Rattle.farm_model.specs.Farm.{farm_step}
use Rattle.farm_model.specs.Replay.{reply_to}
use Rattle.farm_laws.specs.Laws.{reached, current_in, IsMember, AppliesToAll}
use Rattle.farm_laws.proofs.Items.{there, change_same, change_other}
use Rattle.farm_laws.proofs.Each.{Each, each_all, each_turned}
use Rattle.farm_laws.proofs.Moves.{current_at}
use Rattle.farm_laws.proofs.Members.{AreMembers, stay_current, there_later, are_members}

-- The fold over the members

-- a submission that is no member's
others_kept : (submissions : List Submission) (members : List Member) (n : ℕ) → Each (λ m. m.submission ≢ n) members → item_of (fold with_current submissions members) n ≡ item_of submissions n
others_kept submissions [] n h = refl
others_kept submissions (m ∷ members) n h = others_kept (with_current submissions m) members n h.1 ∙ change_other submissions m.submission n (make_current m.new) h.0

first_current : (submissions : List Submission) (m : Member) → IsSome (item_of submissions m.submission) → current_at (with_current submissions m) m.submission ≡ Some m.new
first_current submissions m is =
    let x = there (item_of submissions m.submission) is in
    ap (option_map (λ (submission : Submission). submission.current)) (change_same submissions m.submission (make_current m.new) x.0 x.1)

-- the new judging of each member is the current one
all_current : (submissions : List Submission) (members : List Member) → AreMembers submissions members → Each (λ m. current_at (fold with_current submissions members) m.submission ≡ Some m.new) members
all_current submissions [] are = tt
all_current submissions (m ∷ members) are =
    let later = with_current submissions m in
    let others = there_later submissions later members (stay_current submissions m) are.1.1 in (
      ap (option_map (λ (submission : Submission). submission.current)) (others_kept later members m.submission are.0.0) ∙ first_current submissions m are.1.0,
      all_current later members (are.0.1, others),
    )

-- what is not seen in a list differs from each of its items, as it is seen
none_is : {X : Type 0} (f : X → ℕ) (xs : List X) (n : ℕ) → (Contains (map f xs) n → ⊥) → Each (λ x. f x ≢ n) xs
none_is f [] n h = tt
none_is f (x ∷ xs) n h = (λ e. h (zero, omega arith, e), none_is f xs n (λ c. let lt = c.1 in h (suc c.0, omega (arith, lt), c.2)))

-- Applies that are accepted

-- an apply that is answered with the number of its members is not refused
not_refused : (s : State) (done : State × Reply) (is : Bool) (r : ℕ) (how : Option How) (judging : Option ℕ) (n : ℕ)
    → (refused_or s (first_of (first_of (unless is (reply.NoRejudging r) ∷ option_map reply.Closed how ∷ []) ∷ option_map reply.Unfinished judging ∷ [])) done).1 ≡ reply.Applied n
    → first_of (first_of (unless is (reply.NoRejudging r) ∷ option_map reply.Closed how ∷ []) ∷ option_map reply.Unfinished judging ∷ []) ≡ None
not_refused s done false r how judging n h = cc
not_refused s done true r (Some x) judging n h = cc
not_refused s done true r None (Some j) n h = cc
not_refused s done true r None None n h = refl

-- the new judging of every member of the rejudging is current, and no other submission's changed
abbrev ChangesAll : State → State → ℕ → Type 0
ChangesAll old new n =
    All (λ member. current_in new member.submission ≡ Some member.new) (members_in old.rejudgings n)
    × ((submission : ℕ) → ¬ IsMember old n submission → current_in new submission ≡ current_in old submission)

applied_to_all : (settings : SettingsValue) (es : List Event) (who : List ℕ) (r n : ℕ) → reply_to (reached settings es) (event.Apply who r) ≡ reply.Applied n
    → ChangesAll (reached settings es) (farm_step (reached settings es) (event.Apply who r)).0 r
applied_to_all settings es who r n h =
    let s = reached settings es in
    let e = event.Apply who r in
    let members = members_in s.rejudgings r in
    let none : refusal_of s e ≡ None = not_refused s (accepted s e) _ r _ _ n h in
    let done : (farm_step s e).0.submissions ≡ fold with_current s.submissions members = ap (λ refusal. (refused_or s refusal (accepted s e)).0.submissions) none in
    let current : (k : ℕ) → current_in (farm_step s e).0 k ≡ current_at (fold with_current s.submissions members) k
    = λ k. ap (λ (submissions : List Submission). current_at submissions k) done in
    let all = all_current s.submissions members (are_members settings es r) in (
      each_all (λ m. current_in (farm_step s e).0 m.submission ≡ Some m.new) members
          (each_turned (λ (m : Member). current_at (fold with_current s.submissions members) m.submission ≡ Some m.new) (λ m. current_in (farm_step s e).0 m.submission ≡ Some m.new) (λ m is. current m.submission ∙ is) members all),
      λ k none_k. current k ∙ ap (option_map (λ (submission : Submission). submission.current)) (others_kept s.submissions members k (none_is (λ (m : Member). m.submission) members k none_k)),
    )

pub applies_to_all : (settings : SettingsValue) (es : List Event) (e : Event) → AppliesToAll settings es e (farm_step (reached settings es) e).0 (λ r. reply_to (reached settings es) e ≡ r)
applies_to_all settings es e who n members at h =
    subst (λ (x : Event). reply_to (reached settings es) x ≡ reply.Applied members → ChangesAll (reached settings es) (farm_step (reached settings es) x).0 n) (sym at)
    (applied_to_all settings es who n members) h
