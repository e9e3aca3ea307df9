-- The members of rejudgings: different submissions, each of which is there.
use Rattle.std.proofs.Common.{ℕ, zero, suc, ◌≡◌, ◌≢◌, ◌+◌, ◌-◌, List, [], ◌∷◌, ◌++◌, Option, Some, None, Bool, true, false, cond, eqb, ◌||◌, refl, sym, ap, ◌∙◌, subst, length, map, slice_get}
use Rattle.std.specs.Prelude.{not, nat_lt, ◌==◌, find, unwrap_or}
use Rattle.std.specs.Option.{IsSome, option_map, is_some}
use Rattle.std.specs.List.{fold, list_any}
use Rattle.std.proofs.lemmas.Bool.{eqb-false}
use Rattle.std.proofs.lemmas.List.{map-append}
use Rattle.farm_kinds.specs.declared.events.Event.{Event}
use Rattle.farm_kinds.specs.declared.events.Event.TheVariants as event
use Rattle.farm_kinds.specs.declared.events.Reply.{Reply}
use Rattle.farm_kinds.specs.declared.events.Reply.TheVariants as reply
use Rattle.farm_kinds.specs.declared.outcomes.How.{How}
use Rattle.farm_kinds.specs.declared.outcomes.How.TheVariants as how
use Rattle.farm_model.specs.declared.records.Submission.{Submission}
use Rattle.farm_model.specs.declared.records.Member.{Member}
use Rattle.farm_model.specs.declared.records.Rejudging.{Rejudging}
use Rattle.farm_model.specs.Numbered.{item_of}
use Rattle.farm_model.specs.Refusing.{when, first_of}
use Rattle.farm_model.specs.Rejudgings.{first_twice_after, first_twice, is_busy, members_from, members_in, closed, close_as}
use Rattle.farm_model.specs.State.{State, SettingsValue, start, current_of}
use Rattle.farm_model.specs.Refusals.{is_full, refuse_first, is_submission, has_final, rejudge_refusal, refusal_of}
use Rattle.farm_model.specs.Changes.{make_current, with_current, accepted}
use Rattle.farm_model.specs.Farm.{farm_step}
use Rattle.farm_model.specs.Replay.{state_after}
use Rattle.farm_laws.proofs.Items.{there, item_at, item_seen, item_append}
use Rattle.farm_laws.proofs.Each.{Each, each_append, each_turned}
use Rattle.farm_laws.proofs.Kept.{changed_same}
use Rattle.farm_laws.proofs.Outcomes.{outcome}

-- no submission stands twice
abbrev pub Apart : List Member → Type 0
Apart [] = Unit {0}
Apart (m ∷ members) = Each (λ other. other.submission ≢ m.submission) members × Apart members

abbrev pub AreThere : List Submission → List Member → Type 0
AreThere submissions members = Each (λ m. IsSome (item_of submissions m.submission)) members

-- they are different submissions, each of which is there
abbrev pub AreMembers : List Submission → List Member → Type 0
AreMembers submissions members = Apart members × AreThere submissions members

-- Submissions stay

-- the submissions that are there are there later
abbrev Stay : List Submission → List Submission → Type 0
Stay old new = (n : ℕ) → IsSome (item_of old n) → IsSome (item_of new n)

stay_appended : (submissions more : List Submission) → Stay submissions (submissions ++ more)
stay_appended submissions more n is = let x = there (item_of submissions n) is in ap is_some (item_append submissions more n x.0 x.1)

some_seen : {X Y : Type 0} (view : X → Y) (o : Option X) → is_some (option_map view o) ≡ is_some o
some_seen view None = refl
some_seen view (Some x) = refl

abbrev problems_of : List Submission → List ℕ
problems_of submissions = map (λ submission. submission.problem) submissions

stay_problems : (old new : List Submission) → problems_of new ≡ problems_of old → Stay old new
stay_problems old new same n is =
    sym (some_seen (λ (submission : Submission). submission.problem) (item_of new n)) ∙ ap is_some (sym (item_seen (λ (submission : Submission). submission.problem) new n))
    ∙ ap (λ (problems : List ℕ). is_some (item_of problems n)) same
    ∙ ap is_some (item_seen (λ (submission : Submission). submission.problem) old n) ∙ some_seen (λ (submission : Submission). submission.problem) (item_of old n) ∙ is

current_problems : (submissions : List Submission) (m : Member) → problems_of (with_current submissions m) ≡ problems_of submissions
current_problems submissions m =
    changed_same (λ (submission : Submission). submission.problem) (make_current m.new) (λ submission. refl) submissions m.submission (item_of submissions m.submission) refl

-- a submission keeps its problem while another judging becomes current
pub stay_current : (submissions : List Submission) (m : Member) → Stay submissions (with_current submissions m)
stay_current submissions m = stay_problems submissions (with_current submissions m) (current_problems submissions m)

stay_applied : (submissions : List Submission) (members : List Member) → Stay submissions (fold with_current submissions members)
stay_applied submissions [] n is = is
stay_applied submissions (m ∷ members) n is = stay_applied (with_current submissions m) members n (stay_current submissions m n is)

pub there_later : (old new : List Submission) (members : List Member) → Stay old new → AreThere old members → AreThere new members
there_later old new members stay h = each_turned (λ (m : Member). IsSome (item_of old m.submission)) (λ m. IsSome (item_of new m.submission)) (λ m is. stay m.submission is) members h

-- Rejudgings that are prepared

-- no number stands twice
abbrev AllApart : List ℕ → Type 0
AllApart [] = Unit {0}
AllApart (n ∷ list) = Each (λ other. other ≢ n) list × AllApart list

each_member : (P : ℕ → Type 0) (first : ℕ) (list olds : List ℕ) → Each P list → Each (λ m. P m.submission) (members_from first list olds)
each_member P first [] olds h = tt
each_member P first (n ∷ list) [] h = tt
each_member P first (n ∷ list) (old ∷ olds) h = (h.0, each_member P (first + 1) list olds h.1)

members_apart : (first : ℕ) (list olds : List ℕ) → AllApart list → Apart (members_from first list olds)
members_apart first [] olds h = tt
members_apart first (n ∷ list) [] h = tt
members_apart first (n ∷ list) (old ∷ olds) h = (each_member (λ other. other ≢ n) (first + 1) list olds h.0, members_apart (first + 1) list olds h.1)

-- the number is not among those before it
abbrev IsNew : List ℕ → ℕ → Type 0
IsNew earlier n = list_any (λ other. eqb other n) earlier ≡ false

neither : (a b : Bool) → (a || b) ≡ false → (a ≡ false) × (b ≡ false)
neither true b h = cc
neither false b h = (refl, h)

not_eqb : (n m : ℕ) → eqb n m ≡ false → m ≢ n
not_eqb n m h e = eqb-false n m h (sym e)

none_twice : (earlier list : List ℕ) → first_twice_after earlier list ≡ None → AllApart list × Each (IsNew earlier) list
none_twice earlier [] h = (tt, tt)
none_twice earlier (n ∷ list) h =
    elim (list_any (λ other. eqb other n) earlier) as (λ b. list_any (λ other. eqb other n) earlier ≡ b → cond b (Some n) (first_twice_after (n ∷ earlier) list) ≡ None → AllApart (n ∷ list) × Each (IsNew earlier) (n ∷ list)) [
      | true ↦ λ e f. cc
      | false ↦ λ e f.
          let others = none_twice (n ∷ earlier) list f in
          let apart = each_turned (IsNew (n ∷ earlier)) (λ other. other ≢ n) (λ other new. not_eqb n other (neither (eqb n other) (list_any (λ k. eqb k other) earlier) new).0) list others.1 in
          let new = each_turned (IsNew (n ∷ earlier)) (IsNew earlier) (λ other new. (neither (eqb n other) (list_any (λ k. eqb k other) earlier) new).1) list others.1 in
          ((apart, others.0), (e, new))
    ] refl h

map_none : {X Y : Type 0} (f : X → Y) (o : Option X) → option_map f o ≡ None → o ≡ None
map_none f None h = refl
map_none f (Some x) h = cc

-- where none fails the test, each passes it
all_pass : (passes : ℕ → Bool) (list : List ℕ) → find (λ n. not (passes n)) list ≡ None → Each (λ n. passes n ≡ true) list
all_pass passes [] h = tt
all_pass passes (n ∷ list) h =
    elim (passes n) as (λ b. passes n ≡ b → cond (not b) (Some n) (find (λ k. not (passes k)) list) ≡ None → Each (λ k. passes k ≡ true) (n ∷ list)) [
      | true ↦ λ e f. (e, all_pass passes list f)
      | false ↦ λ e f. cc
    ] refl h

-- where none of them refuses, the second does not, and the sixth does not
second_and_sixth : (a b c d e f : Option Reply) (others : List (Option Reply)) → first_of (a ∷ b ∷ c ∷ d ∷ e ∷ f ∷ others) ≡ None → (b ≡ None) × (f ≡ None)
second_and_sixth None None None None None None others h = (refl, refl)
second_and_sixth (Some x) b c d e f others h = cc
second_and_sixth None (Some x) c d e f others h = cc
second_and_sixth None None (Some x) d e f others h = cc
second_and_sixth None None None (Some x) e f others h = cc
second_and_sixth None None None None (Some x) f others h = cc
second_and_sixth None None None None None (Some x) others h = cc

-- a list that is not refused makes members
prepared_members : (s : State) (first : ℕ) (list olds : List ℕ) → rejudge_refusal s list ≡ None → AreMembers s.submissions (members_from first list olds)
prepared_members s first list olds h =
    let none = second_and_sixth (when (length list == 0) reply.EmptySet) (refuse_first (is_submission s) reply.NoSubmission list)
    (refuse_first (has_final s) reply.NotFinal list) (when (is_full s.rejudgings 10000) (reply.Full 10000))
    (when (nat_lt 400000 (length s.judge.judgings + length list)) (reply.Full 400000)) (option_map reply.Twice (first_twice list))
    (first_of (map (is_busy reply.Busy s.rejudgings) list) ∷ []) h in
    let known = all_pass (is_submission s) list (map_none reply.NoSubmission (find (λ n. not (is_submission s n)) list) none.0) in
    let apart = none_twice [] list (map_none reply.Twice (first_twice list) none.1) in
    (members_apart first list olds apart.0, each_member (λ n. IsSome (item_of s.submissions n)) first list olds known)

-- Whatever the event

abbrev members_lists : List Rejudging → List (List Member)
members_lists rejudgings = map (λ rejudging. rejudging.members) rejudgings

-- the members of every rejudging are different submissions, each of which is there
abbrev pub AllMembers : State → Type 0
AllMembers s = Each (AreMembers s.submissions) (members_lists s.rejudgings)

later_lists : (old new : List Submission) (lists : List (List Member)) → Stay old new → Each (AreMembers old) lists → Each (AreMembers new) lists
later_lists old new lists stay h = each_turned (AreMembers old) (AreMembers new) (λ members are. (are.0, there_later old new members stay are.1)) lists h

abbrev Keeps : State → State × Reply → Type 0
Keeps s p = AllMembers s → AllMembers p.0

-- an event that keeps the members of rejudgings, and the submissions
kept : (s : State) (e : Event) → Stay s.submissions (accepted s e).0.submissions → members_lists (accepted s e).0.rejudgings ≡ members_lists s.rejudgings → Keeps s (farm_step s e)
kept s e stay same = outcome (Keeps s) s (refusal_of s e) (accepted s e) (λ x h. h)
    (λ done h. subst (Each (AreMembers (accepted s e).0.submissions)) (sym same) (later_lists s.submissions (accepted s e).0.submissions (members_lists s.rejudgings) stay h))

same : (s : State) (e : Event) → (accepted s e).0.submissions ≡ s.submissions → (accepted s e).0.rejudgings ≡ s.rejudgings → Keeps s (farm_step s e)
same s e submissions rejudgings = kept s e (λ n is. ap (λ (xs : List Submission). is_some (item_of xs n)) submissions ∙ is) (ap members_lists rejudgings)

closed_members : (rejudgings : List Rejudging) (r : ℕ) (h : How) → members_lists (closed rejudgings r h) ≡ members_lists rejudgings
closed_members rejudgings r h = changed_same (λ (rejudging : Rejudging). rejudging.members) (close_as h) (λ rejudging. refl) rejudgings r (item_of rejudgings r) refl

rejudge_keeps : (s : State) (who list : List ℕ) → Keeps s (farm_step s (event.Rejudge who list))
rejudge_keeps s who list =
    let e = event.Rejudge who list in
    let olds = map (current_of s.submissions) list in
    outcome (Keeps s) s (refusal_of s e) (accepted s e) (λ x h. h) (λ done h.
    subst (Each (AreMembers s.submissions)) (sym (map-append (λ (rejudging : Rejudging). rejudging.members) s.rejudgings _))
    (each_append (AreMembers s.submissions) (members_lists s.rejudgings) _ h (prepared_members s _ list olds done, tt)))

keeps : (s : State) (e : Event) → Keeps s (farm_step s e)
keeps s (event.Problem who name tests) = same s (event.Problem who name tests) refl refl
keeps s (event.Replace who name tests) = same s (event.Replace who name tests) refl refl
keeps s (event.Host name) = same s (event.Host name) refl refl
keeps s (event.Submit problem class broken) = kept s (event.Submit problem class broken) (stay_appended s.submissions _) refl
keeps s (event.Claim host) = same s (event.Claim host) refl refl
keeps s (event.Fetch host most) = same s (event.Fetch host most) refl refl
keeps s (event.Result host j t kind) = same s (event.Result host j t kind) refl refl
keeps s (event.Entry j t kind) = same s (event.Entry j t kind) refl refl
keeps s (event.Renew host j t) = same s (event.Renew host j t) refl refl
keeps s (event.Tick moment) = same s (event.Tick moment) refl refl
keeps s (event.Down host) = same s (event.Down host) refl refl
keeps s (event.Show j) = same s (event.Show j) refl refl
keeps s (event.Owner j) = same s (event.Owner j) refl refl
keeps s event.Board = same s event.Board refl refl
keeps s (event.Rejudge who list) = rejudge_keeps s who list
keeps s (event.Matrix r) = same s (event.Matrix r) refl refl
keeps s (event.Apply who r) = kept s (event.Apply who r) (stay_applied s.submissions (members_in s.rejudgings r)) (closed_members s.rejudgings r how.Applied)
keeps s (event.Cancel who r) = kept s (event.Cancel who r) (λ n is. is) (closed_members s.rejudgings r how.Cancelled)
keeps s (event.Verify who j) = same s (event.Verify who j) refl refl
keeps s (event.Ask who j) = same s (event.Ask who j) refl refl
keeps s event.Audit = same s event.Audit refl refl

run_keeps : (s : State) (es : List Event) → AllMembers s → AllMembers (state_after s es)
run_keeps s [] h = h
run_keeps s (e ∷ es) h = run_keeps (farm_step s e).0 es (keeps s e h)

-- Of the rejudging of a number

list_at : (P : List Member → Type 0) (rejudgings : List Rejudging) (i : ℕ) (r : Rejudging) → Each P (members_lists rejudgings) → slice_get rejudgings i ≡ Some r → P r.members
list_at P [] i r h e = cc
list_at P (x ∷ rejudgings) zero r h e = let is : x ≡ r = cc in subst (λ (y : Rejudging). P y.members) is h.0
list_at P (x ∷ rejudgings) (suc i) r h e = list_at P rejudgings i r h.1 e

list_of : (P : List Member → Type 0) (rejudgings : List Rejudging) (n : ℕ) → P [] → Each P (members_lists rejudgings)
    → (o : Option Rejudging) → item_of rejudgings n ≡ o → P (unwrap_or (option_map (λ rejudging. rejudging.members) o) [])
list_of P rejudgings n none h None e = none
list_of P rejudgings n none h (Some r) e = list_at P rejudgings (n - 1) r h (item_at rejudgings n r e).1

-- whatever the events, the members of a rejudging are different submissions, each of which is there
pub are_members : (settings : SettingsValue) (es : List Event) (r : ℕ) → AreMembers (state_after (start settings) es).submissions (members_in (state_after (start settings) es).rejudgings r)
are_members settings es r =
    let s = state_after (start settings) es in
    list_of (AreMembers s.submissions) s.rejudgings r (tt, tt) (run_keeps (start settings) es tt) (item_of s.rejudgings r) refl
