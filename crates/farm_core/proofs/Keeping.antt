-- The rejudgings that a farm keeps, where one is prepared or closed, and what closing one leaves as long as it was.
use Rattle.std.proofs.Common.{ℕ, ◌≡◌, ◌+◌, ◌-◌, ◌≤◌, List, [], ◌∷◌, Option, Some, None, refl, ◌∙◌, subst, arith, length, fold}
use Rattle.std.specs.List.{All}
use Rattle.std.proofs.lemmas.List.Elements.{All-nil, All-cons, All-head, All-tail, All-set, All-push, All-weaker}
use Rattle.std.proofs.lemmas.Option.{slice_get_within, get_or_from_slice_get}
use Rattle.farm_kinds.specs.declared.outcomes.How.{How}
use Rattle.farm_model.specs.declared.records.Member.{Member}
use Rattle.farm_model.specs.declared.records.Rejudging.{Rejudging}
use Rattle.farm_model.specs.declared.records.RejudgeState.TheVariants as state
use Rattle.farm_model.specs.declared.records.Submission.{Submission}
use Rattle.farm_model.specs.Numbered.{item_of, with_change, change_item}
use Rattle.farm_model.specs.Rejudgings.{close_as, closed, members_from, prepared}
use Rattle.farm_model.specs.Changes.{with_current, make_current}
use Rattle.rejudge_book.specs.Refusals.{IsKnown, AreKnown}
use Rattle.rejudge_book.proofs.Closing.{item_place}
use Rattle.farm_core.specs.FarmShape.{HasSubmission, HasJudging, IsKept, AreKept}
use Rattle.farm_core.proofs.Numbering.{length_changed}

-- Closing

all_change : {X : Type 0} (P : X → Type 0) (f : X → X) (xs : List X) (n : ℕ) (o : Option X) → ((x : X) → P x → P (f x)) → All P xs → item_of xs n ≡ o → All P (change_item xs n f o)
all_change P f xs n None kept all e = all
all_change P f xs n (Some x) kept all e =
    let there = item_place xs n x e in
    let here = get_or_from_slice_get xs (n - 1) x x there in
    All-set P xs (n - 1) (f x) (kept x (subst P here (all (n - 1) x (slice_get_within xs (n - 1) x there)))) all

all_changed : {X : Type 0} (P : X → Type 0) (f : X → X) (xs : List X) (n : ℕ) → ((x : X) → P x → P (f x)) → All P xs → All P (with_change xs n f)
all_changed P f xs n kept all = all_change P f xs n (item_of xs n) kept all refl

pub closed_kept : (submissions judgings : ℕ) (rs : List Rejudging) (n : ℕ) (h : How) → AreKept submissions judgings rs → AreKept submissions judgings (closed rs n h)
closed_kept submissions judgings rs n h all =
    all_changed (IsKept submissions judgings) (close_as h) rs n (λ r kept. record { known = kept.known; judged = kept.judged; few = kept.few }) all

pub length_applied : (xs : List Submission) (members : List Member) → length (fold with_current xs members) ≡ length xs
length_applied xs [] = refl
length_applied xs (m ∷ members) = length_applied (with_current xs m) members ∙ length_changed xs m.submission (make_current m.new)

-- Preparing

known_from : (submissions first : ℕ) (list olds : List ℕ) → AreKnown submissions list → All (HasSubmission submissions) (members_from first list olds)
known_from submissions first [] olds known = All-nil (HasSubmission submissions)
known_from submissions first (n ∷ list) [] known = All-nil (HasSubmission submissions)
known_from submissions first (n ∷ list) (old ∷ olds) known =
    let head = All-head (IsKnown submissions) n list known in
    All-cons (HasSubmission submissions) (record { submission = n; old = old; new = first }) (members_from (first + 1) list olds)
    (record { numbered = head.numbered; within = head.within }) (known_from submissions (first + 1) list olds (All-tail (IsKnown submissions) n list known))

judged_from : (judgings first : ℕ) (list olds : List ℕ) → 1 ≤ first → first + length list ≤ judgings + 1 → All (HasJudging judgings) (members_from first list olds)
judged_from judgings first [] olds some within = All-nil (HasJudging judgings)
judged_from judgings first (n ∷ list) [] some within = All-nil (HasJudging judgings)
judged_from judgings first (n ∷ list) (old ∷ olds) some within =
    All-cons (HasJudging judgings) (record { submission = n; old = old; new = first }) (members_from (first + 1) list olds)
    (record { numbered = some; within = omega arith }) (judged_from judgings (first + 1) list olds (omega arith) (omega arith))

few_from : (first : ℕ) (list olds : List ℕ) → length (members_from first list olds) ≤ length list
few_from first [] olds = omega arith
few_from first (n ∷ list) [] = omega arith
few_from first (n ∷ list) (old ∷ olds) = omega (arith, few_from (first + 1) list olds)

more_judgings : (submissions j k : ℕ) (rs : List Rejudging) → j ≤ k → AreKept submissions j rs → AreKept submissions k rs
more_judgings submissions j k rs more all =
    All-weaker (IsKept submissions j) (IsKept submissions k) (λ r kept. record {
      known = kept.known;
      judged = All-weaker (HasJudging j) (HasJudging k) (λ m has. record { numbered = has.numbered; within = omega (arith, has.within) }) r.members kept.judged;
      few = kept.few;
    }) rs all

pub prepared_kept : (submissions j k first : ℕ) (rs : List Rejudging) (list olds : List ℕ) → AreKept submissions j rs → AreKnown submissions list
    → first ≡ j + 1 → k ≡ j + length list → k ≤ 400000 → AreKept submissions k (prepared rs list olds first)
prepared_kept submissions j k first rs list olds all known next more few =
    All-push (IsKept submissions k) rs (record { members = members_from first list olds; state = state.Open })
    (more_judgings submissions j k rs (omega arith) all)
    (record {
      known = known_from submissions first list olds known;
      judged = judged_from k first list olds (omega arith) (omega arith);
      few = omega (arith, few_from first list olds);
    })
