-- The refusals of a list of submissions.
use Rattle.std.proofs.Common.{ℕ, ◌≡◌, ◌≢◌, ◌-◌, ◌≤◌, List, [], ◌∷◌, ◌++◌, Option, Some, None, true, false, cond, refl, sym, ap, ◌∙◌, arith, map, length, nat_lt}
use Rattle.std.specs.Prelude.{not, IfSome, ◌==◌}
use Rattle.std.specs.List.{find, slice_get}
use Rattle.std.specs.Option.{option_map, is_some}
use Rattle.std.proofs.lemmas.Bool.Decides.{nat_tests}
use Rattle.std.proofs.lemmas.List.Elements.{All-nil, All-cons}
use Rattle.std.proofs.lemmas.Option.{slice_get_within}
use Rattle.farm_kinds.specs.declared.events.Reply.{Reply}
use Rattle.farm_kinds.specs.declared.events.Reply.TheVariants as reply
use Rattle.farm_model.specs.declared.records.Rejudging.{Rejudging}
use Rattle.farm_model.specs.Numbered.{item_of}
use Rattle.farm_model.specs.Refusing.{first_of, when}
use Rattle.farm_model.specs.Rejudgings.{first_twice, busy_with, twice_refusal, is_busy, busy_refusal}
use Rattle.farm_model.specs.State.{State}
use Rattle.farm_model.specs.Refusals.{is_submission, refuse_first, list_refusals, rejudge_refusal}
use Rattle.rejudge_book.specs.declared.faults.BookFault.{BookFault}
use Rattle.rejudge_book.specs.declared.faults.BookFault.TheVariants as fault
use Rattle.rejudge_book.specs.Refusals.{IsKnown, AreKnown, reserve_refusal}
use Rattle.rejudge_book.proofs.Closing.{item_place}
use Rattle.farm_core.specs.FarmShape.{HadMemory, list_refusal, fault_reply}

-- Submissions that are there

known_item : {X : Type 0} (xs : List X) (n : ℕ) (o : Option X) → item_of xs n ≡ o → is_some o ≡ true → IsKnown (length xs) n
known_item xs n None e some = cc
known_item xs n (Some x) e some =
    let within = slice_get_within xs (n - 1) x (item_place xs n x e) in
    let above : nat_lt 0 n ≡ true = elim (nat_lt 0 n) as (λ t. cond t (slice_get xs (n - 1)) None ≡ Some x → t ≡ true) [ true ↦ λ h. refl | false ↦ λ h. cc ] e in
    let numbered : 1 ≤ n = grind (arith, nat_tests) in
    record { numbered = numbered; within = omega arith }

pub all_known : (s : State) (list : List ℕ) → find (λ n. not (is_submission s n)) list ≡ None → AreKnown (length s.submissions) list
all_known s [] none = All-nil (IsKnown (length s.submissions))
all_known s (n ∷ list) none =
    let both : (is_submission s n ≡ true) × (find (λ m. not (is_submission s m)) list ≡ None)
    = elim (is_submission s n) as (λ t. cond (not t) (Some n) (find (λ m. not (is_submission s m)) list) ≡ None → (t ≡ true) × (find (λ m. not (is_submission s m)) list ≡ None)) [
      | true ↦ λ h. (refl, h)
      | false ↦ λ h. cc
    ] none in
    All-cons (IsKnown (length s.submissions)) n list (known_item s.submissions n (item_of s.submissions n) refl both.0) (all_known s list both.1)

-- The order of the refusals

prefix_found : {R : Type 0} (xs ys : List (Option R)) (r : R) → first_of xs ≡ Some r → first_of (xs ++ ys) ≡ Some r
prefix_found [] ys r e = cc
prefix_found (None ∷ xs) ys r e = prefix_found xs ys r e
prefix_found (Some x ∷ xs) ys r e = e

prefix_none : {R : Type 0} (xs ys : List (Option R)) → first_of xs ≡ None → first_of (xs ++ ys) ≡ first_of ys
prefix_none [] ys e = refl
prefix_none (None ∷ xs) ys e = prefix_none xs ys e
prefix_none (Some x ∷ xs) ys e = cc

twice_same : (o : Option ℕ) → option_map reply.Twice o ≡ option_map fault_reply (option_map fault.Twice o)
twice_same None = refl
twice_same (Some n) = refl

busy_same : (rs : List Rejudging) (list : List ℕ) → busy_refusal reply.Busy rs list ≡ option_map fault_reply (busy_refusal fault.Busy rs list)
busy_same rs [] = refl
busy_same rs (n ∷ list) =
    elim (busy_with rs n) as (λ o. first_of (option_map (reply.Busy n) o ∷ map (is_busy reply.Busy rs) list)
    ≡ option_map fault_reply (first_of (option_map (fault.Busy n) o ∷ map (is_busy fault.Busy rs) list))) [
      | None ↦ busy_same rs list
      | Some r ↦ refl
    ]

first_mapped : {A B : Type 0} (f : A → B) (a b : Option A) → first_of (option_map f a ∷ option_map f b ∷ []) ≡ option_map f (first_of (a ∷ b ∷ []))
first_mapped f None None = refl
first_mapped f None (Some y) = refl
first_mapped f (Some x) b = refl

-- the refusals that the rejudge book finds
book_refusals : (rs : List Rejudging) (list : List ℕ)
    → first_of (twice_refusal reply.Twice list ∷ busy_refusal reply.Busy rs list ∷ []) ≡ option_map fault_reply (reserve_refusal rs list)
book_refusals rs list =
    ap (λ o. first_of (o ∷ busy_refusal reply.Busy rs list ∷ [])) (twice_same (first_twice list))
    ∙ ap (λ o. first_of (option_map fault_reply (twice_refusal fault.Twice list) ∷ o ∷ [])) (busy_same rs list)
    ∙ first_mapped fault_reply (twice_refusal fault.Twice list) (busy_refusal fault.Busy rs list)

no_want_busy : (rs : List Rejudging) (list : List ℕ) → busy_refusal fault.Busy rs list ≢ Some fault.NoMemory
no_want_busy rs [] = λ e. cc
no_want_busy rs (n ∷ list) =
    elim (busy_with rs n) as (λ o. first_of (option_map (fault.Busy n) o ∷ map (is_busy fault.Busy rs) list) ≢ Some fault.NoMemory) [
      | None ↦ no_want_busy rs list
      | Some r ↦ λ e. cc
    ]

no_want : (rs : List Rejudging) (list : List ℕ) → reserve_refusal rs list ≢ Some fault.NoMemory
no_want rs list =
    elim (first_twice list) as (λ o. first_of (option_map fault.Twice o ∷ busy_refusal fault.Busy rs list ∷ []) ≢ Some fault.NoMemory) [
      | None ↦ elim (busy_refusal fault.Busy rs list) as (λ o. o ≢ Some fault.NoMemory → first_of (None ∷ o ∷ []) ≢ Some fault.NoMemory) [
        | None ↦ λ h e. cc
        | Some f ↦ λ h. h
      ] (no_want_busy rs list)
      | Some n ↦ λ e. cc
    ]

had_memory : (o : Option BookFault) → o ≢ Some fault.NoMemory → IfSome (option_map fault_reply o) HadMemory
had_memory None h = tt
had_memory (Some fault.EmptySet) h = λ e. cc
had_memory (Some (fault.Twice n)) h = λ e. cc
had_memory (Some (fault.Busy n r)) h = λ e. cc
had_memory (Some fault.NoMemory) h = absurd (h refl)

-- what the book refuses is an answer
pub book_answers : (rs : List Rejudging) (list : List ℕ) → IfSome (option_map fault_reply (reserve_refusal rs list)) HadMemory
book_answers rs list = had_memory (reserve_refusal rs list) (no_want rs list)

-- A rejudging

pub list_refused : (s : State) (list : List ℕ) (r : Reply) → list_refusal s list ≡ Some r → rejudge_refusal s list ≡ Some r
list_refused s list r refusal =
    prefix_found (list_refusals s list) (twice_refusal reply.Twice list ∷ busy_refusal reply.Busy s.rejudgings list ∷ []) r refusal

pub rest_refuses : (s : State) (list : List ℕ) → list_refusal s list ≡ None → rejudge_refusal s list ≡ option_map fault_reply (reserve_refusal s.rejudgings list)
rest_refuses s list none =
    prefix_none (list_refusals s list) (twice_refusal reply.Twice list ∷ busy_refusal reply.Busy s.rejudgings list ∷ []) none
    ∙ book_refusals s.rejudgings list

apart : {R : Type 0} (xs ys : List (Option R)) → first_of (xs ++ ys) ≡ None → (first_of xs ≡ None) × (first_of ys ≡ None)
apart [] ys e = (refl, e)
apart (None ∷ xs) ys e = apart xs ys e
apart (Some x ∷ xs) ys e = cc

unmapped : {A B : Type 0} (f : A → B) (o : Option A) → option_map f o ≡ None → o ≡ None
unmapped f None e = refl
unmapped f (Some x) e = cc

second : {R : Type 0} (a b : Option R) (rest : List (Option R)) → first_of (a ∷ b ∷ rest) ≡ None → b ≡ None
second None None rest e = refl
second None (Some x) rest e = cc
second (Some x) b rest e = cc

-- of a list that is not refused each is there, and the book takes it
pub taken_known : (s : State) (list : List ℕ) → rejudge_refusal s list ≡ None → AreKnown (length s.submissions) list
taken_known s list h =
    let lists = (apart (list_refusals s list) (twice_refusal reply.Twice list ∷ busy_refusal reply.Busy s.rejudgings list ∷ []) h).0 in
    all_known s list (unmapped reply.NoSubmission (find (λ n. not (is_submission s n)) list) (second (when (length list == 0) reply.EmptySet) (refuse_first (is_submission s) reply.NoSubmission list) _ lists))

pub taken_by_book : (s : State) (list : List ℕ) → rejudge_refusal s list ≡ None → reserve_refusal s.rejudgings list ≡ None
taken_by_book s list h =
    unmapped fault_reply (reserve_refusal s.rejudgings list)
    (sym (book_refusals s.rejudgings list) ∙ (apart (list_refusals s list) (twice_refusal reply.Twice list ∷ busy_refusal reply.Busy s.rejudgings list ∷ []) h).1)
