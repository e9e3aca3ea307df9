-- Tasks that are handed out.
use Rattle.std.proofs.Common.{ℕ, zero, suc, ◌≡◌, subst, take, ◌+◌, ◌-◌, List, [], ◌∷◌, Option, Some, None, Bool, true, false, ◌&&◌, refl, sym, ap, ◌∙◌, arith, length, slice_get, inl, inr}
use Rattle.std.specs.Prelude.{is_none, not, nat_le, map, ◌++◌}
use Rattle.std.specs.Option.{IsSome, option_map, is_some, unwrap_or}
use Rattle.std.specs.List.{slice_index_or, filter, enumerate_from}
use Rattle.std.proofs.lemmas.Option.{slice_get-get_or, get_or_from_slice_get}
use Rattle.farm_kinds.specs.declared.kinds.Kind.{Kind}
use Rattle.farm_kinds.specs.declared.outcomes.Class.{Class}
use Rattle.farm_kinds.specs.declared.outcomes.Class.TheVariants.{High, Normal, Low}
use Rattle.farm_kinds.specs.declared.outcomes.Mode.{Mode}
use Rattle.farm_kinds.specs.declared.outcomes.Task.{Task}
use Rattle.farm_kinds.specs.declared.outcomes.Claim.TheVariants as claim
use Rattle.farm_kinds.specs.declared.outcomes.Fetched.TheVariants as fetch
use Rattle.farm_kinds.specs.declared.outcomes.Count.{Count}
use Rattle.farm_kinds.specs.declared.outcomes.Count.TheVariants as count
use Rattle.farm_kinds.specs.Rules.{remap_of}
use Rattle.farm_kinds.specs.declared.events.Event.{Event}
use Rattle.farm_kinds.specs.declared.events.Event.TheVariants as event
use Rattle.farm_kinds.specs.declared.events.Reply.{Reply}
use Rattle.farm_kinds.specs.declared.events.Reply.TheVariants as reply
use Rattle.farm_kinds.specs.RuleValue.{RuleValue}
use Rattle.farm_model.specs.declared.records.Lease.{Lease}
use Rattle.farm_model.specs.Numbered.{item_of, numbers_to, number_or_0}
use Rattle.farm_model.specs.Refusing.{when, unless, first_of, refused_or}
use Rattle.farm_model.specs.Rows.{Row}
use Rattle.farm_model.specs.Leases.{held_count}
use Rattle.farm_model.specs.Open.{same_class, is_empty_cell, is_wanted, wanted_tests, is_free, open_in, is_active, judgings_in, open_in_class, open_tasks}
use Rattle.farm_model.specs.Judgings.{Judging, task_of, is_asked, entry_refusal, result_refusal}
use Rattle.farm_model.specs.Judge.{JudgeState, claimed, first_open, open_of, batch_size, ranks_of, batch_from, judge_enter, judge_result}
use Rattle.farm_model.specs.State.{State, up_number}
use Rattle.farm_model.specs.Refusals.{claim_reply, fetch_reply, count_reply}
use Rattle.farm_model.specs.Changes.{by_judge}
use Rattle.farm_model.specs.Replay.{reply_to, given_by}
use Rattle.farm_laws.proofs.Items.{item_at, item_by}
use Rattle.farm_laws.proofs.Later.{IsWanted}
use Rattle.farm_laws.proofs.Quiet.{hands_or_counts, IsClaimOrResult, quiet_or_not}
use Rattle.farm_laws.proofs.Each.{Each, each_first, each_append, each_map, each_flat_map, each_filter, each_kept, each_range, each_numbered}

-- Open tasks

-- the cell of the task is empty, and is still to be judged, in a judging that was asked for
pub record IsOpen (rule : RuleValue) (judgings : List Judging) (task : Task) : Type 0 where
  pub judging : Judging
  pub there : item_of judgings task.judging ≡ Some judging
  pub empty : item_of judging.row task.test ≡ Some None
  pub asked : judging.asked ≡ true
  pub wanted : is_wanted rule judging.mode judging.row task.test ≡ true

abbrev HasCell : Row → ℕ → Type 0
HasCell row test = (cell : Option Kind) × (item_of row test ≡ Some cell)

none_cell : (c : Option Kind) → is_none c ≡ true → c ≡ None
none_cell None h = refl
none_cell (Some k) h = cc

has_cells : (row : Row) → Each (HasCell row) (numbers_to (length row))
has_cells row = each_range (HasCell row) 1 (length row) (λ i lt.
    let place : 1 + i - 1 ≡ i = omega arith in
    (slice_index_or row i None, item_by row (1 + i) (slice_index_or row i None) (omega arith) (ap (slice_get row) place ∙ slice_get-get_or row i None lt)))

empty_cells : (row : Row) → Each (λ test. item_of row test ≡ Some None) (filter (is_empty_cell row) (numbers_to (length row)))
empty_cells row = each_filter (HasCell row) (λ test. item_of row test ≡ Some None) (is_empty_cell row) (λ test h e.
    let cell : slice_index_or row (test - 1) None ≡ h.0 = get_or_from_slice_get row (test - 1) h.0 None (item_at row test h.0 h.1).1 in
    h.1 ∙ ap (λ (c : Option Kind). Some c) (none_cell h.0 (ap is_none (sym cell) ∙ e))) (numbers_to (length row)) (has_cells row)

open_cells : (rule : RuleValue) (mode : Mode) (row : Row) → Each (IsWanted rule mode row) (wanted_tests rule mode row)
open_cells rule mode row = each_filter (λ test. item_of row test ≡ Some None) (IsWanted rule mode row) (is_wanted rule mode row) (λ test h e. (h, e))
    (filter (is_empty_cell row) (numbers_to (length row))) (empty_cells row)

-- a judging of the list, with its number
abbrev IsNumbered : List Judging → ℕ × Judging → Type 0
IsNumbered judgings p = item_of judgings p.0 ≡ Some p.1

-- one that was asked for
abbrev IsAskedFor : List Judging → ℕ × Judging → Type 0
IsAskedFor judgings p = IsNumbered judgings p × (p.1.asked ≡ true)

active_asked : (judging : Judging) → is_active judging ≡ true → judging.asked ≡ true
active_asked judging h = second (not judging.dropped) judging.asked h where
  second : (a b : Bool) → (a && b) ≡ true → b ≡ true
  second true b h = h
  second false b h = cc

each_judging : (judgings : List Judging) (class : Class) → Each (IsAskedFor judgings) (judgings_in judgings class)
each_judging judgings class =
    let numbered : Each (IsNumbered judgings) (enumerate_from 1 judgings) = each_numbered (λ n g. item_of judgings n ≡ Some g) judgings 1 (λ i g e.
    let place : 1 + i - 1 ≡ i = omega arith in
    item_by judgings (1 + i) g (omega arith) (ap (slice_get judgings) place ∙ e)) in
    each_kept (IsAskedFor judgings) (λ p. same_class p.1.class class) (filter (λ p. is_active p.1) (enumerate_from 1 judgings))
    (each_filter (IsNumbered judgings) (IsAskedFor judgings) (λ p. is_active p.1) (λ p h e. (h, active_asked p.1 e)) (enumerate_from 1 judgings) numbered)

each_open : (rule : RuleValue) (judgings : List Judging) (leases : List Lease) (p : ℕ × Judging) → IsAskedFor judgings p → Each (IsOpen rule judgings) (open_in rule leases p)
each_open rule judgings leases p h = each_kept (IsOpen rule judgings) (is_free leases) (map (task_of p.0) (wanted_tests rule p.1.mode p.1.row))
    (each_map (IsWanted rule p.1.mode p.1.row) (IsOpen rule judgings) (task_of p.0) (λ test c. record { judging = p.1; there = h.0; empty = c.0; asked = h.1; wanted = c.1 }) (wanted_tests rule p.1.mode p.1.row) (open_cells rule p.1.mode p.1.row))

class_open : (rule : RuleValue) (judgings : List Judging) (leases : List Lease) (class : Class) → Each (IsOpen rule judgings) (open_in_class rule judgings leases class)
class_open rule judgings leases class =
    each_flat_map (IsAskedFor judgings) (IsOpen rule judgings) (open_in rule leases) (each_open rule judgings leases) (judgings_in judgings class) (each_judging judgings class)

all_open : (rule : RuleValue) (judgings : List Judging) (leases : List Lease) → Each (IsOpen rule judgings) (open_tasks rule judgings leases)
all_open rule judgings leases =
    let high = each_append (IsOpen rule judgings) (open_in_class rule judgings leases High) (open_in_class rule judgings leases Normal)
    (class_open rule judgings leases High) (class_open rule judgings leases Normal) in
    each_append (IsOpen rule judgings) (open_in_class rule judgings leases High ++ open_in_class rule judgings leases Normal) (open_in_class rule judgings leases Low)
    high (class_open rule judgings leases Low)

first_open_is : (s : JudgeState) (task : Task) → first_open s ≡ Some task → IsOpen s.rule s.judgings task
first_open_is s task e = each_first (IsOpen s.rule s.judgings) (open_tasks s.rule s.judgings s.leases) task (all_open s.rule s.judgings s.leases) e

-- Claims and fetches

-- a reply that tells what became of a result hands out nothing
count_hands_none : (j t : ℕ) (c : Count) (task : Task) (until : ℕ) → count_reply j t c ≡ reply.Handed task until → ⊥
count_hands_none j t count.NoJudging task until e = cc
count_hands_none j t count.NoTest task until e = cc
count_hands_none j t count.NotHanded task until e = cc
count_hands_none j t (count.Repeat kept) task until e = cc
count_hands_none j t (count.Differs kept given) task until e = cc
count_hands_none j t count.Dropped task until e = cc
count_hands_none j t count.Counted task until e = cc

result_hands_none : (s : State) (up : Bool) (host : List ℕ) (j t : ℕ) (refusal : Option Count) (done : JudgeState × Count) (task : Task) (until : ℕ)
    → (refused_or s (first_of (unless up (reply.NoHost host) ∷ option_map (count_reply j t) refusal ∷ [])) (by_judge s (count_reply j t) done)).1 ≡ reply.Handed task until → ⊥
result_hands_none s false host j t refusal done task until e = cc
result_hands_none s true host j t None done task until e = count_hands_none j t done.1 task until e
result_hands_none s true host j t (Some c) done task until e = count_hands_none j t c task until e

entry_hands_none : (s : State) (j t : ℕ) (refusal : Option Count) (done : JudgeState × Count) (task : Task) (until : ℕ)
    → (refused_or s (option_map (count_reply j t) refusal) (by_judge s (count_reply j t) done)).1 ≡ reply.Handed task until → ⊥
entry_hands_none s j t None done task until e = count_hands_none j t done.1 task until e
entry_hands_none s j t (Some c) done task until e = count_hands_none j t c task until e

never : (r : Reply) (task : Task) (until : ℕ) → hands_or_counts r ≡ false → r ≡ reply.Handed task until → ⊥
never r task until h e = let no : true ≡ false = ap hands_or_counts (sym e) ∙ h in cc

-- a claim hands out the first open task
claim_hands : (s : State) (up : Bool) (host : List ℕ) (holding : Bool) (n : ℕ) (o : Option Task) (task : Task) (until : ℕ)
    → (refused_or s (first_of (unless up (reply.NoHost host) ∷ option_map claim_reply (when holding claim.Holding) ∷ []))
    (by_judge s claim_reply (refused_or s.judge (when holding claim.Holding) (claimed s.judge n o)))).1 ≡ reply.Handed task until → o ≡ Some task
claim_hands s false host holding n o task until e = cc
claim_hands s true host true n o task until e = cc
claim_hands s true host false n None task until e = cc
claim_hands s true host false n (Some given) task until e = cc

-- a fetch hands out no task but by a batch
fetch_hands_none : (s : State) (up : Bool) (host : List ℕ) (holding : Bool) (n size : ℕ) (o : Option Task) (task : Task) (until : ℕ)
    → (refused_or s (first_of (unless up (reply.NoHost host) ∷ option_map fetch_reply (when holding fetch.Holding) ∷ []))
    (by_judge s fetch_reply (refused_or s.judge (when holding fetch.Holding) (batch_from s.judge n size o)))).1 ≡ reply.Handed task until → ⊥
fetch_hands_none s false host holding n size o task until e = cc
fetch_hands_none s true host true n size o task until e = cc
fetch_hands_none s true host false n size None task until e = cc
fetch_hands_none s true host false n size (Some given) task until e = cc

claim_open : (s : State) (e : Event) (task : Task) (until : ℕ) → IsClaimOrResult e → reply_to s e ≡ reply.Handed task until → IsOpen s.judge.rule s.judge.judgings task
claim_open s (event.Claim host) task until is e =
    let n = number_or_0 (up_number s.hosts host) in
    first_open_is s.judge task (claim_hands s (is_some (up_number s.hosts host)) host (nat_le 64 (held_count s.judge.leases n)) n (first_open s.judge) task until e)
claim_open s (event.Fetch host most) task until is e =
    let n = number_or_0 (up_number s.hosts host) in
    absurd (fetch_hands_none s (is_some (up_number s.hosts host)) host (nat_le 64 (held_count s.judge.leases n)) n (batch_size most (held_count s.judge.leases n)) (first_open s.judge) task until e)
claim_open s (event.Result host j t kind) task until is e =
    absurd (result_hands_none s (is_some (up_number s.hosts host)) host j t (result_refusal s.judge.judgings j t (remap_of s.judge.rule kind)) (judge_result s.judge j t kind) task until e)
claim_open s (event.Entry j t kind) task until is e =
    absurd (entry_hands_none s j t (entry_refusal s.judge.judgings j t (remap_of s.judge.rule kind)) (judge_enter s.judge j t kind) task until e)
claim_open s e task until is h = absurd is

-- what is handed out was open
pub hands_open : (s : State) (e : Event) (task : Task) (until : ℕ) → reply_to s e ≡ reply.Handed task until → IsOpen s.judge.rule s.judge.judgings task
hands_open s e task until h = elim (quiet_or_not s e) [ inl is ↦ claim_open s e task until is h | inr none ↦ absurd (never (reply_to s e) task until none h) ]

-- Batches

-- the judging was asked for, and each of these tests of it is open
abbrev pub AreOpen : State → ℕ → List ℕ → Type 0
AreOpen s j tests = (is_asked s.judge.judgings j ≡ true) × Each (λ test. IsOpen s.judge.rule s.judge.judgings (task_of j test)) tests

each_take : {X : Type 0} (P : X → Type 0) (n : ℕ) (xs : List X) → Each P xs → Each P (take n xs)
each_take P zero xs h = tt
each_take P (suc n) [] h = tt
each_take P (suc n) (x ∷ xs) h = (h.0, each_take P n xs h.1)

-- a task of the judging that is open
abbrev IsOpenOf : RuleValue → List Judging → ℕ → Task → Type 0
IsOpenOf rule judgings j task = (task.judging ≡ j) × IsOpen rule judgings task

open_named : (rule : RuleValue) (judgings : List Judging) (j : ℕ) (task : Task) → IsOpenOf rule judgings j task → IsOpen rule judgings (task_of j task.test)
open_named rule judgings j task h = subst (λ (n : ℕ). IsOpen rule judgings (task_of n task.test)) h.0 h.1

each_open_of : (rule : RuleValue) (judgings : List Judging) (leases : List Lease) (p : ℕ × Judging) → IsAskedFor judgings p → Each (IsOpenOf rule judgings p.0) (open_in rule leases p)
each_open_of rule judgings leases p h = each_kept (IsOpenOf rule judgings p.0) (is_free leases) (map (task_of p.0) (wanted_tests rule p.1.mode p.1.row))
    (each_map (IsWanted rule p.1.mode p.1.row) (IsOpenOf rule judgings p.0) (task_of p.0) (λ test c. (refl, record { judging = p.1; there = h.0; empty = c.0; asked = h.1; wanted = c.1 })) (wanted_tests rule p.1.mode p.1.row) (open_cells rule p.1.mode p.1.row))

batch_open : (s : State) (task : Task) (size : ℕ) → IsOpen s.judge.rule s.judge.judgings task → AreOpen s task.judging (ranks_of (take size (open_of s.judge task.judging)))
batch_open s task size given =
    let rule = s.judge.rule in
    let judgings = s.judge.judgings in
    let P = IsOpenOf rule judgings task.judging in
    let all : Each P (open_in rule s.judge.leases (task.judging, given.judging)) = each_open_of rule judgings s.judge.leases (task.judging, given.judging) (given.there, given.asked) in
    let same : open_of s.judge task.judging ≡ open_in rule s.judge.leases (task.judging, given.judging) =
    ap (λ (o : Option Judging). unwrap_or (option_map (λ judging. open_in rule s.judge.leases (task.judging, judging)) o) []) given.there in
    let asked : is_asked judgings task.judging ≡ true = ap (λ (o : Option Judging). unwrap_or (option_map (λ judging. judging.asked) o) false) given.there ∙ given.asked in (
      asked,
      each_map P (λ test. IsOpen rule judgings (task_of task.judging test)) (λ (other : Task). other.test) (open_named rule judgings task.judging) (take size (open_of s.judge task.judging))
          (each_take P size (open_of s.judge task.judging) (subst (Each P) (sym same) all)),
    )

same_batch : (j k : ℕ) (xs ys : List ℕ) (u v : ℕ) → reply.Batch j xs u ≡ reply.Batch k ys v → (j ≡ k) × (xs ≡ ys)
same_batch j k xs ys u v e = (cc, cc)

-- a fetch hands out tests of the first open task's judging
fetch_hands : (s : State) (up : Bool) (host : List ℕ) (holding : Bool) (n size : ℕ) (o : Option Task) (j : ℕ) (tests : List ℕ) (until : ℕ) → first_open s.judge ≡ o
    → (refused_or s (first_of (unless up (reply.NoHost host) ∷ option_map fetch_reply (when holding fetch.Holding) ∷ []))
    (by_judge s fetch_reply (refused_or s.judge (when holding fetch.Holding) (batch_from s.judge n size o)))).1 ≡ reply.Batch j tests until → AreOpen s j tests
fetch_hands s false host holding n size o j tests until at e = cc
fetch_hands s true host true n size o j tests until at e = cc
fetch_hands s true host false n size None j tests until at e = cc
fetch_hands s true host false n size (Some task) j tests until at e =
    let same = same_batch task.judging j (ranks_of (take size (open_of s.judge task.judging))) tests _ until e in
    let opens = batch_open s task size (first_open_is s.judge task at) in
    subst (λ (k : ℕ). AreOpen s k tests) same.0 (subst (AreOpen s task.judging) same.1 opens)

count_batches_none : (j t : ℕ) (c : Count) (k : ℕ) (tests : List ℕ) (until : ℕ) → count_reply j t c ≡ reply.Batch k tests until → ⊥
count_batches_none j t count.NoJudging k tests until e = cc
count_batches_none j t count.NoTest k tests until e = cc
count_batches_none j t count.NotHanded k tests until e = cc
count_batches_none j t (count.Repeat kept) k tests until e = cc
count_batches_none j t (count.Differs kept given) k tests until e = cc
count_batches_none j t count.Dropped k tests until e = cc
count_batches_none j t count.Counted k tests until e = cc

result_batches_none : (s : State) (up : Bool) (host : List ℕ) (j t : ℕ) (refusal : Option Count) (done : JudgeState × Count) (k : ℕ) (tests : List ℕ) (until : ℕ)
    → (refused_or s (first_of (unless up (reply.NoHost host) ∷ option_map (count_reply j t) refusal ∷ [])) (by_judge s (count_reply j t) done)).1 ≡ reply.Batch k tests until → ⊥
result_batches_none s false host j t refusal done k tests until e = cc
result_batches_none s true host j t None done k tests until e = count_batches_none j t done.1 k tests until e
result_batches_none s true host j t (Some c) done k tests until e = count_batches_none j t c k tests until e

entry_batches_none : (s : State) (j t : ℕ) (refusal : Option Count) (done : JudgeState × Count) (k : ℕ) (tests : List ℕ) (until : ℕ)
    → (refused_or s (option_map (count_reply j t) refusal) (by_judge s (count_reply j t) done)).1 ≡ reply.Batch k tests until → ⊥
entry_batches_none s j t None done k tests until e = count_batches_none j t done.1 k tests until e
entry_batches_none s j t (Some c) done k tests until e = count_batches_none j t c k tests until e

claim_batches_none : (s : State) (up : Bool) (host : List ℕ) (holding : Bool) (n : ℕ) (o : Option Task) (k : ℕ) (tests : List ℕ) (until : ℕ)
    → (refused_or s (first_of (unless up (reply.NoHost host) ∷ option_map claim_reply (when holding claim.Holding) ∷ []))
    (by_judge s claim_reply (refused_or s.judge (when holding claim.Holding) (claimed s.judge n o)))).1 ≡ reply.Batch k tests until → ⊥
claim_batches_none s false host holding n o k tests until e = cc
claim_batches_none s true host true n o k tests until e = cc
claim_batches_none s true host false n None k tests until e = cc
claim_batches_none s true host false n (Some given) k tests until e = cc

fetch_open : (s : State) (e : Event) (j : ℕ) (tests : List ℕ) (until : ℕ) → IsClaimOrResult e → reply_to s e ≡ reply.Batch j tests until → AreOpen s j tests
fetch_open s (event.Claim host) j tests until is e =
    let n = number_or_0 (up_number s.hosts host) in
    absurd (claim_batches_none s (is_some (up_number s.hosts host)) host (nat_le 64 (held_count s.judge.leases n)) n (first_open s.judge) j tests until e)
fetch_open s (event.Fetch host most) j tests until is e =
    let n = number_or_0 (up_number s.hosts host) in
    fetch_hands s (is_some (up_number s.hosts host)) host (nat_le 64 (held_count s.judge.leases n)) n (batch_size most (held_count s.judge.leases n)) (first_open s.judge) j tests until refl e
fetch_open s (event.Result host k t kind) j tests until is e =
    absurd (result_batches_none s (is_some (up_number s.hosts host)) host k t (result_refusal s.judge.judgings k t (remap_of s.judge.rule kind)) (judge_result s.judge k t kind) j tests until e)
fetch_open s (event.Entry k t kind) j tests until is e =
    absurd (entry_batches_none s k t (entry_refusal s.judge.judgings k t (remap_of s.judge.rule kind)) (judge_enter s.judge k t kind) j tests until e)
fetch_open s e j tests until is h = absurd is

never_batch : (r : Reply) (j : ℕ) (tests : List ℕ) (until : ℕ) → hands_or_counts r ≡ false → r ≡ reply.Batch j tests until → ⊥
never_batch r j tests until h e = let no : true ≡ false = ap hands_or_counts (sym e) ∙ h in cc

-- the tests of a batch were open
pub batches_open : (s : State) (e : Event) (j : ℕ) (tests : List ℕ) (until : ℕ) → reply_to s e ≡ reply.Batch j tests until → AreOpen s j tests
batches_open s e j tests until h = elim (quiet_or_not s e) [ inl is ↦ fetch_open s e j tests until is h | inr none ↦ absurd (never_batch (reply_to s e) j tests until none h) ]

-- Results that count

fetch_counts_none : (s : State) (up : Bool) (host : List ℕ) (holding : Bool) (n size : ℕ) (o : Option Task)
    → (refused_or s (first_of (unless up (reply.NoHost host) ∷ option_map fetch_reply (when holding fetch.Holding) ∷ []))
    (by_judge s fetch_reply (refused_or s.judge (when holding fetch.Holding) (batch_from s.judge n size o)))).1 ≡ reply.Counted → ⊥
fetch_counts_none s false host holding n size o e = cc
fetch_counts_none s true host true n size o e = cc
fetch_counts_none s true host false n size None e = cc
fetch_counts_none s true host false n size (Some given) e = cc

claim_counts_none : (s : State) (up : Bool) (host : List ℕ) (holding : Bool) (n : ℕ) (o : Option Task)
    → (refused_or s (first_of (unless up (reply.NoHost host) ∷ option_map claim_reply (when holding claim.Holding) ∷ []))
    (by_judge s claim_reply (refused_or s.judge (when holding claim.Holding) (claimed s.judge n o)))).1 ≡ reply.Counted → ⊥
claim_counts_none s false host holding n o e = cc
claim_counts_none s true host true n o e = cc
claim_counts_none s true host false n None e = cc
claim_counts_none s true host false n (Some given) e = cc

result_counts : (s : State) (e : Event) → IsClaimOrResult e → reply_to s e ≡ reply.Counted → IsSome (given_by e)
result_counts s (event.Claim host) is e =
    let n = number_or_0 (up_number s.hosts host) in
    absurd (claim_counts_none s (is_some (up_number s.hosts host)) host (nat_le 64 (held_count s.judge.leases n)) n (first_open s.judge) e)
result_counts s (event.Fetch host most) is e =
    let n = number_or_0 (up_number s.hosts host) in
    absurd (fetch_counts_none s (is_some (up_number s.hosts host)) host (nat_le 64 (held_count s.judge.leases n)) n (batch_size most (held_count s.judge.leases n)) (first_open s.judge) e)
result_counts s (event.Result host j t kind) is e = refl
result_counts s (event.Entry j t kind) is e = refl
result_counts s e is h = absurd is

-- only a result counts
pub counts_given : (s : State) (e : Event) → reply_to s e ≡ reply.Counted → IsSome (given_by e)
counts_given s e h = elim (quiet_or_not s e) [ inl is ↦ result_counts s e is h | inr none ↦ absurd (let no : true ≡ false = ap hands_or_counts (sym h) ∙ none in cc) ]
