-- A claim of a host that holds nothing, and the result of what it claimed.
use Rattle.std.proofs.Common.{ℕ, ◌≡◌, ◌≢◌, ◌+◌, ◌-◌, ◌<◌, List, [], ◌∷◌, Option, Some, None, Bool, true, false, cond, eqb, refl, sym, ap, ◌∙◌, subst, arith, length, set, slice_get}
use Rattle.std.proofs.lemmas.List.{map-set}
use Rattle.std.proofs.lemmas.Bool.{eqb-true}
use Rattle.std.specs.Prelude.{not, ◌&&◌, IsSome, IsSomeAnd, All, is_some, option_and_then, filter_map}
use Rattle.std.proofs.lemmas.List.Elements.{All-nil, All-cons}
use Rattle.std.specs.Option.{option_map, unwrap_or}
use Rattle.std.proofs.lemmas.List.{length-set}
use Rattle.std.proofs.lemmas.Option.{slice_get_within, slice_get-get_or, slice_get-map}
use Rattle.farm_kinds.specs.RuleValue.{RuleValue}
use Rattle.farm_kinds.specs.declared.kinds.Kind.{Kind}
use Rattle.farm_kinds.specs.declared.outcomes.Task.{Task}
use Rattle.farm_kinds.specs.declared.outcomes.Count.{Count}
use Rattle.farm_kinds.specs.declared.outcomes.Count.TheVariants as count
use Rattle.farm_kinds.specs.declared.events.Event.{Event}
use Rattle.farm_kinds.specs.declared.events.Event.TheVariants as event
use Rattle.farm_kinds.specs.declared.events.Reply.{Reply}
use Rattle.farm_kinds.specs.declared.events.Reply.TheVariants as reply
use Rattle.farm_kinds.specs.Rules.{remap_of}
use Rattle.farm_model.specs.declared.records.Lease.{Lease}
use Rattle.farm_model.specs.Numbered.{item_of, change_item, number_or_0}
use Rattle.farm_model.specs.Refusing.{when, unless, first_of, refused_or}
use Rattle.farm_model.specs.Refusals.{claim_reply, count_reply}
use Rattle.farm_model.specs.Changes.{by_judge}
use Rattle.farm_model.specs.Leases.{same_task, with_lease, without_task}
use Rattle.farm_model.specs.Judgings.{Judging, judging_rows, kept_count, result_refusal, mark_handed, fill_cell}
use Rattle.farm_model.specs.Judge.{JudgeState, claim_refusal, claimed, lease_end, first_open, without_vain_in, without_vain, counted}
use Rattle.farm_model.specs.State.{State, SettingsValue, up_number}
use Rattle.farm_model.specs.Farm.{farm_step}
use Rattle.farm_model.specs.Replay.{state_after, reply_to, counted_by, counted_in, AgreesWith}
use Rattle.farm_laws.proofs.Handing.{IsOpen, hands_open}
use Rattle.farm_laws.proofs.Items.{item_at, item_by, with_same, change_same, change_other}
use Rattle.farm_laws.proofs.Kept.{changed_same}
use Rattle.farm_laws.proofs.Counting.{same_number}
use Rattle.case_run.specs.Cases.{TestCase}
use Rattle.case_run.specs.Values.{case_value}
use Rattle.parallel_judge.specs.Working.{with_task, IsTurned, truth_of, IsHonestRun, IsRunnable, AreRunnable, IsReady, row_lengths, sum_of, empty_cells, unjudged}
use Rattle.parallel_judge.proofs.Sums.{sum_set, one_less}
use Rattle.parallel_judge.proofs.Runs.{goes_on}

-- ---- claims

claim_free : (s : State) (host : List ℕ) (n : ℕ) (up : Option ℕ) (leases : List Lease) (done : JudgeState × _) → IsSome up → leases ≡ []
    → refused_or s (first_of (unless (is_some up) (reply.NoHost host) ∷ option_map claim_reply (claim_refusal leases n) ∷ []))
    (by_judge s claim_reply (refused_or s.judge (claim_refusal leases n) done)) ≡ by_judge s claim_reply done
claim_free s host n None leases done h e = cc
claim_free s host n (Some k) [] done h e = refl
claim_free s host n (Some k) (l ∷ ls) done h e = cc

abbrev pub number_of_host : State → List ℕ → ℕ
number_of_host s host = number_or_0 (up_number s.hosts host)

-- a host that is up is not refused where nothing is held
pub claims : (s : State) (host : List ℕ) → IsSome (up_number s.hosts host) → s.judge.leases ≡ []
    → farm_step s (event.Claim host) ≡ by_judge s claim_reply (claimed s.judge (number_of_host s host) (first_open s.judge))
claims s host up free =
    claim_free s host (number_of_host s host) (up_number s.hosts host) s.judge.leases (claimed s.judge (number_of_host s host) (first_open s.judge)) up free

-- ---- results

-- a result of a task that was handed out, whose cell is empty
not_refused : (judgings : List Judging) (j t : ℕ) (g : Judging) (given : Kind) → item_of judgings j ≡ Some g → item_of g.row t ≡ Some None
    → item_of g.handed t ≡ Some true → g.dropped ≡ false → result_refusal judgings j t given ≡ None
not_refused judgings j t g given there empty handed undropped =
    ap (λ (o : Option Judging). first_of (
    unless (is_some o) count.NoJudging
    ∷ unless (is_some (option_and_then (λ judging. item_of judging.row t) o)) count.NoTest
    ∷ unless (unwrap_or (option_and_then (λ judging. item_of judging.handed t) o) false) count.NotHanded
    ∷ option_map (kept_count given) (unwrap_or (option_and_then (λ judging. item_of judging.row t) o) None)
    ∷ when (unwrap_or (option_map (λ judging. judging.dropped) o) false) count.Dropped ∷ [])) there
    ∙ ap (λ (c : Option (Option Kind)). first_of (
    unless (is_some c) count.NoTest
    ∷ unless (unwrap_or (item_of g.handed t) false) count.NotHanded
    ∷ option_map (kept_count given) (unwrap_or c None)
    ∷ when g.dropped count.Dropped ∷ [])) empty
    ∙ ap (λ (h : Option Bool). first_of (unless (unwrap_or h false) count.NotHanded ∷ None ∷ when g.dropped count.Dropped ∷ [])) handed
    ∙ ap (λ (d : Bool). first_of (when d count.Dropped ∷ [])) undropped

result_free : (s : State) (host : List ℕ) (j t : ℕ) (up : Option ℕ) (refusal : Option Count) (done : JudgeState × Count) → IsSome up → refusal ≡ None
    → refused_or s (first_of (unless (is_some up) (reply.NoHost host) ∷ option_map (count_reply j t) refusal ∷ []))
    (by_judge s (count_reply j t) (refused_or s.judge refusal done)) ≡ by_judge s (count_reply j t) done
result_free s host j t None refusal done h e = cc
result_free s host j t (Some k) None done h e = refl
result_free s host j t (Some k) (Some r) done h e = cc

-- ---- the turn of a task

-- the result of a task that was handed out counts
abbrev pub with_kind : State → List ℕ → Task → Kind → State
with_kind s host task kind = record s { judge = (counted (with_task s host task).judge task.judging task.test kind).0 }

-- what is open of a task
pub record IsToTurn (s : State) (task : Task) (g : Judging) : Type 0 where
  pub there : item_of s.judge.judgings task.judging ≡ Some g
  pub empty : item_of g.row task.test ≡ Some None
  pub undropped : g.dropped ≡ false
  pub handed : length g.handed ≡ length g.row

marked : (g : Judging) (t : ℕ) → item_of g.row t ≡ Some None → length g.handed ≡ length g.row → item_of (mark_handed t g).handed t ≡ Some true
marked g t empty same =
    let place = item_at g.row t None empty in
    let inside : t - 1 < length g.row = slice_get_within g.row (t - 1) None place.1 in
    let within : t - 1 < length g.handed = omega (arith, inside, same) in
    with_same g.handed t _ true (item_by g.handed t _ place.0 (slice_get-get_or g.handed (t - 1) false within))

handed_judging : (s : State) (host : List ℕ) (task : Task) (g : Judging) → IsToTurn s task g
    → item_of (with_task s host task).judge.judgings task.judging ≡ Some (mark_handed task.test g)
handed_judging s host task g x = change_same s.judge.judgings task.judging (mark_handed task.test) g x.there

-- the result of what was handed out counts
pub counts : (s : State) (host : List ℕ) (task : Task) (g : Judging) (kind : Kind) → IsSome (up_number s.hosts host) → IsToTurn s task g
    → farm_step (with_task s host task) (event.Result host task.judging task.test kind) ≡ (with_kind s host task (remap_of s.judge.rule kind), reply.Counted)
counts s host task g kind up x =
    result_free (with_task s host task) host task.judging task.test (up_number s.hosts host)
    (result_refusal (with_task s host task).judge.judgings task.judging task.test (remap_of s.judge.rule kind))
    (counted (with_task s host task).judge task.judging task.test (remap_of s.judge.rule kind)) up
    (not_refused (with_task s host task).judge.judgings task.judging task.test (mark_handed task.test g) (remap_of s.judge.rule kind)
    (handed_judging s host task g x) x.empty (marked g task.test x.empty x.handed) x.undropped)

-- ---- what the turn keeps

same_as_itself : (task : Task) → same_task task task ≡ true
same_as_itself task = ap (λ b. b && eqb task.test task.test) (same_number task.judging) ∙ same_number task.test

given_back : (leases : List Lease) (host : ℕ) (task : Task) (until : ℕ) → leases ≡ [] → without_task (with_lease leases host task until) task ≡ []
given_back [] host task until e = ap (λ b. cond (not b) (record { host = host; task = task; until = until } ∷ []) []) (same_as_itself task)
given_back (l ∷ ls) host task until e = cc

none_in_vain : (rule : RuleValue) (j : ℕ) (o : Option Judging) → without_vain_in rule j [] o ≡ []
none_in_vain rule j None = refl
none_in_vain rule j (Some g) = refl

-- the judging after the turn
abbrev turned : Task → Kind → Judging → Judging
turned task kind g = fill_cell task.test kind (mark_handed task.test g)

this_judging : (s : State) (host : List ℕ) (task : Task) (g : Judging) (kind : Kind) → IsToTurn s task g
    → item_of (with_kind s host task kind).judge.judgings task.judging ≡ Some (turned task kind g)
this_judging s host task g kind x =
    change_same (with_task s host task).judge.judgings task.judging (fill_cell task.test kind) (mark_handed task.test g) (handed_judging s host task g x)

other_judging : (s : State) (host : List ℕ) (task : Task) (kind : Kind) (m : ℕ) → task.judging ≢ m
    → item_of (with_kind s host task kind).judge.judgings m ≡ item_of s.judge.judgings m
other_judging s host task kind m other =
    change_other (with_task s host task).judge.judgings task.judging m (fill_cell task.test kind) other
    ∙ change_other s.judge.judgings task.judging m (mark_handed task.test) other

turned_runs : (case_at : Task → Option TestCase) (task : Task) (g : Judging) (kind : Kind) → IsRunnable case_at task.judging g → IsRunnable case_at task.judging (turned task kind g)
turned_runs case_at task g kind r =
    let row : length (turned task kind g).row ≡ length g.row = length-set g.row (task.test - 1) (Some kind) in
    record {
      undropped = r.undropped;
      asked = r.asked;
      handed = length-set g.handed (task.test - 1) true ∙ r.handed ∙ sym row;
      cases = λ t l u. r.cases t l (omega (arith, u, row));
    }

same_some : {X : Type 0} (x y : X) → Some x ≡ Some y → x ≡ y
same_some x y e = cc

keeps_runnable : (case_at : Task → Option TestCase) (s : State) (host : List ℕ) (task : Task) (g : Judging) (kind : Kind) → IsToTurn s task g
    → AreRunnable case_at s.judge.judgings → AreRunnable case_at (with_kind s host task kind).judge.judgings
keeps_runnable case_at s host task g kind x all m judging there =
    elim (eqb task.judging m) as (λ b. eqb task.judging m ≡ b → IsRunnable case_at m judging) [
      | true ↦ λ e. let same : task.judging ≡ m = eqb-true task.judging m e in
          let this : turned task kind g ≡ judging = same_some (turned task kind g) judging
          (sym (this_judging s host task g kind x) ∙ ap (item_of (with_kind s host task kind).judge.judgings) same ∙ there) in
          subst (λ (n : ℕ). IsRunnable case_at n judging) same (subst (IsRunnable case_at task.judging) this (turned_runs case_at task g kind (all task.judging g x.there)))
      | false ↦ λ e. let other : task.judging ≢ m = (λ same. let no : true ≡ false = sym (same_number m) ∙ ap (λ n. eqb n m) (sym same) ∙ e in cc) in
          all m judging (sym (other_judging s host task kind m other) ∙ there)
    ] refl

-- the host is ready again
pub ready_again : (case_at : Task → Option TestCase) (s : State) (host : List ℕ) (task : Task) (g : Judging) (kind : Kind) → IsToTurn s task g
    → IsReady case_at host s → IsReady case_at host (with_kind s host task kind)
ready_again case_at s host task g kind x ready = record {
  up = ready.up;
  free =
      let judgings = (with_kind s host task kind).judge.judgings in
      ap (λ (leases : List Lease). without_vain s.judge.rule judgings task.judging leases) (given_back s.judge.leases (number_of_host s host) task (lease_end s.judge) ready.free)
      ∙ none_in_vain s.judge.rule task.judging (item_of judgings task.judging);
  runnable = keeps_runnable case_at s host task g kind x ready.runnable;
}

-- each judging has as many cells as before
pub same_lengths : (s : State) (host : List ℕ) (task : Task) (kind : Kind) → row_lengths (with_kind s host task kind) ≡ row_lengths s
same_lengths s host task kind =
    changed_same (λ (g : Judging). length g.row) (fill_cell task.test kind) (λ g. length-set g.row (task.test - 1) (Some kind))
    (with_task s host task).judge.judgings task.judging (item_of (with_task s host task).judge.judgings task.judging) refl
    ∙ changed_same (λ (g : Judging). length g.row) (mark_handed task.test) (λ g. refl) s.judge.judgings task.judging (item_of s.judge.judgings task.judging) refl

filled_rows : (s : State) (host : List ℕ) (task : Task) (g : Judging) (kind : Kind) → IsToTurn s task g
    → judging_rows (with_kind s host task kind).judge.judgings ≡ set (judging_rows s.judge.judgings) (task.judging - 1) (set g.row (task.test - 1) (Some kind))
filled_rows s host task g kind x =
    let judgings = (with_task s host task).judge.judgings in
    ap (λ (o : Option Judging). judging_rows (change_item judgings task.judging (fill_cell task.test kind) o)) (handed_judging s host task g x)
    ∙ map-set (λ (g : Judging). g.row) judgings (task.judging - 1) (turned task kind g)
    ∙ ap (λ rows. set rows (task.judging - 1) (set g.row (task.test - 1) (Some kind)))
    (changed_same (λ (g : Judging). g.row) (mark_handed task.test) (λ g. refl) s.judge.judgings task.judging (item_of s.judge.judgings task.judging) refl)

-- one test less has no result
pub one_less_unjudged : (s : State) (host : List ℕ) (task : Task) (g : Judging) (kind : Kind) → IsToTurn s task g
    → unjudged (with_kind s host task kind).judge.judgings + 1 ≡ unjudged s.judge.judgings
one_less_unjudged s host task g kind x =
    let place = item_at s.judge.judgings task.judging g x.there in
    let cell = item_at g.row task.test None x.empty in
    let row : slice_get (judging_rows s.judge.judgings) (task.judging - 1) ≡ Some g.row = slice_get-map (λ (g : Judging). g.row) s.judge.judgings (task.judging - 1) ∙ ap (option_map (λ (g : Judging). g.row)) place.1 in
    let sums = sum_set empty_cells (judging_rows s.judge.judgings) (task.judging - 1) g.row (set g.row (task.test - 1) (Some kind)) row in
    let less = one_less g.row (task.test - 1) kind cell.1 in
    let same = ap (sum_of empty_cells) (filled_rows s host task g kind x) in
    omega (arith, sums, less, same)

-- ---- a claim and its result

-- nothing is open
pub claims_none : (s : State) (host : List ℕ) → IsSome (up_number s.hosts host) → s.judge.leases ≡ [] → first_open s.judge ≡ None
    → farm_step s (event.Claim host) ≡ (s, reply.Nothing)
claims_none s host up free none = claims s host up free ∙ ap (λ o. by_judge s claim_reply (claimed s.judge (number_of_host s host) o)) none

-- the first open task is handed out
pub claims_first : (s : State) (host : List ℕ) (task : Task) → IsSome (up_number s.hosts host) → s.judge.leases ≡ [] → first_open s.judge ≡ Some task
    → farm_step s (event.Claim host) ≡ (with_task s host task, reply.Handed task (lease_end s.judge))
claims_first s host task up free some = claims s host up free ∙ ap (λ o. by_judge s claim_reply (claimed s.judge (number_of_host s host) o)) some

-- the first open task is one of a judging that can be run
pub first_is : (case_at : Task → Option TestCase) (s : State) (host : List ℕ) (task : Task) → IsReady case_at host s → first_open s.judge ≡ Some task
    → (g : Judging) × IsToTurn s task g
first_is case_at s host task ready first =
    let open_task : IsOpen s.judge.rule s.judge.judgings task =
    hands_open s (event.Claim host) task (lease_end s.judge) (ap (λ (p : State × Reply). p.1) (claims_first s host task ready.up ready.free first)) in
    let runnable = ready.runnable task.judging open_task.judging open_task.there in
    (open_task.judging, record { there = open_task.there; empty = open_task.empty; undropped = runnable.undropped; handed = runnable.handed })

-- it has a case
pub has_case : (case_at : Task → Option TestCase) (s : State) (host : List ℕ) (task : Task) → IsReady case_at host s → first_open s.judge ≡ Some task → IsSome (case_at task)
has_case case_at s host task ready first =
    let x = first_is case_at s host task ready first in
    let place = item_at x.0.row task.test None x.1.empty in
    let inside : task.test - 1 < length x.0.row = slice_get_within x.0.row (task.test - 1) None place.1 in
    (ready.runnable task.judging x.0 x.1.there).cases task.test (omega (arith, place.0)) (omega (arith, place.0, inside))

-- the events of a turn, and what they count
abbrev turn : List ℕ → Task → Kind → List Event
turn host task kind = event.Claim host ∷ event.Result host task.judging task.test kind ∷ []

turn_state : (s : State) (host : List ℕ) (task : Task) (g : Judging) (kind : Kind) → IsSome (up_number s.hosts host) → s.judge.leases ≡ [] → first_open s.judge ≡ Some task → IsToTurn s task g
    → state_after s (turn host task kind) ≡ with_kind s host task (remap_of s.judge.rule kind)
turn_state s host task g kind up free first x =
    ap (λ (p : State × Reply). (farm_step p.0 (event.Result host task.judging task.test kind)).0) (claims_first s host task up free first)
    ∙ ap (λ (p : State × Reply). p.0) (counts s host task g kind up x)

turn_counts : (s : State) (host : List ℕ) (task : Task) (g : Judging) (kind : Kind) → IsSome (up_number s.hosts host) → s.judge.leases ≡ [] → first_open s.judge ≡ Some task → IsToTurn s task g
    → counted_in s (turn host task kind) ≡ (task, kind) ∷ []
turn_counts s host task g kind up free first x =
    ap (λ (p : State × Reply). filter_map counted_by ((event.Claim host, p.1) ∷ (event.Result host task.judging task.test kind, reply_to p.0 (event.Result host task.judging task.test kind)) ∷ [])) (claims_first s host task up free first)
    ∙ ap (λ (p : State × Reply). filter_map counted_by ((event.Claim host, reply.Handed task (lease_end s.judge)) ∷ (event.Result host task.judging task.test kind, p.1) ∷ [])) (counts s host task g kind up x)

agrees : (settings : SettingsValue) (case_at : Task → Option TestCase) (task : Task) (case : TestCase) → case_at task ≡ Some case
    → All (AgreesWith settings.rule (truth_of case_at)) ((task, case_value case) ∷ [])
agrees settings case_at task case there =
    let truly : truth_of case_at task ≡ Some (case_value case) = ap (option_map case_value) there in
    All-cons (AgreesWith settings.rule (truth_of case_at)) (task, case_value case) []
    (subst (λ (o : Option Kind). IsSomeAnd o (λ kind. remap_of settings.rule (case_value case) ≡ remap_of settings.rule kind)) (sym truly) refl)
    (All-nil (AgreesWith settings.rule (truth_of case_at)))

turned_honest : (case_at : Task → Option TestCase) (s : State) (host : List ℕ) (task : Task) (case : TestCase) → IsReady case_at host s → first_open s.judge ≡ Some task
    → case_at task ≡ Some case → (settings : SettingsValue) → IsHonestRun settings case_at s → IsHonestRun settings case_at (with_kind s host task (remap_of s.judge.rule (case_value case)))
turned_honest case_at s host task case ready first there settings run =
    let x = first_is case_at s host task ready first in
    let kind = case_value case in
    let counted : All (AgreesWith settings.rule (truth_of case_at)) (counted_in s (turn host task kind)) =
    subst (All (AgreesWith settings.rule (truth_of case_at))) (sym (turn_counts s host task x.0 kind ready.up ready.free first x.1)) (agrees settings case_at task case there) in
    subst (IsHonestRun settings case_at) (turn_state s host task x.0 kind ready.up ready.free first x.1) (goes_on settings case_at s (turn host task kind) run counted)

-- the first open task was handed out, its case was run, and its result was entered
pub turns : (case_at : Task → Option TestCase) (s handed new : State) (host : List ℕ) (task : Task) (kind : Kind) (case : TestCase) → IsReady case_at host s
    → first_open s.judge ≡ Some task → handed ≡ with_task s host task → case_at task ≡ Some case → kind ≡ case_value case
    → new ≡ (farm_step handed (event.Result host task.judging task.test kind)).0 → IsTurned case_at host s new
turns case_at s handed new host task kind case ready first is there value stepped =
    let x = first_is case_at s host task ready first in
    let after : new ≡ with_kind s host task (remap_of s.judge.rule kind) =
    stepped ∙ ap (λ (t : State). (farm_step t (event.Result host task.judging task.test kind)).0) is ∙ ap (λ (p : State × Reply). p.0) (counts s host task x.0 kind ready.up x.1) in
    let one = one_less_unjudged s host task x.0 (remap_of s.judge.rule kind) x.1 in
    let less : unjudged (with_kind s host task (remap_of s.judge.rule kind)).judge.judgings < unjudged s.judge.judgings = omega (arith, one) in
    subst (IsTurned case_at host s) (sym after) (record {
      ready = ready_again case_at s host task x.0 (remap_of s.judge.rule kind) x.1 ready;
      honest = λ settings run. subst (λ (k : Kind). IsHonestRun settings case_at (with_kind s host task (remap_of s.judge.rule k))) (sym value) (turned_honest case_at s host task case ready first there settings run);
      lengths = same_lengths s host task (remap_of s.judge.rule kind);
      fewer = less;
    })

-- a claim that is not answered with a task: none is open, and nothing changed
pub claim_hands_none : (s new : State) (host : List ℕ) (r : Reply) → IsSome (up_number s.hosts host) → s.judge.leases ≡ []
    → new ≡ (farm_step s (event.Claim host)).0 → r ≡ (farm_step s (event.Claim host)).1 → ((task : Task) (until : ℕ) → r ≢ reply.Handed task until)
    → (None ≡ first_open s.judge) × (new ≡ s)
claim_hands_none s new host r up free state answer other =
    elim (first_open s.judge) as (λ (o : Option Task). first_open s.judge ≡ o → (None ≡ first_open s.judge) × (new ≡ s)) [
      | None ↦ λ e. (sym e, state ∙ ap (λ (p : State × Reply). p.0) (claims_none s host up free e))
      | Some task ↦ λ e. absurd (other task (lease_end s.judge) (answer ∙ ap (λ (p : State × Reply). p.1) (claims_first s host task up free e)))
    ] refl
