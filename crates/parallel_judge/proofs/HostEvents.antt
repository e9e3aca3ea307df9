-- What hosts enter leaves a contest under way.
use Rattle.std.proofs.Common.{ℕ, ◌≡◌, ◌≢◌, ◌+◌, ◌-◌, ◌<◌, ◌≤◌, ◌⊎◌, List, [], ◌∷◌, ◌++◌, Option, Some, None, Bool, true, false, cond, eqb, refl, sym, ap, ◌∙◌, subst, arith, length, map, nat_lt, inl, inr}
use Rattle.std.specs.Prelude.{not, ◌&&◌, All, IsSomeAnd, is_some}
use Rattle.std.specs.Option.{option_map}
use Rattle.std.specs.List.{filter, position_or_len, cons_option}
use Rattle.std.specs.Str.{bytes_eq}
use Rattle.std.proofs.lemmas.List.{length-append, length-set}
use Rattle.std.proofs.lemmas.List.Elements.{All-nil, All-cons}
use Rattle.std.proofs.lemmas.Bool.{eqb-true}
use Rattle.std.proofs.lemmas.Bool.Decides.{nat_tests}
use Rattle.farm_kinds.specs.declared.kinds.Kind.{Kind}
use Rattle.farm_kinds.specs.declared.outcomes.Task.{Task}
use Rattle.farm_kinds.specs.declared.outcomes.Claim.{Claim}
use Rattle.farm_kinds.specs.declared.outcomes.Count.{Count}
use Rattle.farm_kinds.specs.declared.events.Event.{Event}
use Rattle.farm_kinds.specs.declared.events.Event.TheVariants as event
use Rattle.farm_kinds.specs.declared.events.Reply.{Reply}
use Rattle.farm_kinds.specs.declared.events.Reply.TheVariants as reply
use Rattle.farm_kinds.specs.RuleValue.{RuleValue}
use Rattle.farm_kinds.specs.Rules.{remap_of}
use Rattle.farm_model.specs.declared.records.Host.{Host}
use Rattle.farm_model.specs.declared.records.Lease.{Lease}
use Rattle.farm_model.specs.Numbered.{item_of, with_change, number_or_0, number_where}
use Rattle.farm_model.specs.Refusing.{unless, first_of, refused_or}
use Rattle.farm_model.specs.Refusals.{claim_reply, count_reply}
use Rattle.farm_model.specs.Changes.{by_judge, host_as}
use Rattle.farm_model.specs.Leases.{same_task, without_task}
use Rattle.farm_model.specs.Judgings.{Judging, task_of, result_refusal, with_result, mark_handed, fill_cell}
use Rattle.farm_model.specs.Judge.{claim_refusal, claimed, hand_out, first_open, is_in_vain, without_vain_in, counted, lease_end}
use Rattle.farm_model.specs.State.{State, SettingsValue, up_number}
use Rattle.farm_model.specs.Farm.{farm_step}
use Rattle.farm_model.specs.Replay.{reply_to, if_counted, AgreesWith}
use Rattle.farm_laws.proofs.Each.{Each}
use Rattle.farm_laws.proofs.Items.{change_same, change_other}
use Rattle.farm_laws.proofs.Kept.{changed_same}
use Rattle.farm_laws.proofs.Counting.{same_number}
use Rattle.case_run.specs.Cases.{TestCase}
use Rattle.parallel_judge.specs.Working.{truth_of, IsRunnable, AreRunnable, IsHonestRun}
use Rattle.parallel_judge.specs.UnderWay.{IsHostEvent, hosts_of, IsHeldAfter, AreHeldAfter, IsUnderWay}
use Rattle.parallel_judge.proofs.Runs.{goes_on}
use Rattle.parallel_judge.proofs.Contests.{counts_none}

-- ---- judgings of which one is changed

-- a change that keeps what makes a judging run
pub record KeepsRunnable (f : Judging → Judging) : Type 0 where
  pub dropped : (g : Judging) → (f g).dropped ≡ g.dropped
  pub asked : (g : Judging) → (f g).asked ≡ g.asked
  pub row : (g : Judging) → length (f g).row ≡ length g.row
  pub handed : (g : Judging) → length (f g).handed ≡ length g.handed

one_runs : (case_at : Task → Option TestCase) (j : ℕ) (f : Judging → Judging) (g : Judging) → KeepsRunnable f → IsRunnable case_at j g → IsRunnable case_at j (f g)
one_runs case_at j f g k r =
    let row = k.row g in
    record {
      undropped = k.dropped g ∙ r.undropped;
      asked = k.asked g ∙ r.asked;
      handed = k.handed g ∙ r.handed ∙ sym row;
      cases = λ t l u. r.cases t l (omega (arith, u, row));
    }

same_some : {X : Type 0} (x y : X) → Some x ≡ Some y → x ≡ y
same_some x y e = cc

-- the changed judging was there
pub changed_was : (judgings : List Judging) (j : ℕ) (f : Judging → Judging) (g : Judging) (o : Option Judging) → item_of judgings j ≡ o → item_of (with_change judgings j f) j ≡ Some g
    → (old : Judging) × (item_of judgings j ≡ Some old) × (f old ≡ g)
changed_was judgings j f g None e h =
    let same : item_of (with_change judgings j f) j ≡ item_of judgings j = ap (λ (o : Option Judging). item_of (Rattle.farm_model.specs.Numbered.change_item judgings j f o) j) e in
    let no : Some g ≡ None = sym h ∙ same ∙ e in cc
changed_was judgings j f g (Some old) e h = (old, e, same_some (f old) g (sym (change_same judgings j f old e) ∙ h))

pub still_runnable : (case_at : Task → Option TestCase) (judgings : List Judging) (j : ℕ) (f : Judging → Judging) → KeepsRunnable f
    → AreRunnable case_at judgings → AreRunnable case_at (with_change judgings j f)
still_runnable case_at judgings j f k all m judging is =
    elim (eqb j m) as (λ b. eqb j m ≡ b → IsRunnable case_at m judging) [
      | true ↦ λ e. let same : j ≡ m = eqb-true j m e in
          let was = changed_was judgings j f judging (item_of judgings j) refl (ap (item_of (with_change judgings j f)) same ∙ is) in
          subst (λ (n : ℕ). IsRunnable case_at n judging) same
          (subst (IsRunnable case_at j) was.2 (one_runs case_at j f was.0 k (all j was.0 was.1)))
      | false ↦ λ e. let other : j ≢ m = (λ same. let no : true ≡ false = sym (same_number m) ∙ ap (λ n. eqb n m) (sym same) ∙ e in cc) in
          all m judging (sym (change_other judgings j m f other) ∙ is)
    ] refl

handing_keeps : (test : ℕ) → KeepsRunnable (mark_handed test)
handing_keeps test = record { dropped = λ g. refl; asked = λ g. refl; row = λ g. refl; handed = λ g. length-set g.handed (test - 1) true }

filling_keeps : (test : ℕ) (kind : Kind) → KeepsRunnable (fill_cell test kind)
filling_keeps test kind = record { dropped = λ g. refl; asked = λ g. refl; row = λ g. length-set g.row (test - 1) (Some kind); handed = λ g. refl }

-- ---- the numbers of hosts

-- what fails the test is passed over
pub passed_over : {X : Type 0} (test : X → Bool) (xs ys : List X) → Each (λ x. test x ≡ false) xs → position_or_len test (xs ++ ys) ≡ length xs + position_or_len test ys
passed_over test [] ys h = omega arith
passed_over test (x ∷ xs) ys h = ap (λ b. cond (not b) (1 + position_or_len test (xs ++ ys)) 0) h.0 ∙ (let rest = passed_over test xs ys h.1 in omega (arith, rest))

is_below : (k n : ℕ) → nat_lt k n ≡ true → k < n
is_below k n e = grind (arith, nat_tests, e)

found_before_end : (k len n : ℕ) → option_map (λ i. i + 1) (cond (nat_lt k len) (Some k) None) ≡ Some n → (n ≡ k + 1) × (k < len)
found_before_end k len n h =
    elim (nat_lt k len) as (λ b. nat_lt k len ≡ b → option_map (λ i. i + 1) (cond b (Some k) None) ≡ Some n → (n ≡ k + 1) × (k < len)) [
      | true ↦ λ e is. (let same : k + 1 ≡ n = cc in sym same, is_below k len e)
      | false ↦ λ e is. cc
    ] refl h

pub number_after : {X : Type 0} (test : X → Bool) (xs ys : List X) (n : ℕ) → Each (λ x. test x ≡ false) xs → number_where test (xs ++ ys) ≡ Some n
    → (length xs < n) × (n ≤ length xs + length ys)
number_after test xs ys n h is =
    let found = found_before_end (position_or_len test (xs ++ ys)) (length (xs ++ ys)) n is in
    let place = passed_over test xs ys h in
    let whole = length-append xs ys in
    (omega (arith, found.0, place), omega (arith, found.0, found.1, whole))

pub down_fails : (name : List ℕ) (down : List (List ℕ)) → Each (λ (h : Host). (bytes_eq h.name name && h.up) ≡ false) (map (λ n. host_as n false) down)
down_fails name [] = tt
down_fails name (n ∷ down) = (and_false (bytes_eq n name), down_fails name down) where
  and_false : (b : Bool) → (b && false) ≡ false
  and_false true = refl
  and_false false = refl

pub mapped_length : {X Y : Type 0} (f : X → Y) (xs : List X) → length (map f xs) ≡ length xs
mapped_length f [] = refl
mapped_length f (x ∷ xs) = let rest = mapped_length f xs in omega (arith, rest)

-- a host that is up is one of those that are up
pub up_after : (name : List ℕ) (down up : List (List ℕ)) (n : ℕ) → up_number (hosts_of down up) name ≡ Some n → (length down < n) × (n ≤ length down + length up)
up_after name down up n is =
    let after = number_after (λ (h : Host). bytes_eq h.name name && h.up) (map (λ n. host_as n false) down) (map (λ n. host_as n true) up) n (down_fails name down) is in
    let d = mapped_length (λ n. host_as n false) down in
    let u = mapped_length (λ n. host_as n true) up in
    (let low = after.0 in omega (arith, low, d), let high = after.1 in omega (arith, high, d, u))

-- ---- leases

one_more_held : (a b : ℕ) (leases : List Lease) (lease : Lease) → AreHeldAfter a b leases → IsHeldAfter a b lease → AreHeldAfter a b (leases ++ lease ∷ [])
one_more_held a b [] lease h k = (k, tt)
one_more_held a b (l ∷ leases) lease h k = (h.0, one_more_held a b leases lease h.1 k)

fewer_held : (a b : ℕ) (p : Lease → Bool) (leases : List Lease) → AreHeldAfter a b leases → AreHeldAfter a b (filter p leases)
fewer_held a b p [] h = tt
fewer_held a b p (l ∷ leases) h = elim (p l) as (λ c. AreHeldAfter a b (cond c (l ∷ filter p leases) (filter p leases))) [
  | true ↦ (h.0, fewer_held a b p leases h.1)
  | false ↦ fewer_held a b p leases h.1
]

vain_held : (a b : ℕ) (rule : RuleValue) (j : ℕ) (leases : List Lease) (o : Option Judging) → AreHeldAfter a b leases → AreHeldAfter a b (without_vain_in rule j leases o)
vain_held a b rule j leases None h = h
vain_held a b rule j leases (Some g) h = fewer_held a b (λ lease. not (is_in_vain rule j g lease)) leases h

-- ---- claims

-- nothing changes, or the host, which is up, gets a task
abbrev ClaimDoes : State → Option ℕ → State → Type 0
ClaimDoes s up new = (new ≡ s) ⊎ ((n : ℕ) × (task : Task) × (up ≡ Some n) × (new ≡ record s { judge = hand_out s.judge n task }))

claim_does : (s : State) (host : List ℕ) (up : Option ℕ) (refusal : Option Claim) (first : Option Task)
    → ClaimDoes s up (refused_or s (first_of (unless (is_some up) (reply.NoHost host) ∷ option_map claim_reply refusal ∷ []))
    (by_judge s claim_reply (refused_or s.judge refusal (claimed s.judge (number_or_0 up) first)))).0
claim_does s host None refusal first = inl refl
claim_does s host (Some n) (Some x) first = inl refl
claim_does s host (Some n) None None = inl refl
claim_does s host (Some n) None (Some task) = inr (n, task, refl, refl)

-- ---- results

-- nothing changes, or the result counts
abbrev ResultDoes : State → ℕ → ℕ → Kind → State → Type 0
ResultDoes s j test kind new = (new ≡ s) ⊎ (new ≡ record s { judge = (counted s.judge j test kind).0 })

result_does : (s : State) (host : List ℕ) (j test : ℕ) (kind : Kind) (up : Option ℕ) (refusal : Option Count)
    → ResultDoes s j test kind (refused_or s (first_of (unless (is_some up) (reply.NoHost host) ∷ option_map (count_reply j test) refusal ∷ []))
    (by_judge s (count_reply j test) (refused_or s.judge refusal (counted s.judge j test kind)))).0
result_does s host j test kind None refusal = inl refl
result_does s host j test kind (Some n) (Some x) = inl refl
result_does s host j test kind (Some n) None = inr refl

agrees_if_counted : (rule : RuleValue) (case_at : Task → Option TestCase) (task : Task) (kind : Kind) → truth_of case_at task ≡ Some kind → (r : Reply)
    → All (AgreesWith rule (truth_of case_at)) (cons_option (if_counted r (Some (task, kind))) [])
agrees_if_counted rule case_at task kind true_kind reply.Counted =
    All-cons (AgreesWith rule (truth_of case_at)) (task, kind) []
    (subst (λ (o : Option Kind). IsSomeAnd o (λ k. remap_of rule kind ≡ remap_of rule k)) (sym true_kind) refl) (All-nil (AgreesWith rule (truth_of case_at)))
agrees_if_counted rule case_at task kind true_kind r = All-nil (AgreesWith rule (truth_of case_at))

-- what a host enters counts no result but the value of a case
host_honest : (settings : SettingsValue) (case_at : Task → Option TestCase) (s : State) (e : Event) → IsHostEvent case_at e
    → IsHonestRun settings case_at s → IsHonestRun settings case_at (farm_step s e).0
host_honest settings case_at s (event.Claim host) is run =
    goes_on settings case_at s (event.Claim host ∷ []) run
    (subst (All (AgreesWith settings.rule (truth_of case_at))) (sym (counts_none s (event.Claim host ∷ []) (refl, tt))) (All-nil (AgreesWith settings.rule (truth_of case_at))))
host_honest settings case_at s (event.Result host j test kind) is run =
    goes_on settings case_at s (event.Result host j test kind ∷ []) run
    (agrees_if_counted settings.rule case_at (task_of j test) kind is (reply_to s (event.Result host j test kind)))
host_honest settings case_at s e is run = absurd is

-- ---- both

-- a task is handed out to a host that is up
handed_under_way : (settings : SettingsValue) (case_at : Task → Option TestCase) (cells : List ℕ) (down up : List (List ℕ)) (s : State) (n : ℕ) (task : Task)
    → IsUnderWay settings case_at cells down up s → (length down < n) × (n ≤ length down + length up)
    → IsHonestRun settings case_at (record s { judge = hand_out s.judge n task }) → IsUnderWay settings case_at cells down up (record s { judge = hand_out s.judge n task })
handed_under_way settings case_at cells down up s n task w holder run = record {
  runnable = still_runnable case_at s.judge.judgings task.judging (mark_handed task.test) (handing_keeps task.test) w.runnable;
  honest = run;
  lengths = changed_same (λ (g : Judging). length g.row) (mark_handed task.test) (λ g. refl) s.judge.judgings task.judging (item_of s.judge.judgings task.judging) refl ∙ w.lengths;
  hosts = w.hosts;
  held = one_more_held (length down) (length up) s.judge.leases (record { host = n; task = task; until = lease_end s.judge }) w.held holder;
}

-- a result counts
counted_under_way : (settings : SettingsValue) (case_at : Task → Option TestCase) (cells : List ℕ) (down up : List (List ℕ)) (s : State) (j test : ℕ) (kind : Kind)
    → IsUnderWay settings case_at cells down up s
    → IsHonestRun settings case_at (record s { judge = (counted s.judge j test kind).0 }) → IsUnderWay settings case_at cells down up (record s { judge = (counted s.judge j test kind).0 })
counted_under_way settings case_at cells down up s j test kind w run = record {
  runnable = still_runnable case_at s.judge.judgings j (fill_cell test kind) (filling_keeps test kind) w.runnable;
  honest = run;
  lengths = changed_same (λ (g : Judging). length g.row) (fill_cell test kind) (λ g. length-set g.row (test - 1) (Some kind)) s.judge.judgings j (item_of s.judge.judgings j) refl ∙ w.lengths;
  hosts = w.hosts;
  held = vain_held (length down) (length up) s.judge.rule j (without_task s.judge.leases (task_of j test)) (item_of (with_result s.judge.judgings j test kind) j)
      (fewer_held (length down) (length up) (λ lease. not (same_task lease.task (task_of j test))) s.judge.leases w.held);
}

claim_under_way : (settings : SettingsValue) (case_at : Task → Option TestCase) (cells : List ℕ) (down up : List (List ℕ)) (s new : State) (host : List ℕ)
    → IsUnderWay settings case_at cells down up s → IsHonestRun settings case_at new → ClaimDoes s (up_number s.hosts host) new → IsUnderWay settings case_at cells down up new
claim_under_way settings case_at cells down up s new host w run (inl same) = subst (IsUnderWay settings case_at cells down up) (sym same) w
claim_under_way settings case_at cells down up s new host w run (inr (n, task, is_up, is)) =
    let handed = record s { judge = hand_out s.judge n task } in
    let number : up_number (hosts_of down up) host ≡ Some n = ap (λ (hosts : List Host). up_number hosts host) (sym w.hosts) ∙ is_up in
    subst (IsUnderWay settings case_at cells down up) (sym is)
    (handed_under_way settings case_at cells down up s n task w (up_after host down up n number) (subst (IsHonestRun settings case_at) is run))

result_under_way : (settings : SettingsValue) (case_at : Task → Option TestCase) (cells : List ℕ) (down up : List (List ℕ)) (s new : State) (j test : ℕ) (kind : Kind)
    → IsUnderWay settings case_at cells down up s → IsHonestRun settings case_at new → ResultDoes s j test kind new → IsUnderWay settings case_at cells down up new
result_under_way settings case_at cells down up s new j test kind w run (inl same) = subst (IsUnderWay settings case_at cells down up) (sym same) w
result_under_way settings case_at cells down up s new j test kind w run (inr is) =
    subst (IsUnderWay settings case_at cells down up) (sym is)
    (counted_under_way settings case_at cells down up s j test kind w (subst (IsHonestRun settings case_at) is run))

-- what a host enters leaves the contest under way
pub host_event : (settings : SettingsValue) (case_at : Task → Option TestCase) (cells : List ℕ) (down up : List (List ℕ)) (s : State) (e : Event)
    → IsHostEvent case_at e → IsUnderWay settings case_at cells down up s → IsUnderWay settings case_at cells down up (farm_step s e).0
host_event settings case_at cells down up s (event.Claim host) is w =
    claim_under_way settings case_at cells down up s (farm_step s (event.Claim host)).0 host w (host_honest settings case_at s (event.Claim host) is w.honest)
    (claim_does s host (up_number s.hosts host) (claim_refusal s.judge.leases (number_or_0 (up_number s.hosts host))) (first_open s.judge))
host_event settings case_at cells down up s (event.Result host j test kind) is w =
    result_under_way settings case_at cells down up s (farm_step s (event.Result host j test kind)).0 j test (remap_of s.judge.rule kind) w
    (host_honest settings case_at s (event.Result host j test kind) is w.honest)
    (result_does s host j test (remap_of s.judge.rule kind) (up_number s.hosts host) (result_refusal s.judge.judgings j test (remap_of s.judge.rule kind)))
host_event settings case_at cells down up s e is w = absurd is
