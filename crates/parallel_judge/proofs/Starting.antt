-- A farm that a contest and its hosts have entered: the contest is under way.
use Rattle.std.proofs.Common.{ℕ, zero, suc, ◌≡◌, ◌+◌, ◌-◌, ◌≤◌, ◌<◌, Bool, true, false, List, [], ◌∷◌, ◌++◌, Option, Some, None, refl, sym, ap, ◌∙◌, subst, arith, length, map, take, drop, slice_get}
use Rattle.std.specs.Prelude.{not, ◌&&◌, All}
use Rattle.std.specs.Str.{bytes_eq}
use Rattle.std.proofs.lemmas.List.{append_assoc, append-nil, length-append}
use Rattle.std.proofs.lemmas.List.Elements.{All-nil}
use Rattle.farm_kinds.specs.declared.outcomes.NamedMode.{NamedMode}
use Rattle.farm_kinds.specs.declared.outcomes.Task.{Task}
use Rattle.farm_kinds.specs.declared.events.Event.TheVariants as event
use Rattle.farm_model.specs.declared.records.Host.{Host}
use Rattle.farm_model.specs.Limits.{max_hosts}
use Rattle.farm_model.specs.State.{State, SettingsValue, start}
use Rattle.farm_model.specs.Farm.{farm_step}
use Rattle.farm_model.specs.Replay.{state_after, given_by, counted_in, AgreesWith}
use Rattle.farm_laws.specs.Laws.{reached}
use Rattle.farm_laws.proofs.Each.{Each, each_append}
use Rattle.farm_laws.proofs.Outputs.{state_after-append}
use Rattle.case_run.specs.Cases.{TestCase}
use Rattle.parallel_judge.specs.Entering.{NamedProblem, NamedSubmission, problem_event, submission_event, ask_event, waiting, contest_events}
use Rattle.parallel_judge.specs.Hosts.{host_names}
use Rattle.parallel_judge.specs.UnderWay.{all_hosts, AreHeldAfter, IsUnderWay}
use Rattle.parallel_judge.specs.Working.{truth_of, AreRunnable, row_lengths}
use Rattle.parallel_judge.proofs.Contests.{counts_none, problems_give_none, submissions_give_none}
use Rattle.parallel_judge.proofs.Deaths.{IsOther, ups, one_more_host, host_dies}
use Rattle.parallel_judge.proofs.Entered.{IsContestOf, contest_enters}

-- ---- the names of hosts

-- each name is another one than those before it
abbrev pub AreNew : List (List ℕ) → List (List ℕ) → Type 0
AreNew up [] = Unit {0}
AreNew up (name ∷ names) = Each (IsOther name) up × AreNew (up ++ name ∷ []) names

abbrev is_new : List (List ℕ) → List ℕ → Bool
is_new [] name = true
is_new (other ∷ up) name = not (bytes_eq other name) && is_new up name

abbrev are_new : List (List ℕ) → List (List ℕ) → Bool
are_new up [] = true
are_new up (name ∷ names) = is_new up name && are_new (up ++ name ∷ []) names

both_true : (a b : Bool) → (a && b) ≡ true → (a ≡ true) × (b ≡ true)
both_true true b e = (refl, e)
both_true false b e = cc

not_true : (b : Bool) → not b ≡ true → b ≡ false
not_true true e = cc
not_true false e = refl

new_is : (up : List (List ℕ)) (name : List ℕ) → is_new up name ≡ true → Each (IsOther name) up
new_is [] name e = tt
new_is (other ∷ up) name e =
    let both = both_true (not (bytes_eq other name)) (is_new up name) e in
    (not_true (bytes_eq other name) both.0, new_is up name both.1)

all_are : (up names : List (List ℕ)) → are_new up names ≡ true → AreNew up names
all_are up [] e = tt
all_are up (name ∷ names) e =
    let both = both_true (is_new up name) (are_new (up ++ name ∷ []) names) e in
    (new_is up name both.0, all_are (up ++ name ∷ []) names both.1)

first_are : (up names : List (List ℕ)) (k : ℕ) → AreNew up names → AreNew up (take k names)
first_are up [] zero h = tt
first_are up [] (suc k) h = tt
first_are up (name ∷ names) zero h = tt
first_are up (name ∷ names) (suc k) h = (h.0, first_are (up ++ name ∷ []) names k h.1)

-- the names of hosts differ
pub names_differ : (hosts : ℕ) → AreNew [] (host_names hosts)
names_differ hosts = first_are [] all_hosts hosts (all_are [] all_hosts refl)

short : {X : Type 0} (k : ℕ) (xs : List X) → length (take k xs) ≤ length xs
short zero [] = omega arith
short (suc k) [] = omega arith
short zero (x ∷ xs) = omega arith
short (suc k) (x ∷ xs) = let rest = short k xs in omega (arith, rest)

pub names_few : (hosts : ℕ) → length (host_names hosts) < max_hosts
names_few hosts = let few = short hosts all_hosts in omega (arith, few)

-- ---- hosts enter

hosts_enter : (s : State) (up names : List (List ℕ)) → s.hosts ≡ ups up → AreNew up names → length up + length names < max_hosts
    → state_after s (map event.Host names) ≡ record s { hosts = ups (up ++ names) }
hosts_enter s up [] hosts new few = ap (λ (hs : List Host). record s { hosts = hs }) (hosts ∙ ap ups (sym (append-nil up)))
hosts_enter s up (name ∷ names) hosts new few =
    let one : (farm_step s (event.Host name)).0 ≡ record s { hosts = ups (up ++ name ∷ []) } = one_more_host s up name hosts new.0 (omega (arith, few)) in
    let len : length (up ++ name ∷ []) ≡ length up + 1 = length-append up (name ∷ []) in
    let rest = hosts_enter (record s { hosts = ups (up ++ name ∷ []) }) (up ++ name ∷ []) names refl new.1 (omega (arith, few, len)) in
    ap (λ (t : State). state_after t (map event.Host names)) one ∙ rest
    ∙ ap (λ (ns : List (List ℕ)). record s { hosts = ups ns }) (append_assoc up (name ∷ []) names)

hosts_give_none : (names : List (List ℕ)) → Each (λ e. given_by e ≡ None) (map event.Host names)
hosts_give_none [] = tt
hosts_give_none (name ∷ names) = (refl, hosts_give_none names)

asks_give_none : (ns : List ℕ) → Each (λ e. given_by e ≡ None) (map ask_event ns)
asks_give_none [] = tt
asks_give_none (n ∷ ns) = (refl, asks_give_none ns)

none_given : (modes : List NamedMode) (ps : List NamedProblem) (xs : List NamedSubmission) (names : List (List ℕ)) → Each (λ e. given_by e ≡ None) (contest_events modes ps xs ++ map event.Host names)
none_given modes ps xs names =
    let both = each_append (λ e. given_by e ≡ None) (map problem_event ps) (map submission_event xs) (problems_give_none ps) (submissions_give_none xs) in
    let contest = each_append (λ e. given_by e ≡ None) (map problem_event ps ++ map submission_event xs) (map ask_event (waiting modes 1 xs)) both (asks_give_none (waiting modes 1 xs)) in
    each_append (λ e. given_by e ≡ None) (contest_events modes ps xs) (map event.Host names) contest (hosts_give_none names)

-- the contest is under way
pub starts : (settings : SettingsValue) (case_at : Task → Option TestCase) (cells : List ℕ) (names : List (List ℕ)) (ps : List NamedProblem) (xs : List NamedSubmission)
    → IsContestOf settings case_at cells ps xs → AreNew [] names → length names < max_hosts
    → IsUnderWay settings case_at cells [] names (reached settings (contest_events settings.modes ps xs ++ map event.Host names))
starts settings case_at cells names ps xs c new few =
    let contest = contest_enters settings case_at cells ps xs c in
    let s = reached settings (contest_events settings.modes ps xs) in
    let es = contest_events settings.modes ps xs ++ map event.Host names in
    let whole : reached settings es ≡ record s { hosts = ups names } =
    state_after-append (start settings) (contest_events settings.modes ps xs) (map event.Host names) ∙ hosts_enter s [] names contest.hosts new (omega (arith, few)) in
    let none : counted_in (start settings) es ≡ [] = counts_none (start settings) es (none_given settings.modes ps xs names) in
    record {
      runnable = subst (λ (t : State). AreRunnable case_at t.judge.judgings) (sym whole) contest.runnable;
      honest = record {
        events = es;
        stands = refl;
        honest = subst (All (AgreesWith settings.rule (truth_of case_at))) (sym none) (All-nil (AgreesWith settings.rule (truth_of case_at)));
      };
      lengths = ap row_lengths whole ∙ contest.lengths;
      hosts = ap (λ (t : State). t.hosts) whole;
      held = subst (λ (t : State). AreHeldAfter 0 (length names) t.judge.leases) (sym whole)
          (subst (AreHeldAfter 0 (length names)) (sym contest.leases) tt);
    }

-- ---- hosts die

dropped_at : {X : Type 0} (xs : List X) (i : ℕ) (x : X) → slice_get xs i ≡ Some x → drop i xs ≡ x ∷ drop (suc i) xs
dropped_at [] i x h = cc
dropped_at (y ∷ xs) zero x h = let same : y ≡ x = cc in ap (λ z. z ∷ xs) same
dropped_at (y ∷ xs) (suc i) x h = dropped_at xs i x h

taken_at : {X : Type 0} (xs : List X) (i : ℕ) (x : X) → slice_get xs i ≡ Some x → take (suc i) xs ≡ take i xs ++ x ∷ []
taken_at [] i x h = cc
taken_at (y ∷ xs) zero x h = let same : y ≡ x = cc in ap (λ z. z ∷ []) same
taken_at (y ∷ xs) (suc i) x h = ap (λ rest. y ∷ rest) (taken_at xs i x h)

among_first : {X : Type 0} (xs : List X) (k i : ℕ) → i < k → slice_get (take k xs) i ≡ slice_get xs i
among_first [] zero i l = refl
among_first [] (suc k) i l = refl
among_first (x ∷ xs) zero i l = absurd (omega (arith, l))
among_first (x ∷ xs) (suc k) zero l = refl
among_first (x ∷ xs) (suc k) (suc i) l = among_first xs k i (omega (arith, l))

-- one more host dies
pub one_more_dies : (settings : SettingsValue) (case_at : Task → Option TestCase) (cells : List ℕ) (hosts i : ℕ) (name : List ℕ) (s new : State) → i < hosts
    → slice_get all_hosts (i + 1 - 1) ≡ Some name → new ≡ (farm_step s (event.Down name)).0
    → IsUnderWay settings case_at cells (take i (host_names hosts)) (drop i (host_names hosts)) s
    → IsUnderWay settings case_at cells (take (i + 1) (host_names hosts)) (drop (i + 1) (host_names hosts)) new
one_more_dies settings case_at cells hosts i name s new less there is w =
    let place : i + 1 - 1 ≡ i = omega arith in
    let one : suc i ≡ i + 1 = omega arith in
    let names = host_names hosts in
    let here : slice_get names i ≡ Some name = among_first all_hosts hosts i less ∙ ap (slice_get all_hosts) (sym place) ∙ there in
    let before : IsUnderWay settings case_at cells (take i names) (name ∷ drop (suc i) names) s =
    subst (λ (up : List (List ℕ)). IsUnderWay settings case_at cells (take i names) up s) (dropped_at names i name here) w in
    let dead = host_dies settings case_at cells (take i names) (drop (suc i) names) name s before in
    subst (λ (n : ℕ). IsUnderWay settings case_at cells (take n names) (drop n names) new) one
    (subst (λ (down : List (List ℕ)). IsUnderWay settings case_at cells down (drop (suc i) names) new) (sym (taken_at names i name here))
    (subst (IsUnderWay settings case_at cells (take i names ++ name ∷ []) (drop (suc i) names)) (sym is) dead))

all_taken : {X : Type 0} (n : ℕ) (xs : List X) → length xs ≤ n → take n xs ≡ xs
all_taken zero [] l = refl
all_taken (suc n) [] l = refl
all_taken zero (x ∷ xs) l = absurd (omega (arith, l))
all_taken (suc n) (x ∷ xs) l = ap (λ rest. x ∷ rest) (all_taken n xs (omega (arith, l)))

all_dropped : {X : Type 0} (n : ℕ) (xs : List X) → length xs ≤ n → drop n xs ≡ []
all_dropped zero [] l = refl
all_dropped (suc n) [] l = refl
all_dropped zero (x ∷ xs) l = absurd (omega (arith, l))
all_dropped (suc n) (x ∷ xs) l = all_dropped n xs (omega (arith, l))

no_more : {X : Type 0} (k : ℕ) (xs : List X) → length (take k xs) ≤ k
no_more zero [] = omega arith
no_more (suc k) [] = omega arith
no_more zero (x ∷ xs) = omega arith
no_more (suc k) (x ∷ xs) = let rest = no_more k xs in omega (arith, rest)

-- all of them have died
pub all_die : (settings : SettingsValue) (case_at : Task → Option TestCase) (cells : List ℕ) (hosts i : ℕ) (s : State) → hosts ≤ i
    → IsUnderWay settings case_at cells (take i (host_names hosts)) (drop i (host_names hosts)) s → IsUnderWay settings case_at cells (host_names hosts) [] s
all_die settings case_at cells hosts i s all w =
    let few = no_more hosts all_hosts in
    let within : length (host_names hosts) ≤ i = omega (arith, few, all) in
    subst (λ (up : List (List ℕ)). IsUnderWay settings case_at cells (host_names hosts) up s) (all_dropped i (host_names hosts) within)
    (subst (λ (down : List (List ℕ)). IsUnderWay settings case_at cells down (drop i (host_names hosts)) s) (all_taken i (host_names hosts) within) w)
