-- The hosts die one after the other, and then the caller is a host.
use Rattle.std.proofs.Common.{ℕ, zero, suc, ◌≡◌, ◌+◌, ◌-◌, ◌<◌, List, [], ◌∷◌, ◌++◌, Option, Some, None, Bool, true, false, cond, eqb, refl, sym, ap, ◌∙◌, subst, arith, length, map, set, slice_get, nat_lt}
use Rattle.std.specs.Prelude.{not, ◌&&◌, ◌≢◌, All, is_some, is_none, IsSome}
use Rattle.std.specs.Option.{option_map}
use Rattle.std.specs.List.{position_or_len}
use Rattle.std.specs.Str.{bytes_eq}
use Rattle.std.proofs.lemmas.List.{length-append, append_assoc, append-nil}
use Rattle.std.proofs.lemmas.List.Elements.{All-nil}
use Rattle.std.proofs.lemmas.Bool.Decides.{nat_tests}
use Rattle.std.proofs.lemmas.Slice.Eq.{bytes_eq-Decides}
use Rattle.farm_kinds.specs.declared.outcomes.Task.{Task}
use Rattle.farm_kinds.specs.declared.events.Event.{Event}
use Rattle.farm_kinds.specs.declared.events.Event.TheVariants as event
use Rattle.farm_kinds.specs.declared.events.Reply.{Reply}
use Rattle.farm_kinds.specs.declared.events.Reply.TheVariants as reply
use Rattle.farm_model.specs.declared.records.Host.{Host}
use Rattle.farm_model.specs.declared.records.Lease.{Lease}
use Rattle.farm_model.specs.Limits.{max_hosts}
use Rattle.farm_model.specs.Numbered.{with_item, number_or_0}
use Rattle.farm_model.specs.Refusing.{when, unless, first_of, refused_or}
use Rattle.farm_model.specs.Refusals.{is_full, host_refusal}
use Rattle.farm_model.specs.Changes.{by_judge, host_as, hosts_with, with_host, with_host_down}
use Rattle.farm_model.specs.Leases.{without_host}
use Rattle.farm_model.specs.Judge.{judge_down}
use Rattle.farm_model.specs.State.{State, SettingsValue, up_number, host_number}
use Rattle.farm_model.specs.Farm.{farm_step}
use Rattle.farm_model.specs.Replay.{given_by, AgreesWith}
use Rattle.farm_laws.proofs.Each.{Each}
use Rattle.case_run.specs.Cases.{TestCase}
use Rattle.parallel_judge.specs.Working.{truth_of, IsHonestRun, IsEntered}
use Rattle.parallel_judge.specs.UnderWay.{hosts_of, AreHeldAfter, IsUnderWay}
use Rattle.parallel_judge.proofs.Runs.{goes_on}
use Rattle.parallel_judge.proofs.Contests.{does, counts_none, none_found, less_than}
use Rattle.parallel_judge.proofs.HostEvents.{passed_over, number_after, down_fails, mapped_length}

abbrev pub downs : List (List ℕ) → List Host
downs names = map (λ name. host_as name false) names

abbrev pub ups : List (List ℕ) → List Host
ups names = map (λ name. host_as name true) names

abbrev IsUp : List ℕ → Host → Bool
IsUp name host = bytes_eq host.name name && host.up

-- an event that gives no result
pub counts_nothing : (settings : SettingsValue) (case_at : Task → Option TestCase) (s : State) (e : Event) → given_by e ≡ None
    → IsHonestRun settings case_at s → IsHonestRun settings case_at (farm_step s e).0
counts_nothing settings case_at s e none run =
    goes_on settings case_at s (e ∷ []) run
    (subst (All (AgreesWith settings.rule (truth_of case_at))) (sym (counts_none s (e ∷ []) (none, tt))) (All-nil (AgreesWith settings.rule (truth_of case_at))))

-- ---- the number of the first host that is up

itself : (name : List ℕ) → bytes_eq name name ≡ true
itself name = (bytes_eq-Decides name name).1 refl

is_below : (k n : ℕ) → k < n → nat_lt k n ≡ true
is_below k n l = grind (arith, nat_tests, l)

first_up_place : (name : List ℕ) (down up : List (List ℕ)) → position_or_len (IsUp name) (hosts_of down (name ∷ up)) ≡ length down
first_up_place name down up =
    passed_over (IsUp name) (downs down) (ups (name ∷ up)) (down_fails name down)
    ∙ ap (λ b. length (downs down) + cond (not (b && true)) (1 + position_or_len (IsUp name) (ups up)) 0) (itself name)
    ∙ (let len = mapped_length (λ n. host_as n false) down in omega (arith, len))

hosts_length : (down up : List (List ℕ)) → length (hosts_of down up) ≡ length down + length up
hosts_length down up =
    let whole = length-append (downs down) (ups up) in
    let d = mapped_length (λ n. host_as n false) down in
    let u = mapped_length (λ n. host_as n true) up in
    omega (arith, whole, d, u)

pub first_up : (name : List ℕ) (down up : List (List ℕ)) → up_number (hosts_of down (name ∷ up)) name ≡ Some (length down + 1)
first_up name down up =
    let len = hosts_length down (name ∷ up) in
    let inside : nat_lt (length down) (length (hosts_of down (name ∷ up))) ≡ true = is_below (length down) (length (hosts_of down (name ∷ up))) (omega (arith, len)) in
    ap (λ k. option_map (λ i. i + 1) (cond (nat_lt k (length (hosts_of down (name ∷ up)))) (Some k) None)) (first_up_place name down up)
    ∙ ap (λ b. option_map (λ i. i + 1) (cond b (Some (length down)) None)) inside

-- ---- the first host that is up dies

set_after : {X : Type 0} (xs ys : List X) (x y : X) (n : ℕ) → n ≡ length xs → set (xs ++ x ∷ ys) n y ≡ xs ++ y ∷ ys
set_after [] ys x y n e = ap (λ k. set (x ∷ ys) k y) e
set_after (z ∷ xs) ys x y zero e = cc
set_after (z ∷ xs) ys x y (suc n) e = ap (λ rest. z ∷ rest) (set_after xs ys x y n (omega (arith, e)))

downs_more : (down : List (List ℕ)) (name : List ℕ) → downs (down ++ name ∷ []) ≡ downs down ++ host_as name false ∷ []
downs_more [] name = refl
downs_more (n ∷ down) name = ap (λ rest. host_as n false ∷ rest) (downs_more down name)

one_more_down : (name : List ℕ) (down up : List (List ℕ)) → with_item (hosts_of down (name ∷ up)) (length down + 1) (host_as name false) ≡ hosts_of (down ++ name ∷ []) up
one_more_down name down up =
    let len = mapped_length (λ n. host_as n false) down in
    set_after (downs down) (ups up) (host_as name true) (host_as name false) (length down + 1 - 1) (omega (arith, len))
    ∙ sym (append_assoc (downs down) (host_as name false ∷ []) (ups up))
    ∙ ap (λ (hosts : List Host). hosts ++ ups up) (sym (downs_more down name))

-- the leases of the others
others_held : (a b c d : ℕ) (leases : List Lease) → c ≡ a + 1 → c + d ≡ a + b → AreHeldAfter a b leases → AreHeldAfter c d (without_host leases (a + 1))
others_held a b c d [] more all h = tt
others_held a b c d (l ∷ leases) more all h =
    elim (eqb l.host (a + 1)) as (λ e. eqb l.host (a + 1) ≡ e → AreHeldAfter c d (cond (not e) (l ∷ without_host leases (a + 1)) (without_host leases (a + 1)))) [
      | true ↦ λ e. others_held a b c d leases more all h.1
      | false ↦ λ e.
          let other : l.host ≢ a + 1 = (λ same. let no : true ≡ false = sym (grind (arith, nat_tests, same)) ∙ e in cc) in
          let low = h.0.0 in
          let high = h.0.1 in
          ((omega (arith, low, more, other), omega (arith, high, all)), others_held a b c d leases more all h.1)
    ] refl

dies : (s : State) (name : List ℕ) (n : ℕ) (up : Option ℕ) → up ≡ Some n
    → refused_or s (unless (is_some up) (reply.NoHost name)) (by_judge (with_host_down s name (number_or_0 up)) reply.Ended (judge_down s.judge (number_or_0 up)))
    ≡ by_judge (with_host_down s name n) reply.Ended (judge_down s.judge n)
dies s name n None e = cc
dies s name n (Some m) e = let same : m ≡ n = cc in ap (λ k. by_judge (with_host_down s name k) reply.Ended (judge_down s.judge k)) same

pub host_dies : (settings : SettingsValue) (case_at : Task → Option TestCase) (cells : List ℕ) (down up : List (List ℕ)) (name : List ℕ) (s : State)
    → IsUnderWay settings case_at cells down (name ∷ up) s → IsUnderWay settings case_at cells (down ++ name ∷ []) up (farm_step s (event.Down name)).0
host_dies settings case_at cells down up name s w =
    let n = length down + 1 in
    let number : up_number s.hosts name ≡ Some n = ap (λ (hosts : List Host). up_number hosts name) w.hosts ∙ first_up name down up in
    let is : farm_step s (event.Down name) ≡ by_judge (with_host_down s name n) reply.Ended (judge_down s.judge n) = dies s name n (up_number s.hosts name) number in
    let run = counts_nothing settings case_at s (event.Down name) refl w.honest in
    let more : length (down ++ name ∷ []) ≡ length down + 1 = length-append down (name ∷ []) in
    subst (λ (p : State × Reply). IsUnderWay settings case_at cells (down ++ name ∷ []) up p.0) (sym is) (record {
      runnable = w.runnable;
      honest = subst (λ (p : State × Reply). IsHonestRun settings case_at p.0) is run;
      lengths = w.lengths;
      hosts = ap (λ (hosts : List Host). with_item hosts n (host_as name false)) w.hosts ∙ one_more_down name down up;
      held = others_held (length down) (length (name ∷ up)) (length (down ++ name ∷ [])) (length up) s.judge.leases more (let all : length (down ++ name ∷ []) + length up ≡ length down + length (name ∷ up) = omega (arith, more) in all) w.held;
    })

-- ---- all have died

none_held : (a : ℕ) (leases : List Lease) → AreHeldAfter a 0 leases → leases ≡ []
none_held a [] h = refl
none_held a (l ∷ leases) h = let low = h.0.0 in let high = h.0.1 in absurd (omega (arith, low, high))

-- ---- a host enters

place_of_up : (name : List ℕ) (hosts : List Host) (i : ℕ) → slice_get hosts i ≡ Some (host_as name true) → position_or_len (IsUp name) hosts < length hosts
place_of_up name [] i at = cc
place_of_up name (h ∷ hosts) zero at =
    let same : h ≡ host_as name true = cc in
    let here : IsUp name h ≡ true = ap (IsUp name) same ∙ ap (λ b. b && true) (itself name) in
    let first : position_or_len (IsUp name) (h ∷ hosts) ≡ 0 = ap (λ b. cond (not b) (1 + position_or_len (IsUp name) hosts) 0) here in
    omega (arith, first)
place_of_up name (h ∷ hosts) (suc i) at =
    elim (IsUp name h) as (λ b. cond (not b) (1 + position_or_len (IsUp name) hosts) 0 < length (h ∷ hosts)) [
      | true ↦ omega arith
      | false ↦ (let rest = place_of_up name hosts i at in omega (arith, rest))
    ]

-- a host that is up at some place is found
up_at : (name : List ℕ) (hosts : List Host) (i : ℕ) → slice_get hosts i ≡ Some (host_as name true) → IsSome (up_number hosts name)
up_at name hosts i at =
    ap (λ b. is_some (option_map (λ i. i + 1) (cond b (Some (position_or_len (IsUp name) hosts)) None)))
    (is_below (position_or_len (IsUp name) hosts) (length hosts) (place_of_up name hosts i at))

last_at : {X : Type 0} (xs : List X) (x : X) → slice_get (xs ++ x ∷ []) (length xs) ≡ Some x
last_at [] x = refl
last_at (y ∷ xs) x = last_at xs x

there_after : {X : Type 0} (xs : List X) (i : ℕ) (x : X) → i < length xs → slice_get (set xs i x) i ≡ Some x
there_after [] i x l = absurd (omega (arith, l))
there_after (y ∷ xs) zero x l = refl
there_after (y ∷ xs) (suc i) x l = there_after xs i x (omega (arith, l))

-- a host that was entered is up
up_then : (name : List ℕ) (hosts : List Host) (place : Option ℕ) → ((n : ℕ) → place ≡ Some n → n - 1 < length hosts) → IsSome (up_number (hosts_with hosts name place) name)
up_then name hosts None inside = up_at name (hosts ++ host_as name true ∷ []) (length hosts) (last_at hosts (host_as name true))
up_then name hosts (Some n) inside = up_at name (set hosts (n - 1) (host_as name true)) (n - 1) (there_after hosts (n - 1) (host_as name true) (inside n refl))

-- where none of the few hosts is up, a host is not refused
not_refused : (hosts : List Host) (name : List ℕ) → up_number hosts name ≡ None → length hosts < max_hosts → host_refusal hosts name ≡ None
not_refused hosts name none few =
    ap (λ o. first_of (when (is_some o) (reply.Known name) ∷ when (is_none (host_number hosts name) && is_full hosts max_hosts) (reply.Full max_hosts) ∷ [])) none
    ∙ ap (λ b. first_of (when (is_none (host_number hosts name) && b) (reply.Full max_hosts) ∷ [])) (less_than max_hosts (length hosts) few)
    ∙ never_full (is_none (host_number hosts name)) where
      never_full : (b : Bool) → first_of (when (b && false) (reply.Full max_hosts) ∷ []) ≡ None
      never_full true = refl
      never_full false = refl

host_enters : (s : State) (name : List ℕ) → host_refusal s.hosts name ≡ None → (farm_step s (event.Host name)).0 ≡ with_host s name
host_enters s name none = ap (λ (p : State × Reply). p.0) (does s (event.Host name) none)

-- the caller is up, no task is held, and each judging can be run
pub caller_enters : (settings : SettingsValue) (case_at : Task → Option TestCase) (cells : List ℕ) (down : List (List ℕ)) (name : List ℕ) (s : State)
    → IsUnderWay settings case_at cells down [] s → length down < max_hosts → IsEntered settings case_at cells name (farm_step s (event.Host name)).0
caller_enters settings case_at cells down name s w few =
    let whole : downs down ++ [] ≡ downs down = append-nil (downs down) in
    let hosts : s.hosts ≡ downs down = w.hosts ∙ whole in
    let none_up : up_number s.hosts name ≡ None = ap (λ (hs : List Host). up_number hs name) hosts ∙ ap (option_map (λ i. i + 1)) (none_found (IsUp name) (downs down) (down_fails name down)) in
    let len : length s.hosts ≡ length down = ap (λ (hs : List Host). length hs) hosts ∙ mapped_length (λ n. host_as n false) down in
    let is : (farm_step s (event.Host name)).0 ≡ with_host s name = host_enters s name (not_refused s.hosts name none_up (omega (arith, len, few))) in
    let run = counts_nothing settings case_at s (event.Host name) refl w.honest in
    let up : IsSome (up_number (hosts_with s.hosts name (host_number s.hosts name)) name) =
    up_then name s.hosts (host_number s.hosts name) (λ n e. let after = number_after (λ (h : Host). bytes_eq h.name name) [] s.hosts n tt e in let low = after.0 in let high = after.1 in omega (arith, low, high)) in
    subst (IsEntered settings case_at cells name) (sym is) (record {
      ready = record { up = up; free = none_held (length down) s.judge.leases w.held; runnable = w.runnable };
      honest = subst (IsHonestRun settings case_at) is run;
      lengths = w.lengths;
    })

-- ---- hosts of other names enter, one after the other

abbrev pub IsOther : List ℕ → List ℕ → Type 0
IsOther name other = bytes_eq other name ≡ false

ups_more : (up : List (List ℕ)) (name : List ℕ) → ups (up ++ name ∷ []) ≡ ups up ++ host_as name true ∷ []
ups_more [] name = refl
ups_more (n ∷ up) name = ap (λ rest. host_as n true ∷ rest) (ups_more up name)

none_named : (name : List ℕ) (up : List (List ℕ)) → Each (IsOther name) up → Each (λ (h : Host). bytes_eq h.name name ≡ false) (ups up)
none_named name [] h = tt
none_named name (n ∷ up) h = (h.0, none_named name up h.1)

none_up : (name : List ℕ) (up : List (List ℕ)) → Each (IsOther name) up → Each (λ (h : Host). IsUp name h ≡ false) (ups up)
none_up name [] h = tt
none_up name (n ∷ up) h = (ap (λ b. b && true) h.0, none_up name up h.1)

pub one_more_host : (s : State) (up : List (List ℕ)) (name : List ℕ) → s.hosts ≡ ups up → Each (IsOther name) up → length up < max_hosts
    → (farm_step s (event.Host name)).0 ≡ record s { hosts = ups (up ++ name ∷ []) }
one_more_host s up name hosts others few =
    let unknown : host_number s.hosts name ≡ None = ap (λ (hs : List Host). host_number hs name) hosts ∙ ap (option_map (λ i. i + 1)) (none_found (λ (h : Host). bytes_eq h.name name) (ups up) (none_named name up others)) in
    let none : up_number s.hosts name ≡ None = ap (λ (hs : List Host). up_number hs name) hosts ∙ ap (option_map (λ i. i + 1)) (none_found (IsUp name) (ups up) (none_up name up others)) in
    let len : length s.hosts ≡ length up = ap (λ (hs : List Host). length hs) hosts ∙ mapped_length (λ n. host_as n true) up in
    host_enters s name (not_refused s.hosts name none (omega (arith, len, few)))
    ∙ ap (λ o. record s { hosts = hosts_with s.hosts name o }) unknown
    ∙ ap (λ (hs : List Host). record s { hosts = hs ++ host_as name true ∷ [] }) hosts
    ∙ ap (λ (hs : List Host). record s { hosts = hs }) (sym (ups_more up name))
