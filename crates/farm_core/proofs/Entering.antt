-- New versions of problems, and hosts that come and go.
use Rattle.std.proofs.Common.{ℕ, ◌≡◌, ◌+◌, ◌-◌, ◌<◌, ◌≤◌, List, [], ◌∷◌, ◌++◌, Option, Some, None, Bool, true, false, refl, sym, ap, ◌∙◌, arith, length, get_or, set}
use Rattle.std.specs.Prelude.{nat_le, IsTrue}
use Rattle.std.specs.List.{position}
use Rattle.std.specs.Option.{is_none, option_map}
use Rattle.std.specs.Str.{bytes_eq}
use Rattle.std.proofs.lemmas.Bool.Decides.{nat_tests}
use Rattle.farm_kinds.specs.declared.events.Event.TheVariants as event
use Rattle.farm_kinds.specs.declared.events.Reply.TheVariants as reply
use Rattle.farm_model.specs.declared.records.Problem.{Problem}
use Rattle.farm_model.specs.Numbered.{item_of, with_item, with_change, change_item, number_or_0}
use Rattle.farm_model.specs.State.{State, problem_number, host_number, up_number}
use Rattle.farm_model.specs.Refusing.{first_of, when, unless}
use Rattle.farm_model.specs.Refusals.{is_test_count, is_problem, refusal_of, replace_refusal, version_of}
use Rattle.farm_model.specs.Changes.{next_version, with_version, host_as}
use Rattle.farm_model.specs.Farm.{Stepped}
use Rattle.judging_core.proofs.Changed.{item_there}
use Rattle.farm_core.proofs.Stepping.{stepped_by}

-- Versions

test_count : (tests : ℕ) → 1 ≤ tests → tests ≤ 1000 → is_test_count tests ≡ true
test_count tests low high = grind (arith, nat_tests)

not_full : (limit n : ℕ) → n < limit → nat_le limit n ≡ false
not_full limit n h = grind (arith, nat_tests)

is_full : (limit n : ℕ) → limit ≤ n → nat_le limit n ≡ true
is_full limit n h = grind (arith, nat_tests)

-- the item at a place has the number after it
at_place : {X : Type 0} (xs : List X) (place : ℕ) (x : X) → place < length xs → x ≡ get_or xs place x → item_of xs (place + 1) ≡ Some x
at_place xs place x lt e = let same : place + 1 - 1 ≡ place = omega arith in item_there xs (place + 1) x (omega arith) (omega arith) (e ∙ ap (λ i. get_or xs i x) (sym same))

set_place : {X : Type 0} (xs : List X) (place : ℕ) (x : X) → set xs place x ≡ with_item xs (place + 1) x
set_place xs place x = let same : place ≡ place + 1 - 1 = omega arith in ap (λ i. set xs i x) same

-- the version of the problem at a place
pub version_there : (problems : List Problem) (place : ℕ) (p : Problem) → place < length problems → p ≡ get_or problems place p → version_of problems (place + 1) ≡ p.version
version_there problems place p lt here = ap (λ o. number_or_0 (option_map (λ problem. problem.version) o)) (at_place problems place p lt here)

pub refuses_version : (problems : List Problem) (name : List ℕ) (tests place : ℕ)
    → problem_number problems name ≡ Some (place + 1) → 1 ≤ tests → tests ≤ 1000 → 1000 ≤ version_of problems (place + 1) → replace_refusal problems name tests ≡ Some (reply.Full 1000)
refuses_version problems name tests place found low high full =
    rw (test_count tests low high, found, is_full 1000 (version_of problems (place + 1)) full) refl

pub takes_version : (problems : List Problem) (name : List ℕ) (tests place : ℕ)
    → problem_number problems name ≡ Some (place + 1) → 1 ≤ tests → tests ≤ 1000 → version_of problems (place + 1) < 1000 → replace_refusal problems name tests ≡ None
takes_version problems name tests place found low high few =
    rw (test_count tests low high, found, not_full 1000 (version_of problems (place + 1)) few) refl

third : {R : Type 0} (a b : Option R) (full : Bool) (r : R) → first_of (a ∷ b ∷ when full r ∷ []) ≡ None → full ≡ false
third None None true r e = cc
third None None false r e = refl
third None (Some x) full r e = cc
third (Some x) b full r e = cc

below : (limit n : ℕ) → nat_le limit n ≡ false → n < limit
below limit n h = grind (arith, nat_tests)

-- a problem whose replacement is not refused has a version below the limit
pub version_few : (problems : List Problem) (name : List ℕ) (tests place : ℕ)
    → problem_number problems name ≡ Some (place + 1) → replace_refusal problems name tests ≡ None → version_of problems (place + 1) < 1000
version_few problems name tests place found h =
    let full = third (unless (is_test_count tests) (reply.BadTests tests)) (unless (is_problem problems name) (reply.NoProblem name)) _ _ h in
    below 1000 (version_of problems (place + 1)) (sym (ap (λ o. nat_le 1000 (version_of problems (number_or_0 o))) found) ∙ full)

-- the problem at the place that the name has is in its next version
pub version_written : (s : State) (name : List ℕ) (tests place : ℕ) (p : Problem) (new : State)
    → problem_number s.problems name ≡ Some (place + 1) → place < length s.problems → p ≡ get_or s.problems place p
    → new ≡ record s { problems = set s.problems place (next_version tests p) } → new ≡ with_version s (number_or_0 (problem_number s.problems name)) tests
version_written s name tests place p new found lt here change =
    let changes : with_change s.problems (place + 1) (next_version tests) ≡ set s.problems place (next_version tests p)
    = ap (change_item s.problems (place + 1) (next_version tests)) (at_place s.problems place p lt here) ∙ sym (set_place s.problems place (next_version tests p)) in
    change ∙ sym (ap (λ o. with_version s (number_or_0 o) tests) found ∙ ap (λ (problems : List Problem). record s { problems = problems }) changes)

-- Hosts

pub host_back : (s : State) (name : List ℕ) (place : ℕ) (new : State)
    → up_number s.hosts name ≡ None → position (λ host. bytes_eq host.name name) s.hosts ≡ Some place
    → new ≡ record s { hosts = set s.hosts place (host_as name true) } → Stepped s (event.Host name) new (reply.Host name)
host_back s name place new down found e =
    stepped_by s (event.Host name) new (reply.Host name) (λ no. cc)
    (rw (down, found) (ap (λ hosts. (record s { hosts = hosts }, reply.Host name)) (sym (set_place s.hosts place (host_as name true))) ∙ ap (λ t. (t, reply.Host name)) (sym e)))

pub host_full : (s : State) (name : List ℕ) → up_number s.hosts name ≡ None → position (λ host. bytes_eq host.name name) s.hosts ≡ None
    → 1000 ≤ length s.hosts → Stepped s (event.Host name) s (reply.Full 1000)
host_full s name down new full = stepped_by s (event.Host name) s (reply.Full 1000) (λ no. cc) (rw (down, new, is_full 1000 (length s.hosts) full) refl)

pub host_added : (s : State) (name : List ℕ) (new : State) → up_number s.hosts name ≡ None → position (λ host. bytes_eq host.name name) s.hosts ≡ None
    → length s.hosts < 1000 → new ≡ record s { hosts = s.hosts ++ host_as name true ∷ [] } → Stepped s (event.Host name) new (reply.Host name)
host_added s name new down none few e =
    stepped_by s (event.Host name) new (reply.Host name) (λ no. cc) (rw (down, none, not_full 1000 (length s.hosts) few) (ap (λ t. (t, reply.Host name)) (sym e)))

-- a new host may want memory
pub host_wanting : (s : State) (name : List ℕ) (new : State) → up_number s.hosts name ≡ None → position (λ host. bytes_eq host.name name) s.hosts ≡ None
    → length s.hosts < 1000 → new ≡ s → Stepped s (event.Host name) new reply.NoMemory
host_wanting s name new down none few e =
    let takes : IsTrue (is_none (host_number s.hosts name)) = rw none refl in
    let let_in : refusal_of s (event.Host name) ≡ None = rw (down, none, not_full 1000 (length s.hosts) few) refl in
    record {
      wanted = λ _. record { takes = takes; accepted = let_in };
      kept = λ _. e;
      state = λ other. absurd (other refl);
      answer = λ other. absurd (other refl);
    }
