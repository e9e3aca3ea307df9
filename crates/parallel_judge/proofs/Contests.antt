-- What a farm is once a contest has entered it.
use Rattle.std.proofs.Common.{ℕ, zero, suc, ◌≡◌, ◌+◌, ◌-◌, ◌<◌, ◌≤◌, List, [], ◌∷◌, ◌++◌, Option, Some, None, Bool, true, false, cond, refl, sym, ap, ◌∙◌, subst, arith, length, map, slice_get, nat_le, nat_lt, take}
use Rattle.std.specs.Prelude.{not, is_some}
use Rattle.std.specs.Option.{option_map, unwrap_or}
use Rattle.std.specs.List.{position, position_or_len, find, cons_option}
use Rattle.std.specs.Str.{bytes_eq}
use Rattle.std.proofs.lemmas.List.{append_assoc, append-nil, length-append}
use Rattle.std.proofs.lemmas.Bool.Decides.{nat_tests}
use Rattle.farm_kinds.specs.declared.outcomes.Class.TheVariants.{Normal}
use Rattle.farm_kinds.specs.declared.events.Event.{Event}
use Rattle.farm_kinds.specs.declared.events.Reply.{Reply}
use Rattle.farm_kinds.specs.declared.events.Reply.TheVariants as reply
use Rattle.farm_model.specs.declared.records.Problem.{Problem}
use Rattle.farm_model.specs.Numbered.{number_or_0}
use Rattle.farm_model.specs.Limits.{max_problems, max_submissions, max_judgings}
use Rattle.farm_model.specs.Refusing.{when, unless, first_of, refused_or}
use Rattle.farm_model.specs.Refusals.{is_test_count, refusal_of}
use Rattle.farm_model.specs.Changes.{accepted, cells_for, tests_of, mode_for, asked_for, new_problem}
use Rattle.farm_model.specs.Judgings.{Judging, empty_judging}
use Rattle.farm_model.specs.Judge.{add_judgings}
use Rattle.farm_model.specs.State.{State, problem_number}
use Rattle.farm_model.specs.Farm.{farm_step}
use Rattle.farm_model.specs.Replay.{state_after, reply_to, given_by, counted_by, counted_in}
use Rattle.farm_laws.proofs.Items.{item_by}
use Rattle.farm_laws.proofs.Each.{Each, each_append}
use Rattle.parallel_judge.specs.Entering.{NamedProblem, NamedSubmission, problem_event, submission_event}

-- ---- an accepted event

-- it does what it is to do
pub does : (s : State) (e : Event) → refusal_of s e ≡ None → farm_step s e ≡ accepted s e
does s e none = ap (λ o. refused_or s o (accepted s e)) none

three_pass : {R : Type 0} (a b c : Bool) (x y z : R) → a ≡ true → b ≡ false → c ≡ false → first_of (unless a x ∷ when b y ∷ when c z ∷ []) ≡ None
three_pass true false false x y z p q r = refl
three_pass true false true x y z p q r = cc
three_pass true true c x y z p q r = cc
three_pass false b c x y z p q r = cc

pub not_there : {X : Type 0} (o : Option X) → o ≡ None → is_some o ≡ false
not_there None e = refl
not_there (Some x) e = cc

pub less_than : (limit n : ℕ) → n < limit → nat_le limit n ≡ false
less_than limit n l = grind (arith, nat_tests, l)

-- the events of one more item
pub one_more : {X : Type 0} (f : X → Event) (s : State) (xs : List X) (i : ℕ) (x : X) → slice_get xs i ≡ Some x
    → state_after s (map f (take (suc i) xs)) ≡ (farm_step (state_after s (map f (take i xs))) (f x)).0
one_more f s [] i x h = cc
one_more f s (y ∷ ys) zero x h = let same : y ≡ x = cc in ap (λ z. (farm_step s (f z)).0) same
one_more f s (y ∷ ys) (suc i) x h = one_more f (farm_step s (f y)).0 ys i x h

-- ---- problems

abbrev pub first_version : State → NamedProblem → Problem
first_version s p = new_problem s p.name p.tests

-- none of the problems has its name
abbrev pub IsNew : List Problem → NamedProblem → Type 0
IsNew problems p = Each (λ (problem : Problem). bytes_eq problem.name p.name ≡ false) problems

-- no later problem has the name of an earlier one
abbrev pub Apart : List NamedProblem → Type 0
Apart [] = Unit {0}
Apart (p ∷ ps) = Each (λ (q : NamedProblem). bytes_eq p.name q.name ≡ false) ps × Apart ps

abbrev pub HasTests : NamedProblem → Type 0
HasTests p = is_test_count p.tests ≡ true

-- where no item passes the test, none is found
fails_to_the_end : {X : Type 0} (test : X → Bool) (xs : List X) → Each (λ x. test x ≡ false) xs → position_or_len test xs ≡ length xs
fails_to_the_end test [] h = refl
fails_to_the_end test (x ∷ xs) h = ap (λ b. cond (not b) (1 + position_or_len test xs) 0) h.0 ∙ (let rest = fails_to_the_end test xs h.1 in omega (arith, rest))

not_less : (n : ℕ) → nat_lt n n ≡ false
not_less n = grind (arith, nat_tests)

pub none_found : {X : Type 0} (test : X → Bool) (xs : List X) → Each (λ x. test x ≡ false) xs → position test xs ≡ None
none_found test xs h =
    ap (λ n. cond (nat_lt n (length xs)) (Some n) None) (fails_to_the_end test xs h) ∙ ap (λ b. cond b (Some (length xs)) None) (not_less (length xs))

unnumbered : (problems : List Problem) (p : NamedProblem) → IsNew problems p → problem_number problems p.name ≡ None
unnumbered problems p new = ap (option_map (λ i. i + 1)) (none_found (λ (problem : Problem). bytes_eq problem.name p.name) problems new)

still_new : (s : State) (problems : List Problem) (p q : NamedProblem) → IsNew problems q → bytes_eq p.name q.name ≡ false → IsNew (problems ++ first_version s p ∷ []) q
still_new s problems p q new other =
    each_append (λ (problem : Problem). bytes_eq problem.name q.name ≡ false) problems (first_version s p ∷ []) new (other, tt)

all_still_new : (s : State) (problems : List Problem) (p : NamedProblem) (qs : List NamedProblem) → Each (IsNew problems) qs
    → Each (λ (q : NamedProblem). bytes_eq p.name q.name ≡ false) qs → Each (IsNew (problems ++ first_version s p ∷ [])) qs
all_still_new s problems p [] new others = tt
all_still_new s problems p (q ∷ qs) new others = (still_new s problems p q new.0 others.0, all_still_new s problems p qs new.1 others.1)

-- problems were added, and nothing else that judgings see
pub record HasProblems (s t : State) (more : List Problem) : Type 0 where
  pub judge : t.judge ≡ s.judge
  pub hosts : t.hosts ≡ s.hosts
  pub submissions : t.submissions ≡ s.submissions
  pub problems : t.problems ≡ s.problems ++ more

problem_enters : (s : State) (p : NamedProblem) → HasTests p → IsNew s.problems p → length s.problems < max_problems
    → farm_step s (problem_event p) ≡ accepted s (problem_event p)
problem_enters s p tests new few =
    does s (problem_event p) (three_pass (is_test_count p.tests) (is_some (problem_number s.problems p.name)) (nat_le max_problems (length s.problems))
    (reply.BadTests p.tests) (reply.Known p.name) (reply.Full max_problems) tests (not_there (problem_number s.problems p.name) (unnumbered s.problems p new)) (less_than max_problems (length s.problems) few))

pub problems_enter : (s : State) (ps : List NamedProblem) → Each HasTests ps → Each (IsNew s.problems) ps → Apart ps
    → length s.problems + length ps ≤ max_problems → HasProblems s (state_after s (map problem_event ps)) (map (first_version s) ps)
problems_enter s [] tests new apart few = record { judge = refl; hosts = refl; submissions = refl; problems = sym (append-nil s.problems) }
problems_enter s (p ∷ ps) tests new apart few =
    let one = problem_enters s p tests.0 new.0 (omega (arith, few)) in
    let s1 : State = (accepted s (problem_event p)).0 in
    let grown : length s1.problems ≡ length s.problems + 1 = length-append s.problems (first_version s p ∷ []) in
    let rest = problems_enter s1 ps tests.1 (all_still_new s s.problems p ps new.1 apart.0) apart.1 (omega (arith, few, grown)) in
    let done : HasProblems s (state_after s1 (map problem_event ps)) (map (first_version s) (p ∷ ps)) = record {
      judge = rest.judge;
      hosts = rest.hosts;
      submissions = rest.submissions;
      problems = rest.problems ∙ append_assoc s.problems (first_version s p ∷ []) (map (first_version s) ps);
    } in
    subst (λ (x : State × Reply). HasProblems s (state_after x.0 (map problem_event ps)) (map (first_version s) (p ∷ ps))) (sym one) done

-- ---- submissions

abbrev pub IsKnown : List Problem → NamedSubmission → Type 0
IsKnown problems x = is_some (problem_number problems x.problem) ≡ true

abbrev pub cells_of_named : List Problem → NamedSubmission → ℕ
cells_of_named problems x = cells_for problems (number_or_0 (problem_number problems x.problem)) x.broken

-- the current judging of a new submission
abbrev pub judging_named : List Problem → NamedSubmission → Judging
judging_named problems x = let problem = number_or_0 (problem_number problems x.problem) in
    empty_judging Normal (cells_for problems problem x.broken) (mode_for problems problem) (asked_for problems problem)

-- submissions were added, each with its judging
pub record HasSubmissions (s t : State) (new : List Judging) : Type 0 where
  pub hosts : t.hosts ≡ s.hosts
  pub problems : t.problems ≡ s.problems
  pub judge : t.judge ≡ add_judgings s.judge new

pub record HasRoom (s : State) (n : ℕ) : Type 0 where
  pub submissions : length s.submissions + n ≤ max_submissions
  pub judgings : length s.judge.judgings + n ≤ max_judgings

submission_enters : (s : State) (x : NamedSubmission) → IsKnown s.problems x → HasRoom s 1 → farm_step s (submission_event x) ≡ accepted s (submission_event x)
submission_enters s x known room =
    does s (submission_event x) (three_pass (is_some (problem_number s.problems x.problem)) (nat_le max_submissions (length s.submissions)) (nat_le max_judgings (length s.judge.judgings))
    (reply.NoProblem x.problem) (reply.Full max_submissions) (reply.Full max_judgings) known
    (less_than max_submissions (length s.submissions) (omega (arith, room.submissions))) (less_than max_judgings (length s.judge.judgings) (omega (arith, room.judgings))))

pub submissions_enter : (s : State) (xs : List NamedSubmission) → Each (IsKnown s.problems) xs → HasRoom s (length xs)
    → HasSubmissions s (state_after s (map submission_event xs)) (map (judging_named s.problems) xs)
submissions_enter s [] known room = record { hosts = refl; problems = refl; judge = ap (λ js. record s.judge { judgings = js }) (sym (append-nil s.judge.judgings)) }
submissions_enter s (x ∷ xs) known room =
    let one = submission_enters s x known.0 (record { submissions = omega (arith, room.submissions); judgings = omega (arith, room.judgings) }) in
    let s1 : State = (accepted s (submission_event x)).0 in
    let more : length s1.submissions ≡ length s.submissions + 1 = length-append s.submissions _ in
    let judged : length s1.judge.judgings ≡ length s.judge.judgings + 1 = length-append s.judge.judgings _ in
    let rest = submissions_enter s1 xs known.1 (record { submissions = omega (arith, room.submissions, more); judgings = omega (arith, room.judgings, judged) }) in
    let done : HasSubmissions s (state_after s1 (map submission_event xs)) (map (judging_named s.problems) (x ∷ xs)) = record {
      hosts = rest.hosts;
      problems = rest.problems;
      judge = rest.judge ∙ ap (λ js. record s.judge { judgings = js }) (append_assoc s.judge.judgings (judging_named s.problems x ∷ []) (map (judging_named s.problems) xs));
    } in
    subst (λ (p : State × Reply). HasSubmissions s (state_after p.0 (map submission_event xs)) (map (judging_named s.problems) (x ∷ xs))) (sym one) done

-- ---- no results

-- events that give no result count none
pub no_result : (e : Event) (r : Reply) → given_by e ≡ None → counted_by (e, r) ≡ None
no_result e reply.Counted none = none
no_result e r none = refl

pub counts_none : (s : State) (es : List Event) → Each (λ e. given_by e ≡ None) es → counted_in s es ≡ []
counts_none s [] none = refl
counts_none s (e ∷ es) none =
    ap (λ o. cons_option o (counted_in (farm_step s e).0 es)) (no_result e (reply_to s e) none.0) ∙ counts_none (farm_step s e).0 es none.1

pub problems_give_none : (ps : List NamedProblem) → Each (λ e. given_by e ≡ None) (map problem_event ps)
problems_give_none [] = tt
problems_give_none (p ∷ ps) = (refl, problems_give_none ps)

pub submissions_give_none : (xs : List NamedSubmission) → Each (λ e. given_by e ≡ None) (map submission_event xs)
submissions_give_none [] = tt
submissions_give_none (x ∷ xs) = (refl, submissions_give_none xs)

-- ---- how many tests the problem of a submission has

-- where the first item that passes stands
pub record IsPlacedAt {X : Type 0} (test : X → Bool) (xs : List X) (x : X) : Type 0 where
  pub place : position_or_len test xs < length xs
  pub there : slice_get xs (position_or_len test xs) ≡ Some x

found_at : {X : Type 0} (test : X → Bool) (xs : List X) (x : X) → find test xs ≡ Some x → IsPlacedAt test xs x
found_at test [] x h = cc
found_at test (y ∷ ys) x h = elim (test y) as (λ b. test y ≡ b → cond b (Some y) (find test ys) ≡ Some x → IsPlacedAt test (y ∷ ys) x) [
  | true ↦ λ e found.
      let first : position_or_len test (y ∷ ys) ≡ 0 = ap (λ b. cond (not b) (1 + position_or_len test ys) 0) e in
      record { place = omega (arith, first); there = ap (slice_get (y ∷ ys)) first ∙ found }
  | false ↦ λ e found.
      let later : position_or_len test (y ∷ ys) ≡ 1 + position_or_len test ys = ap (λ b. cond (not b) (1 + position_or_len test ys) 0) e in
      let rest = found_at test ys x found in
      record { place = (let below = rest.place in omega (arith, later, below)); there = ap (slice_get (y ∷ ys)) (let next : position_or_len test (y ∷ ys) ≡ suc (position_or_len test ys) = omega (arith, later) in next) ∙ rest.there }
] refl h

less_true : (n m : ℕ) → n < m → nat_lt n m ≡ true
less_true n m l = grind (arith, nat_tests, l)

-- the number of the first problem of a name
pub numbered_as : (problems : List Problem) (name : List ℕ) (p : Problem) → find (λ (problem : Problem). bytes_eq problem.name name) problems ≡ Some p
    → problem_number problems name ≡ Some (position_or_len (λ (problem : Problem). bytes_eq problem.name name) problems + 1)
numbered_as problems name p h =
    let at = found_at (λ (problem : Problem). bytes_eq problem.name name) problems p h in
    ap (λ b. option_map (λ i. i + 1) (cond b (Some (position_or_len (λ (problem : Problem). bytes_eq problem.name name) problems)) None))
    (less_true (position_or_len (λ (problem : Problem). bytes_eq problem.name name) problems) (length problems) at.place)

pub tests_named : (problems : List Problem) (name : List ℕ) (p : Problem) → find (λ (problem : Problem). bytes_eq problem.name name) problems ≡ Some p
    → tests_of problems (number_or_0 (problem_number problems name)) ≡ p.tests
tests_named problems name p h =
    let at = found_at (λ (problem : Problem). bytes_eq problem.name name) problems p h in
    let place : position_or_len (λ (problem : Problem). bytes_eq problem.name name) problems + 1 - 1 ≡ position_or_len (λ (problem : Problem). bytes_eq problem.name name) problems = omega arith in
    ap (λ o. tests_of problems (number_or_0 o)) (numbered_as problems name p h)
    ∙ ap (λ o. number_or_0 (option_map (λ (q : Problem). q.tests) o))
    (item_by problems (position_or_len (λ (problem : Problem). bytes_eq problem.name name) problems + 1) p (omega arith) (ap (slice_get problems) place ∙ at.there))

-- whether its judgings are asked for at once
pub asked_of_named : (problems : List Problem) (name : List ℕ) (p : Problem) → find (λ (problem : Problem). bytes_eq problem.name name) problems ≡ Some p
    → asked_for problems (number_or_0 (problem_number problems name)) ≡ p.asked
asked_of_named problems name p h =
    let at = found_at (λ (problem : Problem). bytes_eq problem.name name) problems p h in
    let place : position_or_len (λ (problem : Problem). bytes_eq problem.name name) problems + 1 - 1 ≡ position_or_len (λ (problem : Problem). bytes_eq problem.name name) problems = omega arith in
    ap (λ o. asked_for problems (number_or_0 o)) (numbered_as problems name p h)
    ∙ ap (λ o. unwrap_or (option_map (λ (q : Problem). q.asked) o) true)
    (item_by problems (position_or_len (λ (problem : Problem). bytes_eq problem.name name) problems + 1) p (omega arith) (ap (slice_get problems) place ∙ at.there))
