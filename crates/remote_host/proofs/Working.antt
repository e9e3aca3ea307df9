-- What a host's run put, by how it ended.
use Rattle.std.proofs.Common.{ℕ, zero, ◌≡◌, ◌≢◌, ◌+◌, ◌-◌, ◌≤◌, inl, inr, List, [], ◌∷◌, Option, None, Some, Result, Err, false, refl, sym, ap, ◌∙◌, subst, arith}
use Rattle.std.specs.Io.KnownBytes.{Appends}
use Rattle.std.proofs.lemmas.List.{append-nil}
use Rattle.farm_kinds.specs.declared.outcomes.Task.{Task}
use Rattle.case_run.specs.Cases.{TestCase}
use Rattle.judgehost.specs.declared.bench.BenchFault.{BenchFault}
use Rattle.judgehost.specs.declared.bench.BenchFault.TheVariants as fault
use Rattle.judgehost.specs.declared.gate.Point.{Point}
use Rattle.judgehost.specs.declared.host.HostEnd.{HostEnd}
use Rattle.judgehost.specs.declared.host.HostEnd.TheVariants as host
use Rattle.judgehost.specs.Benches.{Heard, Nothing, Refused}
use Rattle.wire_job.specs.JobValue.{JobValue}
use Rattle.http_door.specs.Answers.{Answer}
use Rattle.remote_host.specs.declared.asks.Caller.{Caller}
use Rattle.remote_host.specs.declared.asks.Kept.{Kept}
use Rattle.remote_host.specs.declared.asks.Wrong.{Wrong}
use Rattle.remote_host.specs.declared.asks.TalkEnd.{TalkEnd}
use Rattle.remote_host.specs.declared.asks.TalkEnd.TheVariants as end
use Rattle.remote_host.specs.Talk.{Talk, talk, turns, ended, after, fetches_in, posts_in, idle_next}
use Rattle.remote_host.specs.Requests.{spelled}
use Rattle.remote_host.specs.Standing.{Line, Stands, Breaks, IfWronged, GoesOnAt, RefusedAt, IsAt, IsPlain}
use Rattle.remote_host.specs.Benches.{is_pending, pending_job, HasFailed, died_heard, end_heard}
use Rattle.remote_host.specs.Ends.{Talked, Begun, Prefixes, Broken, IfWrong, RefusedAs, WorkedAs}
use Rattle.remote_host.proofs.Talking.{asks_after, end_after, stands_prefix, stands_as}
use Rattle.remote_host.proofs.Turning.{refused_is, heard_is}

-- the talk has ended, and so it is the same for as many turns or more
talked_by : (who : Caller) (start now : Line) (claims fetched posted n fuel : ℕ) (f : ℕ → List Answer → Talk) (e : TalkEnd)
    → (s : Stands who start now claims fetched posted f) → claims + n ≡ fuel → f n [] ≡ ended e → Talked who start now fuel fetched posted e
talked_by who start now claims fetched posted n fuel f e s is k =
    let t : talk who fuel s.answers ≡ after s.asks (ended e) =
    ap (λ m. talk who m s.answers) (sym is) ∙ ap (talk who (claims + n)) (sym (append-nil s.answers)) ∙ s.goes n [] ∙ ap (after s.asks) k in
    let asks = ap (λ (z : Talk). z.asks) t ∙ asks_after s.asks (ended e) ∙ append-nil s.asks in
    record {
      answers = s.answers;
      took = s.took;
      puts = subst (λ z. Appends start.held now.held (spelled who z)) (sym asks) s.puts;
      end = ap (λ (z : Talk). z.end) t ∙ end_after s.asks (ended e);
      claims_are = ap fetches_in asks ∙ s.fetches_are;
      posts_are = ap posts_in asks ∙ s.posts_are;
    }

pub stands_talked : (who : Caller) (start now : Line) (claims fetched posted fuel : ℕ) (e : TalkEnd) → Stands who start now claims fetched posted (λ n more. ended e) → claims ≤ fuel
    → Talked who start now fuel fetched posted e
stands_talked who start now claims fetched posted fuel e s le = talked_by who start now claims fetched posted (fuel - claims) fuel (λ n more. ended e) e s (omega (arith, le)) refl

pub stands_spent : (who : Caller) (start now : Line) (claims fetched posted fuel : ℕ) (kept : Option Kept) → Stands who start now claims fetched posted (λ n more. turns who n kept more) → claims ≡ fuel
    → Talked who start now fuel fetched posted end.Spent
stands_spent who start now claims fetched posted fuel kept s is = talked_by who start now claims fetched posted zero fuel (λ n more. turns who n kept more) end.Spent s (omega (arith, is)) refl

-- the wrong answer of so many claims is the one of as many turns
wrong_by : (who : Caller) (start now : Line) (claims fuel : ℕ) (w : Option Wrong) (answers : List Answer) → IfWronged who w claims answers now → claims + (fuel - claims) ≡ fuel → IfWrong who fuel w answers now
wrong_by who start now claims fuel None answers x is = tt
wrong_by who start now claims fuel (Some w) answers (inl x) is = inl (x.0, ap (λ m. (talk who m answers).end) (sym is) ∙ x.1 (fuel - claims))
wrong_by who start now claims fuel (Some w) answers (inr x) is =
    inr (ap (λ m. (talk who m answers).end) (sym is) ∙ ap (λ z. (talk who (claims + (fuel - claims)) z).end) (sym (append-nil answers)) ∙ x (fuel - claims) [])

pub breaks_broken : (who : Caller) (start now : Line) (claims fuel : ℕ) (w : Option Wrong) → Breaks who start now claims w → claims ≤ fuel → Broken who start now fuel w
breaks_broken who start now claims fuel w b le =
    let is : claims + (fuel - claims) ≡ fuel = omega (arith, le) in
    let f = b.prefix (fuel - claims) [] in
    record {
      answers = b.answers;
      took = b.took;
      put = b.put;
      rest = f.0;
      puts = b.puts;
      prefix = ap (λ m. spelled who (talk who m b.answers).asks) (sym is) ∙ ap (λ z. spelled who (talk who (claims + (fuel - claims)) z).asks) (sym (append-nil b.answers)) ∙ f.1;
      wrong = wrong_by who start now claims fuel w b.answers b.wronged is;
    }

pub breaks_prefixes : (who : Caller) (start now : Line) (claims fuel : ℕ) (w : Option Wrong) → Breaks who start now claims w → claims ≤ fuel → Prefixes who start now fuel
breaks_prefixes who start now claims fuel w b le =
    let f = breaks_broken who start now claims fuel w b le in
    record { answers = f.answers; took = f.took; put = f.put; rest = f.rest; puts = f.puts; prefix = f.prefix }

goes_on_prefix : (who : Caller) (start now : Line) (claims fetched posted : ℕ) (kept : Option Kept) (p : Option (Task × TestCase)) → GoesOnAt who start now claims fetched posted kept p → Breaks who start now claims None
goes_on_prefix who start now claims fetched posted kept None s = stands_prefix who start now claims fetched posted (λ n more. turns who n kept more) s
goes_on_prefix who start now claims fetched posted kept (Some p) s = stands_prefix who start now claims fetched posted _ s

refused_prefix : (who : Caller) (start now : Line) (claims fetched posted fuel : ℕ) (w : Option Wrong) (e : BenchFault) → RefusedAt who start now claims fetched posted w e → claims ≤ fuel → Prefixes who start now fuel
refused_prefix who start now claims fetched posted fuel w fault.Link s le = breaks_prefixes who start now claims fuel w s le
refused_prefix who start now claims fetched posted fuel w fault.Holding s le = breaks_prefixes who start now claims fuel None (stands_prefix who start now claims fetched posted _ s) le
refused_prefix who start now claims fetched posted fuel w fault.NoHost s le = breaks_prefixes who start now claims fuel None (stands_prefix who start now claims fetched posted _ s) le
refused_prefix who start now claims fetched posted fuel w (fault.NoCase task) s le = absurd s
refused_prefix who start now claims fetched posted fuel w fault.NoMemory s le = breaks_prefixes who start now claims fuel w s le

at_prefix : (who : Caller) (start now : Line) (claims posts fuel : ℕ) (kept : Option Kept) (p : Option (Task × TestCase)) (w : Option Wrong) (h : Option Heard) → IsAt who start now claims posts kept p w h → claims ≤ fuel → Prefixes who start now fuel
at_prefix who start now claims posts fuel kept p w None s le = breaks_prefixes who start now claims fuel None (goes_on_prefix who start now claims claims posts kept p s.1) le
at_prefix who start now claims posts fuel kept p w (Some Nothing) s le = breaks_prefixes who start now claims fuel None (stands_prefix who start now claims claims posts _ s.2) le
at_prefix who start now claims posts fuel kept p w (Some (Refused e)) s le = refused_prefix who start now claims claims posts fuel w e s le

refused_as : (who : Caller) (start now : Line) (claims posts fuel : ℕ) (w : Option Wrong) (e : BenchFault) → RefusedAt who start now claims claims posts w e → claims ≤ fuel → RefusedAs who start now fuel claims posts w e
refused_as who start now claims posts fuel w fault.Link s le = breaks_broken who start now claims fuel w s le
refused_as who start now claims posts fuel w fault.Holding s le = stands_talked who start now claims claims posts fuel end.Holding s le
refused_as who start now claims posts fuel w fault.NoHost s le = stands_talked who start now claims claims posts fuel end.NoHost s le
refused_as who start now claims posts fuel w (fault.NoCase task) s le = s
refused_as who start now claims posts fuel w fault.NoMemory s le = breaks_prefixes who start now claims fuel w s le

none_pending : (j : Option JobValue) (posts tasks : ℕ) → posts + is_pending j ≤ tasks → posts ≡ tasks → pending_job j ≡ None
none_pending None posts tasks le e = refl
none_pending (Some j) posts tasks le e = absurd (omega (arith, le, e))

spent_as : (who : Caller) (start now : Line) (claims posts fuel : ℕ) (kept : Option Kept) (p : Option (Task × TestCase)) (w : Option Wrong) (h : Option Heard) → IsAt who start now claims posts kept p w h → h ≡ None → p ≡ None → claims ≡ fuel → Talked who start now fuel claims posts end.Spent
spent_as who start now claims posts fuel kept p w h s hn pn is =
    let t = subst (IsAt who start now claims posts kept p w) hn s in
    let g = subst (GoesOnAt who start now claims claims posts kept) pn t.1 in
    stands_spent who start now claims claims posts fuel kept g is

pub first_same : {A B C : Type 0} (x y : A × B × C) → x ≡ y → x.0 ≡ y.0
first_same x y e = ap (λ z. z.0) e

pub second_same : {A B C : Type 0} (x y : A × B × C) → x ≡ y → x.1 ≡ y.1
second_same x y e = ap (λ z. z.1) e

pub third_same : {A B C : Type 0} (x y : A × B × C) → x ≡ y → x.2 ≡ y.2
third_same x y e = ap (λ z. z.2) e

idle_ends : (who : Caller) (f : List Answer → Talk) (us : List Answer) → who.waits ≡ false → idle_next who f us ≡ ended end.Idle
idle_ends who f us h = rw h refl

-- no task was open, and the host does not wait for one
idle_as : (who : Caller) (start now : Line) (claims posts fuel : ℕ) (kept : Option Kept) (p : Option (Task × TestCase)) (w : Option Wrong) → IsAt who start now claims posts kept p w (Some Nothing) → who.waits ≡ false → claims ≤ fuel → Talked who start now fuel claims posts end.Idle
idle_as who start now claims posts fuel kept p w s h le =
    stands_talked who start now claims claims posts fuel end.Idle
    (stands_as who start now claims claims posts (λ n more. idle_next who (turns who n kept) more) (λ n more. ended end.Idle) (λ n more. idle_ends who (turns who n kept) more h) s.2) le

-- all that was put are whole requests
stands_begun : (who : Caller) (start now : Line) (claims posts fuel : ℕ) (f : ℕ → List Answer → Talk) → Stands who start now claims claims posts f → claims ≤ fuel → Begun who start now fuel claims posts
stands_begun who start now claims posts fuel f s le =
    let is : claims + (fuel - claims) ≡ fuel = omega (arith, le) in
    record {
      answers = s.answers;
      took = s.took;
      asks = s.asks;
      rest = (f (fuel - claims) []).asks;
      puts = s.puts;
      prefix = ap (λ m. (talk who m s.answers).asks) (sym is) ∙ ap (λ z. (talk who (claims + (fuel - claims)) z).asks) (sym (append-nil s.answers))
          ∙ ap (λ (t : Talk). t.asks) (s.goes (fuel - claims) []) ∙ asks_after s.asks (f (fuel - claims) []);
      claims_are = s.fetches_are;
      posts_are = s.posts_are;
    }

goes_on_begun : (who : Caller) (start now : Line) (claims posts fuel : ℕ) (kept : Option Kept) (p : Option (Task × TestCase)) → GoesOnAt who start now claims claims posts kept p → claims ≤ fuel → Begun who start now fuel claims posts
goes_on_begun who start now claims posts fuel kept None s le = stands_begun who start now claims posts fuel (λ n more. turns who n kept more) s le
goes_on_begun who start now claims posts fuel kept (Some p) s le = stands_begun who start now claims posts fuel _ s le

-- the gate let the host die, unless it was refused before
died_as : (who : Caller) (start now : Line) (claims posts fuel : ℕ) (kept : Option Kept) (p : Option (Task × TestCase)) (w : Option Wrong) (h : Option Heard) (point : Point) (turn : ℕ) → IsAt who start now claims posts kept p w h → claims ≤ fuel
    → WorkedAs who start now fuel claims posts w (died_heard h (host.Died point turn))
died_as who start now claims posts fuel kept p w None point turn s le = goes_on_begun who start now claims posts fuel kept p s.1 le
died_as who start now claims posts fuel kept p w (Some Nothing) point turn s le = stands_begun who start now claims posts fuel _ s.2 le
died_as who start now claims posts fuel kept p w (Some (Refused e)) point turn s le = refused_as who start now claims posts fuel w e s le

-- the end of the loop is the host's, unless this was refused
pub end_is : (h : Option Heard) (d e k : HostEnd) → e ≡ end_heard h d → e ≡ k → ((f : BenchFault) → k ≢ host.Bench f) → d ≡ k
end_is h host.Idle e k is q other = sym is ∙ q
end_is None (host.Died p t) e k is q other = sym is ∙ q
end_is (Some Nothing) (host.Died p t) e k is q other = sym is ∙ q
end_is (Some (Refused f)) (host.Died p t) e k is q other = absurd (other f (sym q ∙ is))
end_is h host.Fuel e k is q other = sym is ∙ q
end_is h (host.Bench f) e k is q other = sym is ∙ q
end_is h host.NoMemory e k is q other = sym is ∙ q

pub idle_is : (h : Option Heard) (d e : HostEnd) → e ≡ end_heard h d → e ≡ host.Idle → d ≡ host.Idle
idle_is h d e is q = end_is h d e host.Idle is q (λ f b. cc)

pub died_is : (h : Option Heard) (d e : HostEnd) (p : Point) (t : ℕ) → e ≡ end_heard h d → e ≡ host.Died p t → d ≡ host.Died p t
died_is h d e p t is q = end_is h d e (host.Died p t) is q (λ f b. cc)

pub bench_is : (e f : BenchFault) → host.Bench e ≡ host.Bench f → ◌≡◌ {A = Result (Unit {0}) BenchFault} (Err e) (Err f)
bench_is e f q = let same : e ≡ f = cc in ap Err same

pub refused_bench : (e f : BenchFault) → ◌≡◌ {A = Result (Unit {0}) BenchFault} (Err e) (Err f) → host.Bench e ≡ host.Bench f
refused_bench e f q = let same : e ≡ f = cc in ap host.Bench same

-- a host that was refused heard it last
pub refused_heard : (h : Option Heard) (d e : HostEnd) (f : BenchFault) → e ≡ end_heard h d → ((g : BenchFault) → d ≡ host.Bench g → h ≡ Some (Refused g)) → e ≡ host.Bench f → h ≡ Some (Refused f)
refused_heard h host.Idle e f is refused q = let bad : host.Idle ≡ host.Bench f = sym is ∙ q in cc
refused_heard None (host.Died p t) e f is refused q = let bad : host.Died p t ≡ host.Bench f = sym is ∙ q in cc
refused_heard (Some Nothing) (host.Died p t) e f is refused q = let bad : host.Died p t ≡ host.Bench f = sym is ∙ q in cc
refused_heard (Some (Refused g)) (host.Died p t) e f is refused q = let same : host.Bench g ≡ host.Bench f = sym is ∙ q in cc
refused_heard h host.Fuel e f is refused q = let bad : host.Fuel ≡ host.Bench f = sym is ∙ q in cc
refused_heard h (host.Bench g) e f is refused q = refused f (sym is ∙ q)
refused_heard h host.NoMemory e f is refused q = let bad : host.NoMemory ≡ host.Bench f = sym is ∙ q in cc

-- all that was put, by how the host ended
pub worked_as : (who : Caller) (start now : Line) (claims fuel posts tasks : ℕ) (kept : Option Kept) (j : Option JobValue) (w : Option Wrong) (h : Option Heard) (e : HostEnd)
    → IsAt who start now claims posts kept (pending_job j) w h → claims ≤ fuel → posts + is_pending j ≤ tasks
    → (e ≡ host.Idle → who.waits ≡ false) → (e ≡ host.Idle → h ≡ Some Nothing) → ((f : BenchFault) → e ≡ host.Bench f → h ≡ Some (Refused f))
    → (e ≡ host.Fuel → h ≡ None) → (e ≡ host.Fuel → claims ≡ fuel) → (e ≡ host.Fuel → posts ≡ tasks)
    → WorkedAs who start now fuel claims posts w (end_heard h e)
worked_as who start now claims fuel posts tasks kept j w h host.Idle s le few quits idle refused unheard spent all =
    idle_as who start now claims posts fuel kept (pending_job j) w (subst (IsAt who start now claims posts kept (pending_job j) w) (idle refl) s) (quits refl) le
worked_as who start now claims fuel posts tasks kept j w h (host.Died p turn) s le few quits idle refused unheard spent all = died_as who start now claims posts fuel kept (pending_job j) w h p turn s le
worked_as who start now claims fuel posts tasks kept j w h host.Fuel s le few quits idle refused unheard spent all =
    (spent_as who start now claims posts fuel kept (pending_job j) w h s (unheard refl) (none_pending j posts tasks few (all refl)) (spent refl), spent refl)
worked_as who start now claims fuel posts tasks kept j w h (host.Bench f) s le few quits idle refused unheard spent all =
    refused_as who start now claims posts fuel w f (subst (IsAt who start now claims posts kept (pending_job j) w) (refused f refl) s) le
worked_as who start now claims fuel posts tasks kept j w h host.NoMemory s le few quits idle refused unheard spent all = at_prefix who start now claims posts fuel kept (pending_job j) w h s le

-- the same, of the host's end
pub worked_heard : (who : Caller) (start now : Line) (claims fuel posts tasks : ℕ) (kept : Option Kept) (j : Option JobValue) (w : Option Wrong) (h : Option Heard) (e r : HostEnd) → r ≡ end_heard h e
    → IsAt who start now claims posts kept (pending_job j) w h → claims ≤ fuel → posts + is_pending j ≤ tasks
    → (r ≡ host.Idle → who.waits ≡ false) → (e ≡ host.Idle → h ≡ Some Nothing) → ((f : BenchFault) → e ≡ host.Bench f → h ≡ Some (Refused f))
    → (e ≡ host.Fuel → h ≡ None) → (e ≡ host.Fuel → claims ≡ fuel) → (e ≡ host.Fuel → posts ≡ tasks)
    → WorkedAs who start now fuel claims posts w r
worked_heard who start now claims fuel posts tasks kept j w h e r is s le few quits idle refused unheard spent all =
    subst (λ (z : HostEnd). WorkedAs who start now fuel claims posts w z) (sym is)
    (worked_as who start now claims fuel posts tasks kept j w h e s le few (λ q. quits (is ∙ ap (end_heard h) q)) idle refused unheard spent all)

-- the name was entered, and nothing was claimed yet
pub entered_at : (who : Caller) (start now : Line) (before claims posts : ℕ) (kept : Option Kept) (j : Option JobValue) (w : Option Wrong) (h : Option Heard)
    → before ≡ 0 → claims ≡ 0 → posts ≡ 0 → kept ≡ None → j ≡ None → w ≡ None → h ≡ None → Stands who start now 0 0 0 (λ n more. turns who n None more) → IsAt who start now (before + claims) posts kept (pending_job j) w h
entered_at who start now before claims posts kept j w h b c pn kn jn wn hn s =
    let zero_is : 0 ≡ before + claims = omega (arith, b, c) in
    let stands = subst (λ (z : ℕ). Stands who start now (before + claims) (before + claims) z (λ n more. turns who n None more)) (sym pn)
    (subst (λ (z : ℕ). Stands who start now z z 0 (λ n more. turns who n None more)) zero_is s) in
    let keeps = subst (λ (z : Option Kept). Stands who start now (before + claims) (before + claims) posts (λ n more. turns who n z more)) (sym kn) stands in
    subst (λ (z : Option Heard). IsAt who start now (before + claims) posts kept (pending_job j) w z) (sym hn)
    (subst (λ (z : Option JobValue). (w ≡ None) × GoesOnAt who start now (before + claims) (before + claims) posts kept (pending_job z)) (sym jn) (wn, keeps))

unheard : (h : Option Heard) → h ≡ None → h ≢ Some (Refused fault.Link)
unheard h hn = λ q. (let bad : None ≡ Some (Refused fault.Link) = sym hn ∙ q in cc)

unlinked : (h : Option Heard) (p : Option (Task × TestCase)) (w : Option Wrong) (came now : ℕ) → h ≢ Some (Refused fault.Link) → now ≡ came → HasFailed h p w came now
unlinked h p w came now other same = record { failed = λ q _. absurd (other q); kept = λ _. same; bare = λ q. absurd (other q) }

-- the connection has not failed where nothing was heard
pub unfailed : (h : Option Heard) (p : Option (Task × TestCase)) (w : Option Wrong) (came now : ℕ) → h ≡ None → now ≡ came → HasFailed h p w came now
unfailed h p w came now hn same = unlinked h p w came now (unheard h hn) same

-- nor where no task was open, or the host was refused for something else
pub idle_unfailed : (p : Option (Task × TestCase)) (w : Option Wrong) (came now : ℕ) → now ≡ came → HasFailed (Some Nothing) p w came now
idle_unfailed p w came now same = unlinked (Some Nothing) p w came now (λ q. cc) same

pub absent_unfailed : (p : Option (Task × TestCase)) (w : Option Wrong) (came now : ℕ) → now ≡ came → HasFailed (Some (Refused fault.NoHost)) p w came now
absent_unfailed p w came now same = unlinked (Some (Refused fault.NoHost)) p w came now (λ q. cc) same

-- it had not, where nothing was heard before a call that did not fail
pub still_unfailed : (h : Option Heard) (p : Option (Task × TestCase)) (w : Option Wrong) (came old new : ℕ) → h ≡ None → HasFailed h p w came old → new ≡ old → new ≡ came
still_unfailed h p w came old new hn f same = same ∙ f.kept (unheard h hn)

-- a refusal
pub refused_failed : {A : Type 0} (e : BenchFault) (h : Option Heard) (p q : Option (Task × TestCase)) (w v : Option Wrong) (came old new : ℕ) → h ≡ None → HasFailed h p w came old → q ≡ None
    → (◌≡◌ {A = Result A BenchFault} (Err e) (Err fault.Link) → v ≡ None → 1 ≤ new) → (◌≢◌ {A = Result A BenchFault} (Err e) (Err fault.Link) → new ≡ old) → HasFailed (Some (Refused e)) q v came new
refused_failed {A} e h p q w v came old new hn f none failed kept = record {
  failed = λ is met. failed (refused_is e fault.Link is) met;
  kept = λ other. still_unfailed h p w came old new hn f (kept (λ is. other (heard_is {A = A} e fault.Link is)));
  bare = λ _. none;
}

-- a host that was refused for the link ended so
linked_end : (h : Option Heard) (p : Option (Task × TestCase)) (d : HostEnd) → h ≡ Some (Refused fault.Link) → p ≡ None
    → (d ≡ host.Idle → h ≡ Some Nothing) → (d ≡ host.Fuel → h ≡ None) → ((f : BenchFault) → d ≡ host.Bench f → h ≡ Some (Refused f)) → (d ≡ host.NoMemory → (t : Task) × (c : TestCase) × (p ≡ Some (t, c)))
    → end_heard h d ≡ host.Bench fault.Link
linked_end h p host.Idle is bare idle spent refused unrun = let bad : Some Nothing ≡ Some (Refused fault.Link) = sym (idle refl) ∙ is in cc
linked_end h p (host.Died point turn) is bare idle spent refused unrun = ap (λ (z : Option Heard). died_heard z (host.Died point turn)) is
linked_end h p host.Fuel is bare idle spent refused unrun = let bad : None ≡ Some (Refused fault.Link) = sym (spent refl) ∙ is in cc
linked_end h p (host.Bench f) is bare idle spent refused unrun = let same : Some (Refused f) ≡ Some (Refused fault.Link) = sym (refused f refl) ∙ is in cc
linked_end h p host.NoMemory is bare idle spent refused unrun = let u = unrun refl in let bad : None ≡ Some (u.0, u.1) = sym bare ∙ u.2 in cc

-- the connection has not failed where the host's end is another one
pub ended_unfailed : (h : Option Heard) (p : Option (Task × TestCase)) (w : Option Wrong) (came now : ℕ) (d e : HostEnd) → e ≡ end_heard h d → e ≢ host.Bench fault.Link → HasFailed h p w came now
    → (d ≡ host.Idle → h ≡ Some Nothing) → (d ≡ host.Fuel → h ≡ None) → ((f : BenchFault) → d ≡ host.Bench f → h ≡ Some (Refused f)) → (d ≡ host.NoMemory → (t : Task) × (c : TestCase) × (p ≡ Some (t, c)))
    → now ≡ came
ended_unfailed h p w came now d e is other f idle spent refused unrun = f.kept (λ q. other (is ∙ linked_end h p d q (f.bare q) idle spent refused unrun))

-- the name was not entered
pub refused_entry : (who : Caller) (start now : Line) (fuel claims posts : ℕ) (w : Option Wrong) (e : BenchFault) → IsPlain e → Breaks who start now 0 w → RefusedAs who start now fuel claims posts w e
refused_entry who start now fuel claims posts w fault.Link p b = breaks_broken who start now 0 fuel w b (omega arith)
refused_entry who start now fuel claims posts w fault.Holding p b = absurd p
refused_entry who start now fuel claims posts w fault.NoHost p b = absurd p
refused_entry who start now fuel claims posts w (fault.NoCase task) p b = absurd p
refused_entry who start now fuel claims posts w fault.NoMemory p b = breaks_prefixes who start now 0 fuel w b (omega arith)

-- the first of a list of one
first_in : {A : Type 0} (a : A) → List (A × Unit {0}) → A
first_in a [] = a
first_in a (x ∷ xs) = x.0

pub start_same : {A : Type 0} (s t : A) → ◌≡◌ {A = List (A × Unit {0})} ((s, tt) ∷ []) ((t, tt) ∷ []) → s ≡ t
unfolding first_in
start_same s t e = ap (first_in s) e

-- the same, of the connection as it came and as it goes back, and of what is told of the bench
pub worked_over : {A : Type 0} (held left : A → Option (List ℕ)) (who caller : Caller) (s conn now over : A) (ahead : List ℕ) (fuel claims claims' posts posts' : ℕ) (w w' : Option Wrong) (e : HostEnd)
    → ◌≡◌ {A = List (A × Unit {0})} ((s, tt) ∷ []) ((conn, tt) ∷ []) → who ≡ caller → over ≡ now → claims ≡ claims' → posts ≡ posts' → w ≡ w'
    → WorkedAs who (record { held = held s; left = left s; ahead = [] }) (record { held = held now; left = left now; ahead = ahead }) fuel claims posts w e
    → WorkedAs caller (record { held = held conn; left = left conn; ahead = [] }) (record { held = held over; left = left over; ahead = ahead }) fuel claims' posts' w' e
worked_over {A} held left who caller s conn now over ahead fuel claims claims' posts posts' w w' e is same back made put met x =
    let start : Line = record { held = held conn; left = left conn; ahead = [] } in
    let last : Line = record { held = held over; left = left over; ahead = ahead } in
    subst (λ (z : ℕ). WorkedAs caller start last fuel z posts' w' e) made
    (subst (λ (z : ℕ). WorkedAs caller start last fuel claims z w' e) put
    (subst (λ (z : Option Wrong). WorkedAs caller start last fuel claims posts z e) met
    (subst (λ (z : Caller). WorkedAs z start last fuel claims posts w e) same
    (subst (λ (z : A). WorkedAs who start (record { held = held z; left = left z; ahead = ahead }) fuel claims posts w e) (sym back)
    (subst (λ (z : A). WorkedAs who (record { held = held z; left = left z; ahead = [] }) (record { held = held now; left = left now; ahead = ahead }) fuel claims posts w e) (start_same s conn is) x)))))
