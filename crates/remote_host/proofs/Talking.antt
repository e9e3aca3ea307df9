-- How a talk goes on.
use Rattle.std.proofs.Common.{ℕ, suc, ◌≡◌, ◌≢◌, ◌+◌, ◌≤◌, ◌⊎◌, inl, inr, List, [], ◌∷◌, ◌++◌, Option, None, Some, Result, Ok, Err, refl, sym, ap, ◌∙◌, subst, arith, append_assoc}
use Rattle.std.specs.Io.KnownBytes.{Appends, Consumes}
use Rattle.std.proofs.lemmas.List.{append-nil}
use Rattle.std.proofs.KnownBytes.{Consumes-nil, Consumes-trans, Appends-nil, Appends-trans}
use Rattle.farm_kinds.specs.declared.outcomes.Task.{Task}
use Rattle.http_door.specs.Answers.{Answer, AreAnswers}
use Rattle.http_door.specs.AnswerReading.{answer_with}
use Rattle.http_door.proofs.AnswerCutting.{answers_more, answers_last}
use Rattle.remote_host.specs.declared.asks.Caller.{Caller}
use Rattle.remote_host.specs.declared.asks.Kept.{Kept}
use Rattle.remote_host.specs.declared.asks.Ask.{Ask}
use Rattle.remote_host.specs.declared.asks.Ask.TheVariants as ask
use Rattle.farm_io.specs.Streams.{Rose}
use Rattle.judgehost.specs.declared.bench.BenchFault.{BenchFault}
use Rattle.remote_host.specs.declared.exchange.Halt.{Halt}
use Rattle.remote_host.specs.declared.exchange.Halt.TheVariants as halt
use Rattle.remote_host.specs.declared.asks.Wrong.{Wrong}
use Rattle.remote_host.specs.declared.asks.Wrong.TheVariants as wrong
use Rattle.remote_host.specs.declared.asks.TalkEnd.TheVariants as end
use Rattle.remote_host.specs.Bodies.{job_said}
use Rattle.remote_host.specs.Talk.{Talk, talk, turns, ended, onto, after, answered, case_ask, job_next, count_fetch, count_post, fetches_in, posts_in}
use Rattle.remote_host.specs.Requests.{spell, spelled}
use Rattle.remote_host.specs.Standing.{Line, Took, Exchanged, Stopped, Stands, IfWronged, Breaks, Asked, first_wrong}

pub after_last : (us : List Ask) (a : Ask) (t : Talk) → after us (onto a t) ≡ after (us ++ a ∷ []) t
after_last [] a t = refl
after_last (u ∷ us) a t = ap (onto u) (after_last us a t)

pub asks_after : (us : List Ask) (t : Talk) → (after us t).asks ≡ us ++ t.asks
asks_after [] t = refl
asks_after (u ∷ us) t = ap (λ z. u ∷ z) (asks_after us t)

pub end_after : (us : List Ask) (t : Talk) → (after us t).end ≡ t.end
end_after [] t = refl
end_after (u ∷ us) t = end_after us t

spelled_append : (who : Caller) (us vs : List Ask) → spelled who (us ++ vs) ≡ spelled who us ++ spelled who vs
spelled_append who [] vs = refl
spelled_append who (u ∷ us) vs = ap (λ z. spell who u ++ z) (spelled_append who us vs) ∙ sym (append_assoc (spell who u) (spelled who us) (spelled who vs))

spelled_last : (who : Caller) (us : List Ask) (a : Ask) → spelled who (us ++ a ∷ []) ≡ spelled who us ++ spell who a
spelled_last who us a = spelled_append who us (a ∷ []) ∙ ap (λ z. spelled who us ++ z) (append-nil (spell who a))

fetch_counted : (a : Ask) (n : ℕ) → count_fetch a n ≡ count_fetch a 0 + n
fetch_counted ask.Enter n = omega arith
fetch_counted ask.Fetch n = omega arith
fetch_counted (ask.Job task) n = omega arith
fetch_counted (ask.JobRest task) n = omega arith
fetch_counted (ask.Post task kind) n = omega arith

post_counted : (a : Ask) (n : ℕ) → count_post a n ≡ count_post a 0 + n
post_counted ask.Enter n = omega arith
post_counted ask.Fetch n = omega arith
post_counted (ask.Job task) n = omega arith
post_counted (ask.JobRest task) n = omega arith
post_counted (ask.Post task kind) n = omega arith

fetches_swap : (u a : Ask) (n : ℕ) → count_fetch u (count_fetch a n) ≡ count_fetch a (count_fetch u n)
fetches_swap u a n = omega (arith, fetch_counted u (count_fetch a n), fetch_counted a n, fetch_counted a (count_fetch u n), fetch_counted u n)

posts_swap : (u a : Ask) (n : ℕ) → count_post u (count_post a n) ≡ count_post a (count_post u n)
posts_swap u a n = omega (arith, post_counted u (count_post a n), post_counted a n, post_counted a (count_post u n), post_counted u n)

fetches_last : (us : List Ask) (a : Ask) → fetches_in (us ++ a ∷ []) ≡ count_fetch a (fetches_in us)
fetches_last [] a = refl
fetches_last (u ∷ us) a = ap (count_fetch u) (fetches_last us a) ∙ fetches_swap u a (fetches_in us)

posts_last : (us : List Ask) (a : Ask) → posts_in (us ++ a ∷ []) ≡ count_post a (posts_in us)
posts_last [] a = refl
posts_last (u ∷ us) a = ap (count_post u) (posts_last us a) ∙ posts_swap u a (posts_in us)

-- one more response was taken
took_more : (start old new : Line) (answers : List Answer) (asked : List ℕ) (a : Answer) → Took start old answers → Exchanged old new asked a → Took start new (answers ++ a ∷ [])
took_more start old new answers asked a t x = record {
  bytes = t.bytes ++ x.prefix;
  took = Consumes-trans start.left old.left new.left t.bytes x.prefix t.took x.took;
  are = subst (λ (z : List ℕ). AreAnswers z (answers ++ a ∷ []) new.ahead) (append_assoc start.ahead t.bytes x.prefix)
      (answers_last ((start.ahead ++ t.bytes) ++ x.prefix) answers (old.ahead ++ x.prefix) a new.ahead (answers_more (start.ahead ++ t.bytes) answers old.ahead x.prefix t.are) x.is);
}

-- bytes were taken, and no response
took_bytes : (start old new : Line) (answers : List Answer) (prefix : List ℕ) → Took start old answers → Consumes old.left new.left prefix → new.ahead ≡ old.ahead ++ prefix → Took start new answers
took_bytes start old new answers prefix t c e = record {
  bytes = t.bytes ++ prefix;
  took = Consumes-trans start.left old.left new.left t.bytes prefix t.took c;
  are = subst (λ (z : List ℕ). AreAnswers z answers new.ahead) (append_assoc start.ahead t.bytes prefix)
      (subst (λ (z : List ℕ). AreAnswers ((start.ahead ++ t.bytes) ++ prefix) answers z) (sym e) (answers_more (start.ahead ++ t.bytes) answers old.ahead prefix t.are));
}

-- nothing was asked yet
pub stands_start : (who : Caller) (held left : Option (List ℕ)) (ahead : List ℕ) → ahead ≡ []
    → Stands who (record { held = held; left = left; ahead = [] }) (record { held = held; left = left; ahead = ahead }) 0 0 0 (λ n more. talk who n more)
stands_start who held left ahead e = record {
  asks = [];
  answers = [];
  puts = Appends-nil held;
  took = record { bytes = []; took = Consumes-nil left; are = sym e };
  goes = λ n more. (let e : 0 + n ≡ n = omega arith in ap (λ z. talk who z more) e);
  fetches_are = refl;
  posts_are = refl;
}

-- a request and its response
pub stands_more : (who : Caller) (start old new : Line) (claims fetched posted : ℕ) (a : Ask) (f : ℕ → Answer → List Answer → Talk) (r : Answer)
    → Stands who start old claims fetched posted (λ n more. onto a (answered (f n) more)) → Exchanged old new (spell who a) r
    → Stands who start new claims (count_fetch a fetched) (count_post a posted) (λ n more. f n r more)
stands_more who start old new claims fetched posted a f r s x = record {
  asks = s.asks ++ a ∷ [];
  answers = s.answers ++ r ∷ [];
  puts = subst (λ (z : List ℕ). Appends start.held new.held z) (sym (spelled_last who s.asks a))
      (Appends-trans start.held old.held new.held (spelled who s.asks) (spell who a) s.puts x.puts);
  took = took_more start old new s.answers (spell who a) r s.took x;
  goes = λ n more. ap (talk who (claims + n)) (append_assoc s.answers (r ∷ []) more) ∙ s.goes n (r ∷ more) ∙ after_last s.asks a (f n r more);
  fetches_are = fetches_last s.asks a ∙ ap (count_fetch a) s.fetches_are;
  posts_are = posts_last s.asks a ∙ ap (count_post a) s.posts_are;
}

-- the next turn
pub stands_turn : (who : Caller) (start now : Line) (claims fetched posted : ℕ) (kept : Option Kept) → Stands who start now claims fetched posted (λ n more. turns who n kept more)
    → Stands who start now (claims + 1) fetched posted (λ n more. turns who (suc n) kept more)
stands_turn who start now claims fetched posted kept s = record {
  asks = s.asks;
  answers = s.answers;
  puts = s.puts;
  took = s.took;
  goes = λ n more. (let e : (claims + 1) + n ≡ claims + suc n = omega arith in rw e (s.goes (suc n) more));
  fetches_are = s.fetches_are;
  posts_are = s.posts_are;
}

-- another way to say what comes next
pub stands_as : (who : Caller) (start now : Line) (claims fetched posted : ℕ) (f g : ℕ → List Answer → Talk) → ((n : ℕ) (more : List Answer) → f n more ≡ g n more)
    → Stands who start now claims fetched posted f → Stands who start now claims fetched posted g
stands_as who start now claims fetched posted f g e s = record {
  asks = s.asks;
  answers = s.answers;
  puts = s.puts;
  took = s.took;
  goes = λ n more. s.goes n more ∙ ap (after s.asks) (e n more);
  fetches_are = s.fetches_are;
  posts_are = s.posts_are;
}

-- all that was put is a prefix
pub stands_prefix : (who : Caller) (start now : Line) (claims fetched posted : ℕ) (f : ℕ → List Answer → Talk) → Stands who start now claims fetched posted f → Breaks who start now claims None
stands_prefix who start now claims fetched posted f s = record {
  answers = s.answers;
  put = spelled who s.asks;
  puts = s.puts;
  took = s.took;
  prefix = λ n more. (
    spelled who (f n more).asks,
    ap (λ (t : Talk). spelled who t.asks) (s.goes n more) ∙ ap (spelled who) (asks_after s.asks (f n more)) ∙ spelled_append who s.asks (f n more).asks,
  );
  wronged = tt;
}

-- the talk ended at a response whose body is wrong
pub stands_wrong : (who : Caller) (start now : Line) (claims fetched posted : ℕ) (w : Wrong) → Stands who start now claims fetched posted (λ n more. ended (end.Wronged w)) → Breaks who start now claims (Some w)
unfolding stands_prefix
stands_wrong who start now claims fetched posted w s =
    let b = stands_prefix who start now claims fetched posted (λ n more. ended (end.Wronged w)) s in
    record {
      answers = b.answers;
      put = b.put;
      puts = b.puts;
      took = b.took;
      prefix = b.prefix;
      wronged = inr (λ n more. ap (λ (t : Talk). t.end) (s.goes n more) ∙ end_after s.asks (ended (end.Wronged w)));
    }

-- no response came
stopped_wrong : (who : Caller) (start old new : Line) (claims fetched posted : ℕ) (a : Ask) (f : ℕ → Answer → List Answer → Talk) (w : Option Wrong)
    → (s : Stands who start old claims fetched posted (λ n more. onto a (answered (f n) more))) → Stopped old new (spell who a) w → IfWronged who w claims s.answers new
stopped_wrong who start old new claims fetched posted a f None s x = tt
stopped_wrong who start old new claims fetched posted a f (Some w) s x =
    inl (x.why, λ n. ap (λ (z : List Answer). (talk who (claims + n) z).end) (sym (append-nil s.answers)) ∙ ap (λ (t : Talk). t.end) (s.goes n []) ∙ end_after s.asks (onto a (ended end.Wants)))

pub stands_stopped : (who : Caller) (start old new : Line) (claims fetched posted : ℕ) (a : Ask) (f : ℕ → Answer → List Answer → Talk) (w : Option Wrong)
    → Stands who start old claims fetched posted (λ n more. onto a (answered (f n) more)) → Stopped old new (spell who a) w → Breaks who start new claims w
stands_stopped who start old new claims fetched posted a f w s x = record {
  answers = s.answers;
  put = spelled who s.asks ++ x.put;
  puts = Appends-trans start.held old.held new.held (spelled who s.asks) x.put s.puts x.puts;
  took = took_bytes start old new s.answers x.prefix s.took x.took x.ahead;
  prefix = λ n more.
      (let t = answered (f n) more in (
        x.rest ++ spelled who t.asks,
        ap (λ (u : Talk). spelled who u.asks) (s.goes n more)
            ∙ ap (spelled who) (asks_after s.asks (onto a t))
            ∙ spelled_append who s.asks (a ∷ t.asks)
            ∙ ap (λ z. spelled who s.asks ++ (z ++ spelled who t.asks)) x.whole
            ∙ ap (λ z. spelled who s.asks ++ z) (append_assoc x.put x.rest (spelled who t.asks))
            ∙ sym (append_assoc (spelled who s.asks) x.put (x.rest ++ spelled who t.asks)),
      ));
  wronged = stopped_wrong who start old new claims fetched posted a f w s x;
}

-- what an asked request leaves, by whether its response came
pub asked_ok : (who : Caller) (start old new : Line) (claims fetched posted : ℕ) (a : Ask) (f : ℕ → Answer → List Answer → Talk) (w : Option Wrong) (asked body : List ℕ) (code : ℕ) (u : Unit {0})
    → asked ≡ spell who a → Exchanged old new asked (answer_with code body)
    → Stands who start old claims fetched posted (λ n more. onto a (answered (f n) more)) → Asked who start new claims (count_fetch a fetched) (count_post a posted) f w body (Ok u)
asked_ok who start old new claims fetched posted a f w asked body code u is x s =
    (answer_with code body, refl, stands_more who start old new claims fetched posted a f (answer_with code body) s (subst (λ (z : List ℕ). Exchanged old new z (answer_with code body)) is x))

pub asked_err : (who : Caller) (start old new : Line) (claims fetched posted : ℕ) (a : Ask) (f : ℕ → Answer → List Answer → Talk) (w v : Option Wrong) (asked : List ℕ)
    → asked ≡ spell who a → Stopped old new asked v → w ≡ v
    → Stands who start old claims fetched posted (λ n more. onto a (answered (f n) more)) → Breaks who start new claims w
asked_err who start old new claims fetched posted a f w v asked is x e s =
    subst (λ (z : Option Wrong). Breaks who start new claims z) (sym e)
    (stands_stopped who start old new claims fetched posted a f v s (subst (λ (z : List ℕ). Stopped old new z v) is x))

-- what comes behind the response to the request for the case of a task
abbrev pub case_heard : Caller → Option (List ℕ) → Task → ℕ → Answer → List Answer → Talk
case_heard who has task n a more = job_next (turns who n) task more (job_said has task a.body)

-- what asks for the case of a task counts as no other request
pub case_asked : (who : Caller) (start old new : Line) (claims fetched posted : ℕ) (has : Option (List ℕ)) (task : Task) (a : Ask) (f : ℕ → Answer → List Answer → Talk) (w : Option Wrong) (body : List ℕ) (result : Result (Unit {0}) BenchFault)
    → a ≡ case_ask has task
    → (Stands who start old claims fetched posted (λ n more. onto a (answered (f n) more)) → Asked who start new claims (count_fetch a fetched) (count_post a posted) f w body result)
    → Stands who start old claims fetched posted (λ n more. onto (case_ask has task) (answered (f n) more)) → Asked who start new claims fetched posted f w body result
case_asked who start old new claims fetched posted None task a f w body result is asks =
    subst (λ (z : Ask). Stands who start old claims fetched posted (λ n more. onto z (answered (f n) more)) → Asked who start new claims (count_fetch z fetched) (count_post z posted) f w body result) is asks
case_asked who start old new claims fetched posted (Some image) task a f w body result is asks =
    subst (λ (z : Ask). Stands who start old claims fetched posted (λ n more. onto z (answered (f n) more)) → Asked who start new claims (count_fetch z fetched) (count_post z posted) f w body result) is asks

-- nothing was asked
pub asked_nothing : (who : Caller) (start now : Line) (claims fetched posted : ℕ) (f : ℕ → List Answer → Talk) (w : Option Wrong) → w ≡ None → Stands who start now claims fetched posted f → Breaks who start now claims w
asked_nothing who start now claims fetched posted f w e s = subst (λ (z : Option Wrong). Breaks who start now claims z) (sym e) (stands_prefix who start now claims fetched posted f s)

-- a response whose body was not read for want of memory
pub unread : (who : Caller) (start now : Line) (claims fetched posted : ℕ) (f : ℕ → Answer → List Answer → Talk) (w v : Option Wrong) (body : List ℕ) (u : Unit {0}) → v ≡ None → Asked who start now claims fetched posted f w body (Ok u) → Breaks who start now claims v
unread who start now claims fetched posted f w v body u e x = asked_nothing who start now claims fetched posted (λ n more. f n x.0 more) v e x.2

-- what is said stands for what its body says
pub said_as : {S : Type 0} (who : Caller) (start now : Line) (claims fetched posted : ℕ) (f : ℕ → S → List Answer → Talk) (reads : List ℕ → S) (w : Option Wrong) (body : List ℕ) (u : Unit {0}) (said : S)
    → Asked who start now claims fetched posted (λ n a more. f n (reads a.body) more) w body (Ok u) → said ≡ reads body → Stands who start now claims fetched posted (λ n more. f n said more)
said_as {S} who start now claims fetched posted f reads w body u said x e =
    stands_as who start now claims fetched posted (λ n more. f n (reads x.0.body) more) (λ n more. f n said more) (λ n more. ap (λ (z : S). f n z more) (ap reads x.1 ∙ sym e)) x.2

-- a body that is wrong ends the talk
pub said_wrong : (who : Caller) (start now : Line) (claims fetched posted : ℕ) (w v : Option Wrong) (q : Wrong) → v ≡ Some q → Stands who start now claims fetched posted (λ n more. ended (end.Wronged q)) → Breaks who start now claims v
said_wrong who start now claims fetched posted w v q e s = subst (λ (z : Option Wrong). Breaks who start now claims z) (sym e) (stands_wrong who start now claims fetched posted q s)

pub first_is : (v : Option Wrong) (q : Wrong) → v ≡ None → first_wrong v q ≡ Some q
first_is v q e = rw e refl

pub err_same : (e f : BenchFault) (r : Result (Unit {0}) BenchFault) → r ≡ Err e → r ≡ Err f → e ≡ f
err_same e f r h q = cc

-- a count rose where the connection failed or a wrong answer was met
pub link_rose : (a b m n : ℕ) (h : Halt) → a ≤ b → m ≤ n → (h ≡ halt.Failed → Rose a b) → (h ≡ halt.Failed) ⊎ Rose m n → Rose (a + m) (b + n)
link_rose a b m n h ab mn failed (inl f) = omega (arith, failed f, ab, mn)
link_rose a b m n h ab mn failed (inr r) = omega (arith, r, ab, mn)

-- a count that rose is not 0
pub rose_some : (before now : ℕ) → Rose before now → 1 ≤ now
rose_some before now r = omega (arith, r)

-- want of memory is no failure
pub memory_kept : (h : Halt) (before now : ℕ) → h ≡ halt.NoMemory → (◌≢◌ {A = Result (Unit {0}) Halt} (Err h) (Err halt.Failed) → ◌≢◌ {A = Result (Unit {0}) Halt} (Err h) (Err (halt.Wrong wrong.BadHead)) → now ≡ before) → now ≡ before
memory_kept h before now is kept = kept (λ q. cc) (λ q. cc)
