-- What was served, once the last `board` was asked for, or was not.
use Rattle.std.proofs.Common.{◌≡◌, ◌≢◌, ◌∙◌, ℕ, ◌⊎◌, ⊎_elim, inr, true, List, [], Option, None, Some, Result, Ok, Err, refl, sym, ap, subst, arith, append-nil}
use Rattle.std.proofs.lemmas.List.Elements.{All-nil}
use Rattle.std.specs.Io.KnownBytes.{Appends}
use Rattle.std.proofs.KnownBytes.{Appends-nil, Appends-trans}
use Rattle.farm_io.specs.Doors.{DoorState}
use Rattle.farm_kinds.specs.declared.events.Event.{Event}
use Rattle.farm_kinds.specs.declared.events.Reply.{Reply}
use Rattle.farm_kinds.specs.declared.events.Reply.TheVariants as reply
use Rattle.farm_model.specs.Texts.{reply_text}
use Rattle.farm_board.specs.BoardState.{BoardState}
use Rattle.farm_board.specs.Histories.{IsOpening}
use Rattle.farm_board.specs.Passes.{PassValue, TakesIn}
use Rattle.judge_feed.specs.Showing.{are_looks}
use Rattle.contest_server.specs.declared.ends.ServeEnd.{ServeEnd}
use Rattle.contest_server.specs.declared.ends.ServeEnd.TheVariants as end
use Rattle.contest_server.specs.declared.lines.TextFault.{TextFault}
use Rattle.contest_server.specs.declared.lines.TextFault.TheVariants as fault
use Rattle.contest_server.specs.Visits.{Watch, Visit, IsVisit, conn_lines}
use Rattle.contest_server.specs.Texts.{WritesPrefix, PutsText, HasCauseTold}
use Rattle.contest_server.specs.Serving.{Came, with_all, desk_value, Opening, Tells, Wrote, end_after, Rests, HasCauseEnd}
use Rattle.contest_server.specs.Beside.{HasSplit}
use Rattle.contest_server.specs.Served.{IsAsked, ShowsBoard, Finishes, HasWritten, HasServed, Serves}
use Rattle.contest_server.proofs.Beside.{feed_beside, feed_joins}
use Rattle.contest_server.proofs.Telling.{rose_since, prefix_behind}
use Rattle.contest_server.proofs.Whole.{history_without, history_with}

-- Before any connection

came_none : {N : Type 0} (a : Option (List N)) → Came a a []
came_none None = refl
came_none (Some all) = (all, refl, refl)

back_none : {N : Type 0} (a : Option (List N)) → a ≡ with_all a []
back_none None = refl
back_none (Some back) = ap Some (sym (append-nil back))

-- the serving begins with this door, what is held, and what the opening pass has entered before it split off the feed's
abbrev pub opening_of : {N : Type 0} → DoorState N → Option (List ℕ) → (start : BoardState) (events : List Event) (pass own : PassValue) → HasSplit start events pass own → Opening N
opening_of door held start events pass own h = record { door = door; held = held; start = start; calls = h.entered.calls; feed = own.number }

pub tells_none : {N : Type 0} (w : Watch N) (door : DoorState N) (held : Option (List ℕ)) (start : BoardState) (events : List Event) (pass own : PassValue) → IsOpening start → (h : HasSplit start events pass own)
    → Tells w (opening_of door held start events pass own h) (desk_value door pass []) held 0
tells_none {N} w door held start events pass own o h = record {
  visits = [];
  stands = record {
    opening = o;
    door = record { came = came_none door.coming; back = back_none door.back; accepted = omega arith; returned = omega arith; listens = refl };
    beside = feed_beside start events pass own h;
    each = All-nil (IsVisit w);
  };
  count = refl;
  wrote = Appends-nil held;
}

-- The last `board`

asked_not : (e : ServeEnd) → e ≢ end.Done → IsAsked e None
asked_not end.Done other = absurd (other refl)
asked_not end.DoorFault other = refl
asked_not end.WriteFault other = λ is. cc
asked_not end.NoMemory other = tt

-- the text of want of memory is not written
told_not : (r : Reply) (told : Result (Unit {0}) TextFault) → told ≢ Err fault.NoMemory → (r ≡ reply.NoMemory → told ≡ Err fault.NoMemory) → r ≢ reply.NoMemory
told_not r told other known is = other (known is)

some_same : (r s : Reply) → Some r ≡ Some s → r ≡ s
some_same r s is = cc

asked_is : (told : Result (Unit {0}) TextFault) (r : Reply) → (r ≡ reply.NoMemory → told ≡ Err fault.NoMemory) → IsAsked (end_after end.Done told) (Some r)
asked_is (Ok u) r known = (r, refl, told_not r (Ok u) (λ q. cc) known)
asked_is (Err fault.WriteFault) r known = λ is. told_not r (Err fault.WriteFault) (λ q. cc) known (some_same r reply.NoMemory is)
asked_is (Err fault.NoMemory) r known = tt

-- the lines alone
lines_alone : {N : Type 0} (e : ServeEnd) (old new : Option (List ℕ)) (visits : List (Visit N)) → Wrote e old new visits → HasWritten e old new visits None
lines_alone end.Done old new visits h = subst (λ (text : List ℕ). Appends old new text) (sym (append-nil (conn_lines 1 visits))) h
lines_alone end.DoorFault old new visits h = subst (λ (text : List ℕ). Appends old new text) (sym (append-nil (conn_lines 1 visits))) h
lines_alone end.WriteFault old new visits h = subst (λ (text : List ℕ). WritesPrefix old new text) (sym (append-nil (conn_lines 1 visits))) h
lines_alone end.NoMemory old new visits h = h

-- a text behind the lines
behind_lines : {N : Type 0} (told : Result (Unit {0}) TextFault) (a b c : Option (List ℕ)) (visits : List (Visit N)) (r : Reply) → Appends a b (conn_lines 1 visits) → PutsText b c (reply_text r) told → HasWritten (end_after end.Done told) a c visits (Some r)
behind_lines (Ok u) a b c visits r h puts = Appends-trans a b c (conn_lines 1 visits) (reply_text r) h puts
behind_lines (Err fault.WriteFault) a b c visits r h puts = prefix_behind a b c (conn_lines 1 visits) (reply_text r) h puts
behind_lines (Err fault.NoMemory) a b c visits r h puts = subst (λ (z : Option (List ℕ)). Appends a z (conn_lines 1 visits)) (sym puts) h

-- where all was done, what was written is whole
whole_done : {N : Type 0} (e : ServeEnd) (old new : Option (List ℕ)) (visits : List (Visit N)) → e ≡ end.Done → Wrote e old new visits → Appends old new (conn_lines 1 visits)
whole_done e old new visits is h = subst (λ (z : ServeEnd). Wrote z old new visits) is h

-- the last `board` was not asked for
pub served_without : {N : Type 0} (w : Watch N) (start : BoardState) (events : List Event) (door door' : DoorState N) (pass own pass' from pass'' : PassValue) (held held' : Option (List ℕ)) (most : ℕ) (e : ServeEnd) → e ≢ end.Done → IsOpening start
    → (h : HasSplit start events pass own) → Rests w (opening_of door held start events pass own h) (desk_value door' pass' []) held' most e
    → from.number ≡ own.number → are_looks from.mine ≡ true → TakesIn pass' from pass'' → HasServed w start events door door' held held' most e
served_without {N} w start events door door' pass own pass' from pass'' held held' most e other o h r number looks t =
    let few = r.few in
    let joined = feed_joins start h.entered.calls own.number r.visits pass' from pass'' o number r.stands.beside t in record {
      visits = r.visits;
      each = r.stands.each;
      back = r.stands.door;
      few = omega (arith, few);
      done = r.done;
      board = None;
      asked = asked_not e other;
      history = pass''.seen;
      stands = history_without w start events own.number r.visits h.entered.calls pass'' from.mine o h.entered.events_are h.entered.effective r.stands.each joined.0 looks joined.1;
      wrote = lines_alone e held held' r.visits r.wrote;
    }

-- the last `board` was asked for
pub served_with : {N : Type 0} (w : Watch N) (start : BoardState) (events : List Event) (door door' : DoorState N) (pass own pass' from pass'' last : PassValue) (held held' held'' : Option (List ℕ)) (faults faults' most : ℕ) (e result : ServeEnd) → e ≡ end.Done → IsOpening start
    → (h : HasSplit start events pass own) → Rests w (opening_of door held start events pass own h) (desk_value door' pass' []) held' most e
    → from.number ≡ own.number → are_looks from.mine ≡ true → TakesIn pass' from pass'' → ShowsBoard pass'' last held' held'' faults faults' result → HasServed w start events door door' held held'' most result
served_with {N} w start events door door' pass own pass' from pass'' last held held' held'' faults faults' most e result is o h r number looks t s =
    let few = r.few in
    let joined = feed_joins start h.entered.calls own.number r.visits pass' from pass'' o number r.stands.beside t in
    subst (λ (z : ServeEnd). HasServed w start events door door' held held'' most z) (sym s.is)
    (record {
      visits = r.visits;
      each = r.stands.each;
      back = r.stands.door;
      few = omega (arith, few);
      done = λ _. r.done is;
      board = Some s.answer;
      asked = asked_is s.told s.answer s.known;
      history = last.seen;
      stands = history_with w start events own.number r.visits h.entered.calls pass'' last from.mine s.answer o h.entered.events_are h.entered.effective r.stands.each joined.0 looks joined.1 s.calls;
      wrote = behind_lines s.told held held' held'' r.visits s.answer (whole_done e held held' r.visits is r.wrote) s.puts;
    })

-- either way
pub finished : {N : Type 0} (w : Watch N) (start : BoardState) (events : List Event) (door door' : DoorState N) (pass own pass' from : PassValue) (held held' held'' : Option (List ℕ)) (faults faults' most : ℕ) (e result : ServeEnd) → IsOpening start
    → (h : HasSplit start events pass own) → Rests w (opening_of door held start events pass own h) (desk_value door' pass' []) held' most e
    → from.number ≡ own.number → are_looks from.mine ≡ true → Finishes pass' from held' held'' faults faults' e result → HasServed w start events door door' held held'' most result
finished {N} w start events door door' pass own pass' from held held' held'' faults faults' most e result o h r number looks f =
    ⊎_elim (λ (t : (e ≡ end.Done) × ((last : PassValue) × ShowsBoard f.whole last held' held'' faults faults' result)).
    served_with w start events door door' pass own pass' from f.whole t.1.0 held held' held'' faults faults' most e result t.0 o h r number looks f.takes t.1.1)
    (λ (t : (e ≢ end.Done) × (result ≡ e) × (held'' ≡ held') × (faults' ≡ faults)).
    subst (λ (z : ServeEnd × Option (List ℕ)). HasServed w start events door door' held z.1 most z.0) (λ i. (sym t.1 i, sym t.2 i))
    (served_without w start events door door' pass own pass' from f.whole held held' most e t.0 o h r number looks f.takes)) f.ends

done_is_no_fault : (e : ServeEnd) → e ≡ end.Done → e ≢ end.WriteFault
done_is_no_fault e is fault = let both : end.Done ≡ end.WriteFault = sym is ∙ fault in cc

told_cause : (door door' out out' out'' : ℕ) (e : ServeEnd) (told : Result (Unit {0}) TextFault) → e ≡ end.Done → HasCauseEnd door door' out out' e → HasCauseTold out' out'' told
    → HasCauseEnd door door' out out'' (end_after end.Done told)
told_cause door door' out out' out'' e (Ok u) is cause t =
    let same = t.kept (λ q. cc) ∙ cause.out_kept (done_is_no_fault e is) in
    record { door_later = cause.door_later; out_later = omega (arith, same); door_failed = λ q. cc; out_failed = λ q. cc; out_kept = λ _. same }
told_cause door door' out out' out'' e (Err fault.WriteFault) is cause t =
    let before = cause.out_later in
    let later = t.later in
    record {
      door_later = cause.door_later;
      out_later = omega (arith, before, later);
      door_failed = λ q. cc;
      out_failed = λ _. rose_since out out' out'' before (t.failed refl);
      out_kept = λ other. absurd (other refl);
    }
told_cause door door' out out' out'' e (Err fault.NoMemory) is cause t =
    let same = t.kept (λ q. cc) ∙ cause.out_kept (done_is_no_fault e is) in
    record { door_later = cause.door_later; out_later = omega (arith, same); door_failed = λ q. cc; out_failed = λ q. cc; out_kept = λ _. same }

shown_cause : (door door' out out' out'' : ℕ) (whole last : PassValue) (held' held'' : Option (List ℕ)) (e result : ServeEnd) → e ≡ end.Done → HasCauseEnd door door' out out' e → ShowsBoard whole last held' held'' out' out'' result
    → HasCauseEnd door door' out out'' result
shown_cause door door' out out' out'' whole last held' held'' e result is cause s =
    subst (λ (z : ServeEnd). HasCauseEnd door door' out out'' z) (sym s.is) (told_cause door door' out out' out'' e s.told is cause s.cause)

pub finished_cause : (door door' out out' out'' : ℕ) (pass from : PassValue) (held' held'' : Option (List ℕ)) (e result : ServeEnd) → HasCauseEnd door door' out out' e → Finishes pass from held' held'' out' out'' e result
    → HasCauseEnd door door' out out'' result
finished_cause door door' out out' out'' pass from held' held'' e result cause f =
    ⊎_elim (λ (t : (e ≡ end.Done) × ((last : PassValue) × ShowsBoard f.whole last held' held'' out' out'' result)). shown_cause door door' out out' out'' f.whole t.1.0 held' held'' e result t.0 cause t.1.1)
    (λ (t : (e ≢ end.Done) × (result ≡ e) × (held'' ≡ held') × (out'' ≡ out')). subst (λ (z : ServeEnd × ℕ). HasCauseEnd door door' out z.1 z.0) (λ i. (sym t.1 i, sym t.3 i)) cause) f.ends

pub serves : {N : Type 0} (w : Watch N) (start : BoardState) (events : List Event) (door door' : DoorState N) (held held' : Option (List ℕ)) (most : ℕ) (e : ServeEnd) → HasServed w start events door door' held held' most e
    → Serves w start events door door' held held' most e
serves w start events door door' held held' most end.Done h = h
serves w start events door door' held held' most end.DoorFault h = h
serves w start events door door' held held' most end.WriteFault h = h
serves w start events door door' held held' most end.NoMemory h = inr h
