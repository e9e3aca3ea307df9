-- How the serving goes on, and how it ends.
use Rattle.std.proofs.Common.{◌≡◌, ℕ, ◌+◌, ◌<◌, ◌≤◌, ◌⊎◌, inl, inr, ⊎_elim, List, [], ◌∷◌, ◌++◌, Option, Result, Ok, Err, length, refl, sym, ap, ◌∙◌, subst, arith, append-nil}
use Rattle.std.proofs.lemmas.List.{length-append}
use Rattle.std.specs.Io.KnownBytes.{Appends}
use Rattle.farm_io.specs.Doors.{IsEmpty}
use Rattle.farm_board.specs.Passes.{BoardId}
use Rattle.contest_server.specs.declared.ends.ServeEnd.{ServeEnd}
use Rattle.contest_server.specs.declared.ends.ServeEnd.TheVariants as end
use Rattle.contest_server.specs.declared.lines.TextFault.{TextFault}
use Rattle.contest_server.specs.declared.lines.TextFault.TheVariants as fault
use Rattle.contest_server.specs.declared.accepting.Coming.{Coming}
use Rattle.contest_server.specs.declared.accepting.Coming.TheVariants as coming
use Rattle.contest_server.specs.Visits.{Watch, Start, Visit, conn_lines}
use Rattle.contest_server.specs.Texts.{WritesPrefix}
use Rattle.contest_server.specs.Serving.{DeskValue, StaysOrderly, Opening, WritesSome, Tells, TellsUpTo, TellsAll, TellsSome, TellsFirst, TakesAll, AcceptsNext, MakesRoom, with_coming, ServesNext, IsUnderWay, Wrote, IfWhole, end_of, end_after, EndsWith, Rests, ServesAll, ServesLanes}
use Rattle.farm_board.proofs.Prefixes.{prefix_self, prefix_trans}
use Rattle.contest_server.proofs.Telling.{whole_prefix, prefix_of_more, lines_both}

stays_through : {N : Type 0} (w : Watch N) (board : BoardId) (a b c : DeskValue N) → StaysOrderly w board a b → StaysOrderly w board b c → StaysOrderly w board a c
stays_through {N} w board a b c s t = record { orderly = t.orderly; seats = t.seats ∙ s.seats }

-- all lines are some of them
whole_some : {N : Type 0} (why : TextFault) (old new : Option (List ℕ)) (visits : List (Visit N)) → Appends old new (conn_lines 1 visits) → WritesSome why old new visits
whole_some fault.WriteFault old new visits h = whole_prefix old new (conn_lines 1 visits) h
whole_some fault.NoMemory old new visits h = record { told = visits; first = prefix_self visits; wrote = h }

told_whole : {N : Type 0} (w : Watch N) (o : Opening N) (d : DeskValue N) (held : Option (List ℕ)) (n : ℕ) (why : TextFault) → Tells w o d held n → TellsUpTo w o d held n why
told_whole {N} w o d held n why t = record { visits = t.visits; stands = t.stands; count = t.count; wrote = whole_some why o.held held t.visits t.wrote }

-- The next one

-- there was room, once those were told that have ended
pub room_at_once : {N : Type 0} (w : Watch N) (board : BoardId) (old new : DeskValue N) (held held' : Option (List ℕ)) (n : ℕ) (result : Result (Unit {0}) TextFault) → TellsSome w board old new held held' n result → MakesRoom w board old new held held' n result
room_at_once {N} w board old new held held' n result t = record { stays = t.stays; fewer = t.fewer; told = t.told }

-- there was room once the first one was told too
pub room_behind : {N : Type 0} (w : Watch N) (board : BoardId) (old mid new : DeskValue N) (held held' held'' : Option (List ℕ)) (n : ℕ) (u : Unit {0}) (result : Result (Unit {0}) TextFault)
    → TellsSome w board old mid held held' n (Ok u) → TellsFirst w board mid new held' held'' n result → MakesRoom w board old new held held'' n result
room_behind {N} w board old mid new held held' held'' n u result t f =
    let fewer_before = t.fewer in
    let fewer_now = f.fewer in
    record {
      stays = stays_through w board old mid new t.stays f.stays;
      fewer = omega (arith, fewer_before, fewer_now);
      told = λ o h. f.told o (t.told o h);
    }

coming_up : (c : Coming) (n m : ℕ) → n ≤ m → with_coming n c ≤ with_coming m c
coming_up coming.Conn n m le = omega (arith, le)
coming_up coming.End n m le = le
coming_up coming.Failed n m le = le

pub serves_next : {N : Type 0} (w : Watch N) (board : BoardId) (old mid new : DeskValue N) (held held' : Option (List ℕ)) (n : ℕ) (u : Unit {0}) (c : Coming) → MakesRoom w board old mid held held' n (Ok u) → AcceptsNext w board mid new c → ServesNext w board old new held held' n (Ok c)
serves_next {N} w board old mid new held held' n u c m a =
    let up = coming_up c (length mid.starts) (length old.starts) m.fewer in
    let more = a.more in
    record {
      stays = stays_through w board old mid new m.stays a.stays;
      more = omega (arith, up, more);
      ended = a.ended;
      told = λ o t. a.told o held' n (m.told o t);
    }

pub no_memory_next : {N : Type 0} (w : Watch N) (board : BoardId) (old new : DeskValue N) (held held' : Option (List ℕ)) (n : ℕ) (u : Unit {0}) → MakesRoom w board old new held held' n (Ok u) → ServesNext w board old new held held' n (Err fault.NoMemory)
no_memory_next {N} w board old new held held' n u m =
    let fewer = m.fewer in
    record { stays = m.stays; more = omega (arith, fewer); ended = tt; told = λ o t. told_whole w o new held' n fault.NoMemory (m.told o t) }

pub no_room_next : {N : Type 0} (w : Watch N) (board : BoardId) (old new : DeskValue N) (held held' : Option (List ℕ)) (n : ℕ) (why : TextFault) → MakesRoom w board old new held held' n (Err why) → ServesNext w board old new held held' n (Err why)
no_room_next {N} w board old new held held' n why m =
    let fewer = m.fewer in
    record { stays = m.stays; more = omega (arith, fewer); ended = tt; told = m.told }

pub goes_on : {N : Type 0} (w : Watch N) (board : BoardId) (first now new : DeskValue N) (held held' held'' : Option (List ℕ)) (n : ℕ) → IsUnderWay w board first now held held' n → ServesNext w board now new held' held'' n (Ok coming.Conn) → IsUnderWay w board first new held held'' (n + 1)
goes_on {N} w board first now new held held' held'' n u s =
    let few = u.few in
    let more = s.more in
    record {
      stays = stays_through w board first now new u.stays s.stays;
      few = omega (arith, few, more);
      told = λ o t. s.told o (u.told o t);
    }

-- The end

whole_wrote : {N : Type 0} (e : ServeEnd) (old new : Option (List ℕ)) (visits : List (Visit N)) → Appends old new (conn_lines 1 visits) → Wrote e old new visits
whole_wrote end.Done old new visits h = h
whole_wrote end.DoorFault old new visits h = h
whole_wrote end.WriteFault old new visits h = whole_some fault.WriteFault old new visits h
whole_wrote end.NoMemory old new visits h = whole_some fault.NoMemory old new visits h

whole_end : {N : Type 0} (e : ServeEnd) (starts : List (Start N)) → starts ≡ [] → IfWhole e starts
whole_end end.Done starts none = none
whole_end end.DoorFault starts none = none
whole_end end.WriteFault starts none = tt
whole_end end.NoMemory starts none = tt

-- what is known where the lines of all that came were to be written
pub record Before {N : Type 0} (w : Watch N) (board : BoardId) (first now : DeskValue N) (held held' : Option (List ℕ)) (n most : ℕ) (e : ServeEnd) : Type 0 where
  pub stays : StaysOrderly w board first now
  pub within : n ≤ most
  pub told : (o : Opening N) → Tells w o first held 0 → Tells w o now held' n
  pub done : e ≡ end.Done → (n ≡ most) ⊎ IsEmpty now.door.coming

ends_told : {N : Type 0} (w : Watch N) (board : BoardId) (first now new : DeskValue N) (held held' held'' : Option (List ℕ)) (n most : ℕ) (e : ServeEnd) (u : Unit {0}) → Before w board first now held held' n most e → TellsAll w board now new held' held'' n (Ok u)
    → ServesAll w board first new held held'' most e
ends_told {N} w board first now new held held' held'' n most e u b t =
    let within = b.within in
    let none : new.starts ≡ [] = t.none in
    let empty : length new.starts ≡ 0 = ap (λ (xs : List (Start N)). length xs) none in
    record {
      stays = stays_through w board first now new b.stays t.stays;
      whole = whole_end e new.starts none;
      rests = λ o h. let s : Tells w o new held'' n = t.told o (b.told o h) in let count = s.count in record {
        visits = s.visits;
        stands = s.stands;
        few = omega (arith, count, within);
        wrote = whole_wrote e o.held held'' s.visits s.wrote;
        done = λ is. ⊎_elim (λ (all : n ≡ most). inl (omega (arith, count, empty, all)))
            (λ (none_left : IsEmpty now.door.coming). inr (subst (λ (z : Option (List N)). IsEmpty z) (sym t.coming) none_left)) (b.done is);
      };
    }

not_done : (why : TextFault) → end_of why ≡ end.Done → ⊥
not_done fault.WriteFault is = cc is
not_done fault.NoMemory is = cc is

not_whole : {N : Type 0} (why : TextFault) (starts : List (Start N)) → IfWhole (end_of why) starts
not_whole fault.WriteFault starts = tt
not_whole fault.NoMemory starts = tt

some_wrote : {N : Type 0} (why : TextFault) (old new : Option (List ℕ)) (visits : List (Visit N)) → WritesSome why old new visits → Wrote (end_of why) old new visits
some_wrote fault.WriteFault old new visits h = h
some_wrote fault.NoMemory old new visits h = h

some_rests : {N : Type 0} (w : Watch N) (o : Opening N) (d : DeskValue N) (held : Option (List ℕ)) (n most : ℕ) (why : TextFault) → n ≤ most → TellsUpTo w o d held n why → Rests w o d held most (end_of why)
some_rests {N} w o d held n most why within t = let count = t.count in record {
  visits = t.visits;
  stands = t.stands;
  few = omega (arith, count, within);
  wrote = some_wrote why o.held held t.visits t.wrote;
  done = λ is. absurd (not_done why is);
}

ends_prefix : {N : Type 0} (w : Watch N) (board : BoardId) (first now new : DeskValue N) (held held' held'' : Option (List ℕ)) (n most : ℕ) (e : ServeEnd) (why : TextFault) → Before w board first now held held' n most e → TellsAll w board now new held' held'' n (Err why)
    → ServesAll w board first new held held'' most (end_of why)
ends_prefix {N} w board first now new held held' held'' n most e why b t = record {
  stays = stays_through w board first now new b.stays t.stays;
  whole = not_whole why new.starts;
  rests = λ o h. some_rests w o new held'' n most why b.within (t.told o (b.told o h));
}

ends_by : {N : Type 0} (w : Watch N) (board : BoardId) (first now new : DeskValue N) (held held' held'' : Option (List ℕ)) (n most : ℕ) (e : ServeEnd) (told : Result (Unit {0}) TextFault) → Before w board first now held held' n most e → TellsAll w board now new held' held'' n told
    → ServesAll w board first new held held'' most (end_after e told)
ends_by {N} w board first now new held held' held'' n most e (Ok u) b t = ends_told w board first now new held held' held'' n most e u b t
ends_by {N} w board first now new held held' held'' n most e (Err why) b t = ends_prefix w board first now new held held' held'' n most e why b t

pub ends : {N : Type 0} (w : Watch N) (board : BoardId) (first now new : DeskValue N) (held held' held'' : Option (List ℕ)) (faults faults' n most : ℕ) (e result : ServeEnd) → Before w board first now held held' n most e
    → EndsWith w board now new held' held'' faults faults' n e result → ServesAll w board first new held held'' most result
ends {N} w board first now new held held' held'' faults faults' n most e result b x =
    subst (λ (z : ServeEnd). ServesAll w board first new held held'' most z) (sym x.is) (ends_by w board first now new held held' held'' n most e x.told b x.tells)

-- all that were asked for came
pub before_all : {N : Type 0} (w : Watch N) (board : BoardId) (first now : DeskValue N) (held held' : Option (List ℕ)) (n most : ℕ) → n ≡ most → IsUnderWay w board first now held held' n → Before w board first now held held' most most end.Done
before_all {N} w board first now held held' n most all u = record {
  stays = u.stays;
  within = omega arith;
  told = λ o t. subst (λ (k : ℕ). Tells w o now held' k) all (u.told o t);
  done = λ is. inl refl;
}

-- none is left to come
pub before_end : {N : Type 0} (w : Watch N) (board : BoardId) (first now new : DeskValue N) (held held' held'' : Option (List ℕ)) (n most : ℕ) → n < most → IsUnderWay w board first now held held' n → ServesNext w board now new held' held'' n (Ok coming.End)
    → Before w board first new held held'' n most end.Done
before_end {N} w board first now new held held' held'' n most within u s = record {
  stays = stays_through w board first now new u.stays s.stays;
  within = omega (arith, within);
  told = λ o t. s.told o (u.told o t);
  done = λ is. inr s.ended;
}

-- the door failed
pub before_fault : {N : Type 0} (w : Watch N) (board : BoardId) (first now new : DeskValue N) (held held' held'' : Option (List ℕ)) (n most : ℕ) → n < most → IsUnderWay w board first now held held' n → ServesNext w board now new held' held'' n (Ok coming.Failed)
    → Before w board first new held held'' n most end.DoorFault
before_fault {N} w board first now new held held' held'' n most within u s = record {
  stays = stays_through w board first now new u.stays s.stays;
  within = omega (arith, within);
  told = λ o t. s.told o (u.told o t);
  done = λ is. absurd (cc is);
}

-- a line was not written whole
pub ends_broken : {N : Type 0} (w : Watch N) (board : BoardId) (first now new : DeskValue N) (held held' held'' : Option (List ℕ)) (n most : ℕ) (why : TextFault) → n < most → IsUnderWay w board first now held held' n → ServesNext w board now new held' held'' n (Err why)
    → ServesAll w board first new held held'' most (end_of why)
ends_broken {N} w board first now new held held' held'' n most why within u s = record {
  stays = stays_through w board first now new u.stays s.stays;
  whole = not_whole why new.starts;
  rests = λ o h. some_rests w o new held'' n most why (omega (arith, within)) (s.told o (u.told o h));
}

-- Those that were still being served are taken in

no_more : {X : Type 0} (xs : List X) → length xs ≡ 0 → xs ≡ []
no_more [] none = refl
no_more (x ∷ xs) none = absurd (omega (arith, none))

more_wrote : {N : Type 0} (e : ServeEnd) (old new : Option (List ℕ)) (visits more : List (Visit N)) (starts : List (Start N)) → IfWhole e starts → length more ≡ length starts → Wrote e old new visits → Wrote e old new (visits ++ more)
more_wrote {N} end.Done old new visits more starts whole len h =
    let none : more ≡ [] = no_more more (len ∙ ap (λ (xs : List (Start N)). length xs) whole) in
    subst (λ (vs : List (Visit N)). Appends old new (conn_lines 1 vs)) (sym (ap (λ (vs : List (Visit N)). visits ++ vs) none ∙ append-nil visits)) h
more_wrote {N} end.DoorFault old new visits more starts whole len h =
    let none : more ≡ [] = no_more more (len ∙ ap (λ (xs : List (Start N)). length xs) whole) in
    subst (λ (vs : List (Visit N)). Appends old new (conn_lines 1 vs)) (sym (ap (λ (vs : List (Visit N)). visits ++ vs) none ∙ append-nil visits)) h
more_wrote {N} end.WriteFault old new visits more starts whole len h =
    subst (λ (xs : List ℕ). WritesPrefix old new xs) (sym (lines_both 1 visits more)) (prefix_of_more old new (conn_lines 1 visits) (conn_lines (1 + length visits) more) h)
more_wrote {N} end.NoMemory old new visits more starts whole len h =
    record { told = h.told; first = prefix_trans h.told visits (visits ++ more) h.first (more, refl); wrote = h.wrote }

whole_done : {N : Type 0} (e : ServeEnd) (starts : List (Start N)) → IfWhole e starts → e ≡ end.Done → length starts ≡ 0
whole_done {N} end.Done starts whole is = ap (λ (xs : List (Start N)). length xs) whole
whole_done end.DoorFault starts whole is = absurd (cc is)
whole_done end.WriteFault starts whole is = absurd (cc is)
whole_done end.NoMemory starts whole is = absurd (cc is)

pub serves_lanes : {N : Type 0} (w : Watch N) (board : BoardId) (old now new : DeskValue N) (held held' : Option (List ℕ)) (most : ℕ) (e : ServeEnd) → ServesAll w board old now held held' most e → TakesAll w board now new → ServesLanes w board old new held held' most e
serves_lanes {N} w board old now new held held' most e s t =
    let empty : length new.starts ≡ 0 = ap (λ (xs : List (Start N)). length xs) t.none in
    record {
      orderly = t.stays.orderly;
      rests = λ o h.
          let r = s.rests o h in
          let more = t.taken o r.visits r.stands in
          let few = r.few in
          let len = length-append r.visits more.0 in
          let as_many = more.1 in
          record {
            visits = r.visits ++ more.0;
            stands = more.2;
            few = omega (arith, few, len, as_many, empty);
            wrote = more_wrote e o.held held' r.visits more.0 now.starts s.whole more.1 r.wrote;
            done = λ is. let none = whole_done e now.starts s.whole is in
                ⊎_elim (λ (all : length r.visits ≡ most). inl (omega (arith, len, as_many, none, all)))
                (λ (none_left : IsEmpty now.door.coming). inr (subst (λ (z : Option (List N)). IsEmpty z) (sym t.coming) none_left)) (r.done is);
          };
    }
