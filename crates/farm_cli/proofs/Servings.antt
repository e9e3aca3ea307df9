-- A contest's serving among the commands.
use Rattle.std.proofs.Common.{◌≡◌, ◌≢◌, ◌≤◌, ℕ, List, Option, Some, None, Ok, Err, inl, inr, refl, sym, ap, ◌∙◌, subst, arith}
use Rattle.std.specs.Prelude.{◌⊎◌, Bool, false, IfSome, IsSome}
use Rattle.std.specs.declared.net.ip_addr.IpAddr.{IpAddr}
use Rattle.farm_tree.specs.declared.reads.TreeFile.{TreeFile}
use Rattle.farm_io.specs.declared.door.Listening.{Listening}
use Rattle.farm_io.specs.Doors.{DoorState, DoesListen, listening_at}
use Rattle.farm_io.specs.Streams.{Rose}
use Rattle.farm_model.specs.State.{start}
use Rattle.farm_kinds.specs.declared.events.Event.{Event}
use Rattle.farm_board.specs.BoardState.{BoardState}
use Rattle.farm_board.specs.Histories.{opening_board}
use Rattle.contest_folder.specs.RosterValue.{RosterValue}
use Rattle.contest_folder.specs.JudgingCases.{case_at}
use Rattle.contest_server.specs.declared.ends.ServeEnd.{ServeEnd}
use Rattle.contest_server.specs.declared.ends.ServeEnd.TheVariants as end
use Rattle.contest_server.specs.Contest.{entering_events, seats, view_of}
use Rattle.contest_server.specs.Visits.{Watch, on_board}
use Rattle.contest_server.specs.Serving.{HasCauseEnd}
use Rattle.contest_server.specs.Served.{Serves}
use Rattle.exit_status.specs.declared.exit.Exit.{Exit}
use Rattle.exit_status.specs.declared.exit.Exit.TheVariants as exit
use Rattle.command_line.specs.CommandLine.{CommandValue, Serve}
use Rattle.judge_commands.specs.Judged.{ContestIs, IsFaultLine, NoContestEnds, HasContest, ContestIsDone}
use Rattle.farm_cli.specs.ServedContest.{DoorUse, IsServed, IsUnasked, ServeEnds, exit_of, listening_of}
use Rattle.farm_cli.specs.Hosting.{LinkUse}
use Rattle.script_commands.specs.Scripted.{Streams}
use Rattle.script_commands.specs.Stored.{StoreUse}
use Rattle.farm_cli.specs.Commands.{CommandEnds, CommandIsDone}

-- T, S, K, D, L and Y: the tree, the input, the output, the door, the link and the disk have failed
pub serve_complete : {M : Type 0} (files : Option (List TreeFile)) (folder : List ℕ) (address : IpAddr) (port lanes connections patience : ℕ) (until_input_ends : Bool) (command : Option CommandValue) (link : LinkUse M) (store : StoreUse) (left : Option (List ℕ)) (T S K D L Y : Type 0) (e : Exit)
    → Some (Serve folder address port lanes connections patience until_input_ends) ≡ command → (HasContest files folder → ¬ T → ¬ D → ¬ K → (e ≡ exit.Done) ⊎ (e ≡ exit.Memory))
    → IfSome command (λ command. CommandIsDone files command link store left (¬ T × ¬ S × ¬ K × ¬ D × ¬ L × ¬ Y) e)
unfolding ContestIsDone
serve_complete files folder address port lanes connections patience until_input_ends command link store left T S K D L Y e is done =
    subst (λ (o : Option CommandValue). IfSome o (λ command. CommandIsDone files command link store left (¬ T × ¬ S × ¬ K × ¬ D × ¬ L × ¬ Y) e)) is
    (λ has faultless. done has faultless.0 faultless.3 faultless.2)

-- how `farm serve` ends, where the numbers of lanes, connections and seconds are those that the words say
pub serve_ends : {N M : Type 0} (files : Option (List TreeFile)) (folder : List ℕ) (address : IpAddr) (port lanes connections patience lanes' connections' patience' : ℕ) (until_input_ends : Bool)
    (command : Option CommandValue) (door : DoorUse N) (link : LinkUse M) (store : StoreUse) (old new : Streams) (unread unwritten : Type 0) (e : Exit)
    → Some (Serve folder address port lanes connections patience until_input_ends) ≡ command → lanes' ≡ lanes → connections' ≡ connections → patience' ≡ patience
    → unread → ServeEnds files folder (listening_of address port patience' until_input_ends) lanes' connections' door old.held new.held unwritten e
    → IfSome command (λ command. CommandEnds files command door link store old new unread unwritten e)
serve_ends files folder address port lanes connections patience lanes' connections' patience' until_input_ends command door link store old new unread unwritten e is lane count wait same ends =
    subst (λ (o : Option CommandValue). IfSome o (λ command. CommandEnds files command door link store old new unread unwritten e)) is (
      same,
      subst (λ (z : ℕ). ServeEnds files folder (listening_of address port patience until_input_ends) z connections door old.held new.held unwritten e) lane
          (subst (λ (z : ℕ). ServeEnds files folder (listening_of address port patience until_input_ends) lanes' z door old.held new.held unwritten e) count
          (subst (λ (z : ℕ). ServeEnds files folder (listening_of address port z until_input_ends) lanes' connections' door old.held new.held unwritten e) wait ends)),
    )

pub unserved : {N : Type 0} (files : Option (List TreeFile)) (folder : List ℕ) (at : Listening) (lanes connections : ℕ) (door : DoorUse N) (held held' : Option (List ℕ)) (unwritten : Type 0) (e : Exit)
    → IsUnasked door → NoContestEnds files folder held held' unwritten e → ServeEnds files folder at lanes connections door held held' unwritten e
unserved files folder at lanes connections door held held' unwritten exit.Done same h = absurd h
unserved files folder at lanes connections door held held' unwritten exit.Usage same h = h
unserved files folder at lanes connections door held held' unwritten exit.BadContest same h = (same, h)
unserved files folder at lanes connections door held held' unwritten exit.ReadFault same h = h
unserved files folder at lanes connections door held held' unwritten exit.WriteFault same h = inr (same, h)
unserved files folder at lanes connections door held held' unwritten exit.Memory same h = inr (same, h)
unserved files folder at lanes connections door held held' unwritten exit.TreeFault same h = (same, h)
unserved files folder at lanes connections door held held' unwritten exit.DoorFault same h = absurd h
unserved files folder at lanes connections door held held' unwritten exit.InputLimit same h = h
unserved files folder at lanes connections door held held' unwritten exit.LinkFault same h = h
unserved files folder at lanes connections door held held' unwritten (exit.BadAnswer answer) same h = h
unserved files folder at lanes connections door held held' unwritten exit.StoreFault same h = h
unserved files folder at lanes connections door held held' unwritten (exit.BadStore flaw) same h = h
unserved files folder at lanes connections door held held' unwritten (exit.StoreFull mark) same h = h

-- a folder that has a contest has no fault
no_fault : (files : Option (List TreeFile)) (folder text : List ℕ) → IsFaultLine files folder text → ¬ (HasContest files folder)
no_fault None folder text line has = has
no_fault (Some held) folder text line has = let both : Err line.fault ≡ Ok has.0 = sym line.found ∙ has.1 in cc

-- T, D and K: the tree, the door and the output have failed
pub refused_complete : (files : Option (List TreeFile)) (folder : List ℕ) (held held' : Option (List ℕ)) (unwritten T D K : Type 0) (e : Exit)
    → NoContestEnds files folder held held' unwritten e → (e ≡ exit.TreeFault → T) → (e ≡ exit.WriteFault → K)
    → HasContest files folder → ¬ T → ¬ D → ¬ K → (e ≡ exit.Done) ⊎ (e ≡ exit.Memory)
refused_complete files folder held held' unwritten T D K exit.Done h tree write has read door wrote = absurd h
refused_complete files folder held held' unwritten T D K exit.Usage h tree write has read door wrote = absurd h
refused_complete files folder held held' unwritten T D K exit.BadContest h tree write has read door wrote = absurd (no_fault files folder h.text h.is_text has)
refused_complete files folder held held' unwritten T D K exit.ReadFault h tree write has read door wrote = absurd h
refused_complete files folder held held' unwritten T D K exit.WriteFault h tree write has read door wrote = absurd (wrote (write refl))
refused_complete files folder held held' unwritten T D K exit.Memory h tree write has read door wrote = inr refl
refused_complete files folder held held' unwritten T D K exit.TreeFault h tree write has read door wrote = absurd (read (tree refl))
refused_complete files folder held held' unwritten T D K exit.DoorFault h tree write has read door wrote = absurd h
refused_complete files folder held held' unwritten T D K exit.InputLimit h tree write has read door wrote = absurd h
refused_complete files folder held held' unwritten T D K exit.LinkFault h tree write has read door wrote = absurd h
refused_complete files folder held held' unwritten T D K (exit.BadAnswer answer) h tree write has read door wrote = absurd h
refused_complete files folder held held' unwritten T D K exit.StoreFault h tree write has read door wrote = absurd h
refused_complete files folder held held' unwritten T D K (exit.BadStore flaw) h tree write has read door wrote = absurd h
refused_complete files folder held held' unwritten T D K (exit.StoreFull mark) h tree write has read door wrote = absurd h

by_end : {N : Type 0} (files : Option (List TreeFile)) (folder : List ℕ) (at : Listening) (lanes connections : ℕ) (door : DoorUse N) (held held' : Option (List ℕ)) (unwritten : Type 0) (ended : ServeEnd)
    → IsServed files folder at lanes connections door held held' ended → ServeEnds files folder at lanes connections door held held' unwritten (exit_of ended)
by_end files folder at lanes connections door held held' unwritten end.Done h = h
by_end files folder at lanes connections door held held' unwritten end.DoorFault h = inl h
by_end files folder at lanes connections door held held' unwritten end.WriteFault h = inl h
by_end files folder at lanes connections door held held' unwritten end.NoMemory h = inl h

-- a door that was told to listen does
pub does_listen : {N : Type 0} (old new : DoorState N) (at : Listening) → new ≡ listening_at old at → DoesListen new
does_listen old new at same = subst (λ d. DoesListen d) (sym same) refl

-- a door goes on to listen where the serving ends for want of memory
still_listens : {N : Type 0} (w : Watch N) (begun : BoardState) (events : List Event) (door door' : DoorState N) (held held' : Option (List ℕ)) (most : ℕ) → DoesListen door
    → Serves w begun events door door' held held' most end.NoMemory → DoesListen door'
still_listens w begun events door door' held held' most listens (inl same) = subst DoesListen (sym same.0) listens
still_listens w begun events door door' held held' most listens (inr served) = subst IsSome (sym served.back.listens) listens

pub listens_first : {N : Type 0} (w : Watch N) (begun : BoardState) (events : List Event) (door door' : DoorState N) (held held' : Option (List ℕ)) (most : ℕ) (ended : ServeEnd) (e : Exit)
    → e ≡ exit_of ended → DoesListen door → Serves w begun events door door' held held' most ended → e ≡ exit.Memory → DoesListen door'
listens_first w begun events door door' held held' most end.Done e is listens serves memory = let both : exit.Done ≡ exit.Memory = sym is ∙ memory in cc
listens_first w begun events door door' held held' most end.DoorFault e is listens serves memory = let both : exit.DoorFault ≡ exit.Memory = sym is ∙ memory in cc
listens_first w begun events door door' held held' most end.WriteFault e is listens serves memory = let both : exit.WriteFault ≡ exit.Memory = sym is ∙ memory in cc
listens_first w begun events door door' held held' most end.NoMemory e is listens serves memory = still_listens w begun events door door' held held' most listens serves

-- a contest that was served where the door was to listen
pub served : {N : Type 0} (files : Option (List TreeFile)) (folder : List ℕ) (at : Listening) (lanes connections : ℕ) (door : DoorUse N) (listening : DoorState N) (held held' : Option (List ℕ)) (unwritten : Type 0) (roster : RosterValue) (ended : ServeEnd) (e : Exit)
    → e ≡ exit_of ended → ContestIs files folder (Ok roster) → listening ≡ listening_at door.old at
    → Serves (on_board (opening_board (start roster.settings) (seats lanes) false) (case_at roster) (view_of roster) door.watch) (opening_board (start roster.settings) (seats lanes) false) (entering_events roster) listening door.new held held' connections ended
    → ServeEnds files folder at lanes connections door held held' unwritten e
served {N} files folder at lanes connections door listening held held' unwritten roster ended e is read same serves =
    let whole : IsServed files folder at lanes connections door held held' ended = record {
      roster = roster;
      read = read;
      serves = subst (λ (d : DoorState N). Serves (on_board (opening_board (start roster.settings) (seats lanes) false) (case_at roster) (view_of roster) door.watch) (opening_board (start roster.settings) (seats lanes) false) (entering_events roster) d door.new held held' connections ended) same serves;
    } in
    subst (λ (z : Exit). ServeEnds files folder at lanes connections door held held' unwritten z) (sym is)
    (by_end files folder at lanes connections door held held' unwritten ended whole)

-- what failed where a contest's serving ended as `ended`
pub write_failed : (door door' out out' : ℕ) (ended : ServeEnd) → HasCauseEnd door door' out out' ended → exit_of ended ≡ exit.WriteFault → Rose out out'
write_failed door door' out out' end.Done h is = let both : exit.Done ≡ exit.WriteFault = is in cc
write_failed door door' out out' end.DoorFault h is = let both : exit.DoorFault ≡ exit.WriteFault = is in cc
write_failed door door' out out' end.WriteFault h is = h.out_failed refl
write_failed door door' out out' end.NoMemory h is = let both : exit.Memory ≡ exit.WriteFault = is in cc

pub output_kept : (door door' out out' : ℕ) (ended : ServeEnd) → HasCauseEnd door door' out out' ended → exit_of ended ≢ exit.WriteFault → out' ≡ out
output_kept door door' out out' ended h other = h.out_kept (λ is. other (ap exit_of is))

pub door_failed : (first door door' out out' : ℕ) (ended : ServeEnd) → first ≤ door → HasCauseEnd door door' out out' ended → exit_of ended ≡ exit.DoorFault → Rose first door'
door_failed first door door' out out' end.Done later h is = let both : exit.Done ≡ exit.DoorFault = is in cc
door_failed first door door' out out' end.DoorFault later h is = omega (arith, later, h.door_failed refl)
door_failed first door door' out out' end.WriteFault later h is = let both : exit.WriteFault ≡ exit.DoorFault = is in cc
door_failed first door door' out out' end.NoMemory later h is = let both : exit.Memory ≡ exit.DoorFault = is in cc

pub ends_of_serving : (ended : ServeEnd) → (exit_of ended ≡ exit.Done) ⊎ (exit_of ended ≡ exit.DoorFault) ⊎ (exit_of ended ≡ exit.WriteFault) ⊎ (exit_of ended ≡ exit.Memory)
ends_of_serving end.Done = inl refl
ends_of_serving end.DoorFault = inr (inl refl)
ends_of_serving end.WriteFault = inr (inr (inl refl))
ends_of_serving end.NoMemory = inr (inr (inr refl))
