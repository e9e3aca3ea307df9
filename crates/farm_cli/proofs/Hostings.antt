-- A host's work among the commands.
use Rattle.std.proofs.Common.{◌≡◌, ◌≢◌, ℕ, List, [], length, Bool, Option, Some, None, Result, Ok, Err, true, false, inl, inr, refl, sym, ap, ◌∙◌, subst}
use Rattle.std.specs.Prelude.{◌⊎◌, IfSome, IfOk, nat_le, if◌then◌else◌}
use Rattle.farm_tree.specs.declared.reads.TreeFile.{TreeFile}
use Rattle.farm_tree.specs.declared.reads.TreeErr.TheVariants.{TooLarge}
use Rattle.farm_tree.specs.Reading.{IsReadAnswer, file_at, file_limit}
use Rattle.farm_io.specs.Streams.{Rose}
use Rattle.farm_io.specs.Doors.{DoorState, LetsIn, TakesBack}
use Rattle.exit_status.specs.declared.exit.Exit.{Exit}
use Rattle.exit_status.specs.declared.exit.Exit.TheVariants as exit
use Rattle.command_line.specs.CommandLine.{CommandValue, LoginValue, Host}
use Rattle.remote_host.specs.declared.asks.Caller.{Caller}
use Rattle.remote_host.specs.declared.asks.Wrong.{Wrong}
use Rattle.judgehost.specs.declared.bench.BenchFault.TheVariants as bench
use Rattle.judgehost.specs.declared.gate.Point.{Point}
use Rattle.judgehost.specs.declared.host.HostEnd.{HostEnd}
use Rattle.judgehost.specs.declared.host.HostEnd.TheVariants as host
use Rattle.remote_host.specs.declared.passwords.BadPassword.{BadPassword}
use Rattle.remote_host.specs.declared.passwords.BadPassword.TheVariants as bad
use Rattle.remote_host.specs.Passwords.{password_in, authorization}
use Rattle.remote_host.specs.Ends.{WorkedAs}
use Rattle.farm_cli.specs.Hosting.{LinkUse, Hosted, IsUnlinked, line_of, host_of, password_at, PasswordIs, IsCaller, HasPassword, IsCutOff, IsMisled, FaultEnds, ToldEnds, CallerEnds, NoPasswordEnds, NoLoginEnds, HostEnds, HostIsDone}
use Rattle.script_commands.specs.Stored.{StoreUse}
use Rattle.farm_cli.specs.Commands.{CommandIsDone}

-- K: the output has failed
host_done : {M : Type 0} (link : LinkUse M) (who : Caller) (fuel : ℕ) (held held' : Option (List ℕ)) (unwritten K : Type 0) (e : Exit) → CallerEnds link who fuel held held' unwritten e → (e ≡ exit.WriteFault → K)
    → ¬ K → ¬ Rose link.before link.now → ¬ ((h : Hosted link who fuel) × IsCutOff h.wrong h.end (link.faults h.back)) → ¬ ((h : Hosted link who fuel) × (answer : Wrong) × IsMisled h.wrong h.end answer)
    → (e ≡ exit.Done) ⊎ (e ≡ exit.Memory)
host_done link who fuel held held' unwritten K exit.Done h cause written steady uncut unmisled = inl refl
host_done link who fuel held held' unwritten K exit.Usage (inl h) cause written steady uncut unmisled = absurd h.1
host_done link who fuel held held' unwritten K exit.Usage (inr h) cause written steady uncut unmisled = absurd h.1
host_done link who fuel held held' unwritten K exit.BadContest (inl h) cause written steady uncut unmisled = absurd h.1
host_done link who fuel held held' unwritten K exit.BadContest (inr h) cause written steady uncut unmisled = absurd h.1
host_done link who fuel held held' unwritten K exit.ReadFault (inl h) cause written steady uncut unmisled = absurd h.1
host_done link who fuel held held' unwritten K exit.ReadFault (inr h) cause written steady uncut unmisled = absurd h.1
host_done link who fuel held held' unwritten K exit.WriteFault h cause written steady uncut unmisled = absurd (written (cause refl))
host_done link who fuel held held' unwritten K exit.Memory h cause written steady uncut unmisled = inr refl
host_done link who fuel held held' unwritten K exit.TreeFault (inl h) cause written steady uncut unmisled = absurd h.1
host_done link who fuel held held' unwritten K exit.TreeFault (inr h) cause written steady uncut unmisled = absurd h.1
host_done link who fuel held held' unwritten K exit.DoorFault (inl h) cause written steady uncut unmisled = absurd h.1
host_done link who fuel held held' unwritten K exit.DoorFault (inr h) cause written steady uncut unmisled = absurd h.1
host_done link who fuel held held' unwritten K exit.InputLimit (inl h) cause written steady uncut unmisled = absurd h.1
host_done link who fuel held held' unwritten K exit.InputLimit (inr h) cause written steady uncut unmisled = absurd h.1
host_done link who fuel held held' unwritten K exit.LinkFault (inl h) cause written steady uncut unmisled = absurd (steady h.1.1)
host_done link who fuel held held' unwritten K exit.LinkFault (inr h) cause written steady uncut unmisled = absurd (uncut (h.0, h.1.1))
host_done link who fuel held held' unwritten K (exit.BadAnswer answer) (inl h) cause written steady uncut unmisled = absurd h.1
host_done link who fuel held held' unwritten K (exit.BadAnswer answer) (inr h) cause written steady uncut unmisled = absurd (unmisled (h.0, answer, h.1.1))
host_done link who fuel held held' unwritten K exit.StoreFault (inl h) cause written steady uncut unmisled = absurd h.1
host_done link who fuel held held' unwritten K exit.StoreFault (inr h) cause written steady uncut unmisled = absurd h.1
host_done link who fuel held held' unwritten K (exit.BadStore flaw) (inl h) cause written steady uncut unmisled = absurd h.1
host_done link who fuel held held' unwritten K (exit.BadStore flaw) (inr h) cause written steady uncut unmisled = absurd h.1
host_done link who fuel held held' unwritten K (exit.StoreFull mark) (inl h) cause written steady uncut unmisled = absurd h.1
host_done link who fuel held held' unwritten K (exit.StoreFull mark) (inr h) cause written steady uncut unmisled = absurd h.1

-- a file that gives a password gives no fault
no_fault : (files : Option (List TreeFile)) (login : LoginValue) (fault : BadPassword) → HasPassword files (Some login) → ¬ PasswordIs files login.password_file (Err fault)
no_fault None login fault has found = absurd has
no_fault (Some held) login fault has found = let both : Ok has.0 ≡ Err fault = sym has.1 ∙ found in cc

-- K and T: the output and the tree have failed
no_login_done : (files : Option (List TreeFile)) (login : Option LoginValue) (held held' : Option (List ℕ)) (unwritten K T : Type 0) (e : Exit) → NoLoginEnds files login held held' unwritten e → (e ≡ exit.WriteFault → K)
    → (e ≡ exit.TreeFault → T) → HasPassword files login → ¬ K → ¬ T → (e ≡ exit.Done) ⊎ (e ≡ exit.Memory)
no_login_done files None held held' unwritten K T e ends cause failed has written steady = absurd ends
no_login_done files (Some login) held held' unwritten K T exit.Done ends cause failed has written steady = absurd ends
no_login_done files (Some login) held held' unwritten K T exit.Usage ends cause failed has written steady = absurd ends
no_login_done files (Some login) held held' unwritten K T exit.BadContest ends cause failed has written steady = absurd (no_fault files login ends.is_text.fault has ends.is_text.found)
no_login_done files (Some login) held held' unwritten K T exit.ReadFault ends cause failed has written steady = absurd ends
no_login_done files (Some login) held held' unwritten K T exit.WriteFault ends cause failed has written steady = absurd (written (cause refl))
no_login_done files (Some login) held held' unwritten K T exit.Memory ends cause failed has written steady = inr refl
no_login_done files (Some login) held held' unwritten K T exit.TreeFault ends cause failed has written steady = absurd (steady (failed refl))
no_login_done files (Some login) held held' unwritten K T exit.DoorFault ends cause failed has written steady = absurd ends
no_login_done files (Some login) held held' unwritten K T exit.InputLimit ends cause failed has written steady = absurd ends
no_login_done files (Some login) held held' unwritten K T exit.LinkFault ends cause failed has written steady = absurd ends
no_login_done files (Some login) held held' unwritten K T (exit.BadAnswer answer) ends cause failed has written steady = absurd ends
no_login_done files (Some login) held held' unwritten K T exit.StoreFault ends cause failed has written steady = absurd ends
no_login_done files (Some login) held held' unwritten K T (exit.BadStore flaw) ends cause failed has written steady = absurd ends
no_login_done files (Some login) held held' unwritten K T (exit.StoreFull mark) ends cause failed has written steady = absurd ends

login_done : {M : Type 0} (files : Option (List TreeFile)) (link : LinkUse M) (name : List ℕ) (wait : Option ℕ) (login : Option LoginValue) (fuel : ℕ) (held held' : Option (List ℕ)) (unwritten K T : Type 0) (e : Exit)
    → HostEnds files link name wait login fuel held held' unwritten e → (e ≡ exit.WriteFault → K) → (e ≡ exit.TreeFault → T) → HasPassword files login → ¬ K → ¬ T → ¬ Rose link.before link.now
    → ((who : Caller) → IsCaller files name wait login who → ¬ ((h : Hosted link who fuel) × IsCutOff h.wrong h.end (link.faults h.back)))
    → ((who : Caller) → IsCaller files name wait login who → ¬ ((h : Hosted link who fuel) × (answer : Wrong) × IsMisled h.wrong h.end answer)) → (e ≡ exit.Done) ⊎ (e ≡ exit.Memory)
login_done files link name wait login fuel held held' unwritten K T e (inl h) cause failed has written still steady uncut unmisled =
    host_done link h.0 fuel held held' unwritten K e h.2 cause written steady (uncut h.0 h.1) (unmisled h.0 h.1)
login_done files link name wait login fuel held held' unwritten K T e (inr h) cause failed has written still steady uncut unmisled =
    no_login_done files login held held' unwritten K T e h.1 cause failed has written still

-- T, S, K, D, L and Y: the tree, the input, the output, the door, the link and the disk have failed
pub host_complete : {M : Type 0} (files : Option (List TreeFile)) (address : List ℕ) (port : ℕ) (name : List ℕ) (fuel : ℕ) (wait : Option ℕ) (login : Option LoginValue) (command : Option CommandValue) (link : LinkUse M) (store : StoreUse)
    (left held held' : Option (List ℕ)) (unwritten T S K D Y : Type 0) (e : Exit)
    → Some (Host address port name fuel wait login) ≡ command → HostEnds files link name wait login fuel held held' unwritten e → (e ≡ exit.WriteFault → K) → (e ≡ exit.TreeFault → T)
    → IfSome command (λ command. CommandIsDone files command link store left (¬ T × ¬ S × ¬ K × ¬ D × ¬ Rose link.before link.now × ¬ Y) e)
unfolding HostIsDone
host_complete files address port name fuel wait login command link store left held held' unwritten T S K D Y e is ends cause failed =
    subst (λ (o : Option CommandValue). IfSome o (λ command. CommandIsDone files command link store left (¬ T × ¬ S × ¬ K × ¬ D × ¬ Rose link.before link.now × ¬ Y) e)) is
    (λ has faultless uncut unmisled. login_done files link name wait login fuel held held' unwritten K T e ends cause failed has faultless.2 faultless.0 faultless.4 uncut unmisled)

-- the host works, with no login, or with the one whose password was read
pub without_login : {M : Type 0} (files : Option (List TreeFile)) (link : LinkUse M) (name : List ℕ) (wait : Option ℕ) (login : Option LoginValue) (who : Caller) (lines : List ℕ) (fuel : ℕ) (held held' : Option (List ℕ)) (unwritten : Type 0) (e : Exit)
    → login ≡ None → who ≡ host_of name wait lines → lines ≡ [] → CallerEnds link who fuel held held' unwritten e → HostEnds files link name wait login fuel held held' unwritten e
without_login files link name wait login who lines fuel held held' unwritten e is who_is none ends =
    subst (λ (o : Option LoginValue). HostEnds files link name wait o fuel held held' unwritten e) (sym is) (inl (who, who_is ∙ ap (host_of name wait) none, ends))

pub with_login : {M : Type 0} (files : Option (List TreeFile)) (link : LinkUse M) (name : List ℕ) (wait : Option ℕ) (login : Option LoginValue) (of : LoginValue) (who : Caller) (lines : List ℕ) (fuel : ℕ) (held held' : Option (List ℕ)) (unwritten : Type 0) (e : Exit)
    → login ≡ Some of → who ≡ host_of name wait lines → ((password : List ℕ) × PasswordIs files of.password_file (Ok password) × (lines ≡ authorization of.user password))
    → CallerEnds link who fuel held held' unwritten e → HostEnds files link name wait login fuel held held' unwritten e
with_login files link name wait login of who lines fuel held held' unwritten e is who_is said ends =
    subst (λ (o : Option LoginValue). HostEnds files link name wait o fuel held held' unwritten e) (sym is)
    (inl (who, (said.0, said.1, who_is ∙ ap (host_of name wait) said.2), ends))

-- its login has no password
pub without_password : {M : Type 0} (files : Option (List TreeFile)) (link : LinkUse M) (name : List ℕ) (wait : Option ℕ) (login : Option LoginValue) (of : LoginValue) (fuel : ℕ) (held held' : Option (List ℕ)) (unwritten : Type 0) (e : Exit)
    → login ≡ Some of → IsUnlinked link → NoPasswordEnds files of.password_file held held' unwritten e → HostEnds files link name wait login fuel held held' unwritten e
without_password files link name wait login of fuel held held' unwritten e is alone ends =
    subst (λ (o : Option LoginValue). HostEnds files link name wait o fuel held held' unwritten e) (sym is) (inr (alone, ends))

-- what a result gives where it is no fault
ok_or : {E : Type 0} → List ℕ → Result (List ℕ) E → List ℕ
ok_or other (Ok bytes) = bytes
ok_or other (Err e) = other

gives_by : (small : Bool) (held bytes password : List ℕ) (len : ℕ) → Ok bytes ≡ (if small then Ok held else Err (TooLarge len)) → password_in bytes ≡ Ok password
    → (if small then password_in held else Err bad.TooLong) ≡ Ok password
unfolding ok_or
gives_by true held bytes password len is holds = ap password_in (sym (ap (ok_or []) is)) ∙ holds
gives_by false held bytes password len is holds = cc

-- a file that was read gives the password that its bytes hold
read_gives : (file : Option (List ℕ)) (bytes password : List ℕ) → IsReadAnswer file (Ok bytes) → password_in bytes ≡ Ok password → password_at file ≡ Ok password
read_gives None bytes password is holds = cc
read_gives (Some held) bytes password is holds = gives_by (nat_le (length held) file_limit) held bytes password (length held) is holds

-- the line of a login whose file was read
pub line_read : {E : Type 0} (files : Option (List TreeFile)) (path user bytes : List ℕ) (result : Result (List ℕ) E) → IfSome files (λ held. IsReadAnswer (file_at held path) (Ok bytes))
    → IfOk result (λ line. (password : List ℕ) × (password_in bytes ≡ Ok password) × (line ≡ authorization user password))
    → IfOk result (λ line. (password : List ℕ) × PasswordIs files path (Ok password) × (line ≡ authorization user password))
line_read files path user bytes (Err e) answer said = tt
line_read None path user bytes (Ok line) answer said = (said.0, tt, said.2)
line_read (Some held) path user bytes (Ok line) answer said = (said.0, read_gives (file_at held path) bytes said.0 answer said.1, said.2)

-- a host whose end has no line writes none
pub fault_told : (name : List ℕ) (claims posts : ℕ) (wrong : Option Wrong) (end : HostEnd) (faults : ℕ) (held held' : Option (List ℕ)) (unwritten : Type 0) (e : Exit)
    → FaultEnds wrong end faults e → unwritten → ToldEnds name claims posts wrong end faults held held' unwritten e
fault_told name claims posts wrong end faults held held' unwritten exit.Done h same = absurd h
fault_told name claims posts wrong end faults held held' unwritten exit.Usage h same = h
fault_told name claims posts wrong end faults held held' unwritten exit.BadContest h same = h
fault_told name claims posts wrong end faults held held' unwritten exit.ReadFault h same = h
fault_told name claims posts wrong end faults held held' unwritten exit.WriteFault h same = absurd h
fault_told name claims posts wrong end faults held held' unwritten exit.Memory h same = (same, h)
fault_told name claims posts wrong end faults held held' unwritten exit.TreeFault h same = h
fault_told name claims posts wrong end faults held held' unwritten exit.DoorFault h same = h
fault_told name claims posts wrong end faults held held' unwritten exit.InputLimit h same = h
fault_told name claims posts wrong end faults held held' unwritten exit.LinkFault h same = (same, h)
fault_told name claims posts wrong end faults held held' unwritten (exit.BadAnswer answer) h same = (same, h)
fault_told name claims posts wrong end faults held held' unwritten exit.StoreFault h same = h
fault_told name claims posts wrong end faults held held' unwritten (exit.BadStore flaw) h same = h
fault_told name claims posts wrong end faults held held' unwritten (exit.StoreFull mark) h same = h

-- a host worked over the connection that came and went back
pub hosted_ends : {N : Type 0} (link : LinkUse N) (who caller : Caller) (fuel made : ℕ) (between : DoorState N) (conn back : N) (ahead : List ℕ) (claims posts : ℕ) (wrong : Option Wrong) (end : HostEnd) (held held' : Option (List ℕ))
    (unwritten : Type 0) (e : Exit)
    → caller ≡ who → made ≡ fuel → LetsIn link.old between conn → IfSome (link.held conn) (λ bytes. bytes ≡ []) → link.faults conn ≡ 0 → TakesBack between link.new back
    → WorkedAs caller (line_of link conn []) (line_of link back ahead) made claims posts wrong end → ((point : Point) (turn : ℕ) → end ≡ host.Died point turn → link.may_die point turn ≡ true)
    → (end ≢ host.Bench bench.Link → link.faults back ≡ link.faults conn) → ToldEnds who.name claims posts wrong end (link.faults back) held held' unwritten e → CallerEnds link who fuel held held' unwritten e
hosted_ends link who caller fuel made between conn back ahead claims posts wrong end held held' unwritten e same is came bare sound went worked died kept told =
    inr (
      record {
        conn = conn;
        back = back;
        lends = record { between = between; came = came; bare = bare; sound = sound; went = went };
        ahead = ahead;
        claims = claims;
        posts = posts;
        wrong = wrong;
        end = end;
        worked = subst (λ (z : Caller). WorkedAs z (line_of link conn []) (line_of link back ahead) fuel claims posts wrong end) same
            (subst (λ (z : ℕ). WorkedAs caller (line_of link conn []) (line_of link back ahead) z claims posts wrong end) is worked);
        died = died;
        unfailed = λ other. kept other ∙ sound;
      },
      told,
    )
