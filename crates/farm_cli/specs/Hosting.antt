-- How the work of a judgehost over a link ends.
use Rattle.std.specs.Prelude.{◌≡◌, ◌≢◌, ◌≤◌, ◌⊎◌, ℕ, List, [], ◌++◌, length, nat_le, if◌then◌else◌, codes, Option, Some, None, IfSome, is_some, Result, Ok, Err, Bool, true, ⊤}
use Rattle.std.specs.Option.{IsSomeAnd}
use Rattle.std.specs.Fmt.{decimal}
use Rattle.farm_io.specs.Streams.{Rose}
use Rattle.farm_io.specs.Doors.{DoorState, LetsIn, TakesBack}
use Rattle.farm_tree.specs.declared.reads.TreeFile.{TreeFile}
use Rattle.farm_tree.specs.Reading.{file_at, file_limit}
use Rattle.command_line.specs.CommandLine.{LoginValue}
use Rattle.judgehost.specs.declared.gate.Point.{Point}
use Rattle.judgehost.specs.declared.bench.BenchFault.TheVariants as fault
use Rattle.judgehost.specs.declared.host.HostEnd.{HostEnd}
use Rattle.judgehost.specs.declared.host.HostEnd.TheVariants as host
use Rattle.remote_host.specs.declared.asks.Caller.{Caller}
use Rattle.remote_host.specs.declared.asks.Wrong.{Wrong}
use Rattle.remote_host.specs.declared.passwords.BadPassword.{BadPassword}
use Rattle.remote_host.specs.declared.passwords.BadPassword.TheVariants as bad
use Rattle.remote_host.specs.Passwords.{password_in, authorization}
use Rattle.remote_host.specs.Standing.{Line}
use Rattle.remote_host.specs.Ends.{WorkedAs}
use Rattle.exit_status.specs.declared.exit.Exit.{Exit}
use Rattle.exit_status.specs.declared.exit.Exit.TheVariants as exit
use Rattle.judge_commands.specs.Judged.{Writes, WritesPrefix}

-- What is told of the connections of a link, and where the gate may let the host die; and the link with the count of its
-- faults, before a command and after it.
pub record LinkUse (N : Type 0) : Type 0 where
  pub held : N → Option (List ℕ)
  pub left : N → Option (List ℕ)
  -- how often either side of a connection has failed
  pub faults : N → ℕ
  pub may_die : Point → ℕ → Bool
  pub old : DoorState N
  pub new : DoorState N
  pub before : ℕ
  pub now : ℕ

-- no connection was asked for, or none came
abbrev pub IsUnlinked : {N : Type 0} → LinkUse N → Type 0
IsUnlinked link = link.new ≡ link.old

-- One connection came, with nothing put on it and without a fault, and it went back.
pub record Lends {N : Type 0} (link : LinkUse N) (conn back : N) : Type 0 where
  pub between : DoorState N
  pub came : LetsIn link.old between conn
  pub bare : IfSome (link.held conn) (λ bytes. bytes ≡ [])
  pub sound : link.faults conn ≡ 0
  pub went : TakesBack between link.new back

-- a connection as it stands on the link, where the bytes `ahead` were taken and are in no response yet
abbrev pub line_of : {N : Type 0} → LinkUse N → N → List ℕ → Line
line_of link conn ahead = record { held = link.held conn; left = link.left conn; ahead = ahead }

-- The host worked over the connection that came and went back: what was put on it is its talk, as far as it got. The
-- connection has not failed, unless that ended the host or a wrong answer did.
pub record Hosted {N : Type 0} (link : LinkUse N) (who : Caller) (fuel : ℕ) : Type 0 where
  pub conn : N
  pub back : N
  pub lends : Lends link conn back
  pub ahead : List ℕ
  pub claims : ℕ
  pub posts : ℕ
  pub wrong : Option Wrong
  pub end : HostEnd
  pub worked : WorkedAs who (line_of link conn []) (line_of link back ahead) fuel claims posts wrong end
  pub died : (point : Point) (turn : ℕ) → end ≡ host.Died point turn → link.may_die point turn ≡ true
  pub unfailed : end ≢ host.Bench fault.Link → link.faults back ≡ 0

-- the judgehost of this name, which waits where it is said for how long, and whose requests have these further lines
abbrev pub host_of : List ℕ → Option ℕ → List ℕ → Caller
host_of name wait lines = record { name = name; waits = is_some wait; lines = lines }

-- the password that a file gives, or why it gives none
abbrev pub password_at : Option (List ℕ) → Result (List ℕ) BadPassword
password_at None = Err bad.NoFile
password_at (Some bytes) = if nat_le (length bytes) file_limit then password_in bytes else Err bad.TooLong

-- what the file at the path gives, where the tree tells its files
abbrev pub PasswordIs : Option (List TreeFile) → List ℕ → Result (List ℕ) BadPassword → Type 0
PasswordIs files path password = IfSome files (λ held. password_at (file_at held path) ≡ password)

-- who works: the judgehost of this name, whose requests say the user and the password of the login's file, if there is one
abbrev pub IsCaller : Option (List TreeFile) → List ℕ → Option ℕ → Option LoginValue → Caller → Type 0
IsCaller files name wait None who = who ≡ host_of name wait []
IsCaller files name wait (Some login) who =
    (password : List ℕ) × PasswordIs files login.password_file (Ok password)
    × (who ≡ host_of name wait (authorization login.user password))

-- how a host's end is called, where its line is written
abbrev pub end_word : HostEnd → Option (List ℕ)
end_word host.Idle = Some (codes "idle")
end_word (host.Died point turn) = Some (codes "died")
end_word host.Fuel = Some (codes "fuel")
end_word (host.Bench fault.Link) = None
end_word (host.Bench fault.Holding) = Some (codes "holding")
end_word (host.Bench fault.NoHost) = Some (codes "no-host")
end_word (host.Bench (fault.NoCase task)) = None
end_word (host.Bench fault.NoMemory) = None
end_word host.NoMemory = None

-- `host NAME claims C posted R END`
abbrev pub host_line : List ℕ → ℕ → ℕ → List ℕ → List ℕ
host_line name claims posts word =
    codes "host " ++ (name ++ (codes " claims " ++ (decimal claims ++ (codes " posted "
    ++ (decimal posts ++ (codes " " ++ (word ++ codes "\n")))))))

-- the text is the line of a host that ended as `end`
pub record IsHostLine (name : List ℕ) (claims posts : ℕ) (end : HostEnd) (text : List ℕ) : Type 0 where
  pub word : List ℕ
  pub called : end_word end ≡ Some word
  pub is : text ≡ host_line name claims posts word

-- the connection failed, and no answer was wrong
pub record IsCutOff (wrong : Option Wrong) (end : HostEnd) (faults : ℕ) : Type 0 where
  pub ended : end ≡ host.Bench fault.Link
  pub fine : wrong ≡ None
  pub failed : 1 ≤ faults

-- this wrong answer was met, as the first one
pub record IsMisled (wrong : Option Wrong) (end : HostEnd) (answer : Wrong) : Type 0 where
  pub ended : end ≡ host.Bench fault.Link
  pub kept : wrong ≡ Some answer

-- How a command ends whose host did not come to an end that has a line. A connection that failed and a wrong answer are not
-- told as want of memory.
abbrev pub FaultEnds : Option Wrong → HostEnd → (faults : ℕ) → Exit → Type 0
FaultEnds wrong end faults exit.Done = ⊥
FaultEnds wrong end faults exit.Usage = ⊥
FaultEnds wrong end faults exit.BadContest = ⊥
FaultEnds wrong end faults exit.ReadFault = ⊥
FaultEnds wrong end faults exit.WriteFault = ⊥
FaultEnds wrong end faults exit.Memory = end ≢ host.Bench fault.Link
FaultEnds wrong end faults exit.TreeFault = ⊥
FaultEnds wrong end faults exit.DoorFault = ⊥
FaultEnds wrong end faults exit.InputLimit = ⊥
FaultEnds wrong end faults exit.LinkFault = IsCutOff wrong end faults
FaultEnds wrong end faults (exit.BadAnswer answer) = IsMisled wrong end answer
FaultEnds wrong end faults exit.StoreFault = ⊥
FaultEnds wrong end faults (exit.BadStore flaw) = ⊥
FaultEnds wrong end faults (exit.StoreFull mark) = ⊥

-- What is told of a host that worked. `faults` is how often its connection failed, and `unwritten` says that the output is
-- as it was.
abbrev pub ToldEnds : List ℕ → (claims posts : ℕ) → Option Wrong → HostEnd → (faults : ℕ) → Option (List ℕ)
    → Option (List ℕ) → Type 0 → Exit → Type 0
ToldEnds name claims posts wrong end faults held held' unwritten exit.Done =
    Writes (IsHostLine name claims posts end) held held'
ToldEnds name claims posts wrong end faults held held' unwritten exit.Usage = ⊥
ToldEnds name claims posts wrong end faults held held' unwritten exit.BadContest = ⊥
ToldEnds name claims posts wrong end faults held held' unwritten exit.ReadFault = ⊥
ToldEnds name claims posts wrong end faults held held' unwritten exit.WriteFault =
    WritesPrefix (IsHostLine name claims posts end) held held'
ToldEnds name claims posts wrong end faults held held' unwritten exit.Memory = unwritten × (end ≢ host.Bench fault.Link)
ToldEnds name claims posts wrong end faults held held' unwritten exit.TreeFault = ⊥
ToldEnds name claims posts wrong end faults held held' unwritten exit.DoorFault = ⊥
ToldEnds name claims posts wrong end faults held held' unwritten exit.InputLimit = ⊥
ToldEnds name claims posts wrong end faults held held' unwritten exit.LinkFault = unwritten × IsCutOff wrong end faults
ToldEnds name claims posts wrong end faults held held' unwritten (exit.BadAnswer answer) = unwritten × IsMisled wrong end answer
ToldEnds name claims posts wrong end faults held held' unwritten exit.StoreFault = ⊥
ToldEnds name claims posts wrong end faults held held' unwritten (exit.BadStore flaw) = ⊥
ToldEnds name claims posts wrong end faults held held' unwritten (exit.StoreFull mark) = ⊥

-- how it ends without a connection: memory was wanting, or none could be made
abbrev pub UnlinkedEnds : {N : Type 0} → LinkUse N → Type 0 → Exit → Type 0
UnlinkedEnds link unwritten exit.Done = ⊥
UnlinkedEnds link unwritten exit.Usage = ⊥
UnlinkedEnds link unwritten exit.BadContest = ⊥
UnlinkedEnds link unwritten exit.ReadFault = ⊥
UnlinkedEnds link unwritten exit.WriteFault = ⊥
UnlinkedEnds link unwritten exit.Memory = unwritten
UnlinkedEnds link unwritten exit.TreeFault = ⊥
UnlinkedEnds link unwritten exit.DoorFault = ⊥
UnlinkedEnds link unwritten exit.InputLimit = ⊥
UnlinkedEnds link unwritten exit.LinkFault = unwritten × Rose link.before link.now
UnlinkedEnds link unwritten (exit.BadAnswer answer) = ⊥
UnlinkedEnds link unwritten exit.StoreFault = ⊥
UnlinkedEnds link unwritten (exit.BadStore flaw) = ⊥
UnlinkedEnds link unwritten (exit.StoreFull mark) = ⊥

-- How it ends with who it is: no connection came, or one did and went back, and the host worked over it.
abbrev pub CallerEnds : {N : Type 0} → LinkUse N → Caller → ℕ → Option (List ℕ) → Option (List ℕ) → Type 0 → Exit
    → Type 0
CallerEnds link who fuel held held' unwritten e =
    (IsUnlinked link × UnlinkedEnds link unwritten e)
    ⊎ ((h : Hosted link who fuel)
    × ToldEnds who.name h.claims h.posts h.wrong h.end (link.faults h.back) held held' unwritten e)

-- A password that the login's file does not give

-- the line that says why
abbrev pub bad_password_line : BadPassword → List ℕ
bad_password_line bad.NoFile = codes "bad password: no file\n"
bad_password_line bad.Empty = codes "bad password: empty\n"
bad_password_line bad.TooLong = codes "bad password: too long\n"
bad_password_line bad.Control = codes "bad password: control character\n"

-- it is the line of the fault that the file has
pub record IsBadPasswordLine (files : Option (List TreeFile)) (path text : List ℕ) : Type 0 where
  pub fault : BadPassword
  pub found : PasswordIs files path (Err fault)
  pub is : text ≡ bad_password_line fault

-- how it ends without a password; `unwritten` says that the output is as it was
abbrev pub NoPasswordEnds : Option (List TreeFile) → List ℕ → Option (List ℕ) → Option (List ℕ) → Type 0 → Exit → Type 0
NoPasswordEnds files path held held' unwritten exit.Done = ⊥
NoPasswordEnds files path held held' unwritten exit.Usage = ⊥
NoPasswordEnds files path held held' unwritten exit.BadContest = Writes (IsBadPasswordLine files path) held held'
NoPasswordEnds files path held held' unwritten exit.ReadFault = ⊥
NoPasswordEnds files path held held' unwritten exit.WriteFault = WritesPrefix (IsBadPasswordLine files path) held held'
NoPasswordEnds files path held held' unwritten exit.Memory = unwritten
NoPasswordEnds files path held held' unwritten exit.TreeFault = unwritten
NoPasswordEnds files path held held' unwritten exit.DoorFault = ⊥
NoPasswordEnds files path held held' unwritten exit.InputLimit = ⊥
NoPasswordEnds files path held held' unwritten exit.LinkFault = ⊥
NoPasswordEnds files path held held' unwritten (exit.BadAnswer answer) = ⊥
NoPasswordEnds files path held held' unwritten exit.StoreFault = ⊥
NoPasswordEnds files path held held' unwritten (exit.BadStore flaw) = ⊥
NoPasswordEnds files path held held' unwritten (exit.StoreFull mark) = ⊥

-- there is a login, and its file gives no password, or could not be read
abbrev pub NoLoginEnds : Option (List TreeFile) → Option LoginValue → Option (List ℕ) → Option (List ℕ) → Type 0 → Exit
    → Type 0
NoLoginEnds files None held held' unwritten e = ⊥
NoLoginEnds files (Some login) held held' unwritten e = NoPasswordEnds files login.password_file held held' unwritten e

-- How it ends: the host works, or its login has no password, and no connection was asked for.
abbrev pub HostEnds : {N : Type 0} → Option (List TreeFile) → LinkUse N → List ℕ → Option ℕ → Option LoginValue → ℕ
    → Option (List ℕ) → Option (List ℕ) → Type 0 → Exit → Type 0
HostEnds files link name wait login fuel held held' unwritten e =
    ((who : Caller) × IsCaller files name wait login who × CallerEnds link who fuel held held' unwritten e)
    ⊎ (IsUnlinked link × NoLoginEnds files login held held' unwritten e)

-- there is no login, or the tree tells a file that gives its password
abbrev pub HasPassword : Option (List TreeFile) → Option LoginValue → Type 0
HasPassword files None = ⊤
HasPassword files (Some login) =
    IsSomeAnd files (λ held. (password : List ℕ) × (password_at (file_at held login.password_file) ≡ Ok password))

-- with a password where it has a login, and without a fault, where its connection did not fail and no answer was wrong, it
-- is done unless memory is wanting
unfoldable pub HostIsDone : {N : Type 0} → Option (List TreeFile) → LinkUse N → List ℕ → Option ℕ → Option LoginValue → ℕ
    → Type 0 → Exit → Type 0
HostIsDone files link name wait login fuel faultless e =
    HasPassword files login → faultless
    → ((who : Caller) → IsCaller files name wait login who
    → ¬ ((h : Hosted link who fuel) × IsCutOff h.wrong h.end (link.faults h.back)))
    → ((who : Caller) → IsCaller files name wait login who
    → ¬ ((h : Hosted link who fuel) × (answer : Wrong) × IsMisled h.wrong h.end answer))
    → (e ≡ exit.Done) ⊎ (e ≡ exit.Memory)
