-- What the words of the command line ask for.
use Rattle.std.specs.Prelude.{ℕ, List, ◌==◌, ◌&&◌, Bool, false, codes, length, Option, Some, None, if◌then◌else◌}
use Rattle.std.specs.Option.{option_map, option_and_then, option_map_or}
use Rattle.std.specs.Str.{bytes_eq}
use Rattle.std.specs.declared.net.ip_addr.IpAddr.{IpAddr}
use Rattle.clap.specs.Words.{Row, Text, fault_of, first_of, subcommand_of}
use Rattle.farm_kinds.specs.Names.{name_read}
use Rattle.farm_model.specs.Numbers.{number_of, at_most}
use Rattle.command_line.specs.Commands.{farm}
use Rattle.command_line.specs.Checks.{are_plain, is_user}
use Rattle.command_line.specs.Addresses.{address_with}
use Rattle.command_line.specs.Ranges.{Size, from_1_to, size_with, host_limit, made_problem_limit, made_submission_limit}
use Rattle.command_line.specs.Ranges.{port_limit, lane_limit, connection_limit, unlimited, patience_limit, usual_patience, fuel_limit, wait_limit}
use Rattle.command_line.specs.declared.made_size.MadeSize.{MadeSize}
use Rattle.command_line.specs.declared.words.Command.{Command}
use Rattle.command_line.specs.declared.words.Login.{Login}
use Rattle.command_line.specs.declared.words.Command.TheVariants as command

-- the user whom a proxy asks for, and the path of the file that holds the password
pub record LoginValue : Type 0 where
  pub user : Text
  pub password_file : Text

pub data CommandValue : Type 0 where
  -- the lines of a script, by the settings of the file at this path, or by the standard ones, and over the store at this
  -- path, if there is to be one
  Script : (config store : Option Text) → CommandValue
  -- the lines of the store at this path
  Store : (path : Text) → CommandValue
  -- the contest in this folder, by `hosts` hosts, and whether a journal is asked for
  Judge : (folder : Text) → (hosts : ℕ) → (journal : Bool) → CommandValue
  -- the contest that is made of this number, with as many problems and submissions as `size` says
  Make : (number : ℕ) → (size : Size) → CommandValue
  -- the contest in this folder, at this address and port, by `lanes` lanes for at most `connections` connections, each of
  -- which it waits for `patience` seconds, and whether none comes any more once the input has ended
  Serve : (folder : Text) → (address : IpAddr) → (port lanes connections patience : ℕ) → (until_input_ends : Bool)
      → CommandValue
  -- as the judgehost of this name at the server of this address and port, with at most `fuel` claims, and where no task is
  -- open with a pause of `wait` seconds before the next one, if there is to be one; and as whom it asks a proxy, if one is
  -- there
  Host : (address : Text) → (port : ℕ) → (name : Text) → (fuel : ℕ) → (wait : Option ℕ) → (login : Option LoginValue)
      → CommandValue

abbrev pub size_value : MadeSize → Size
size_value size = record { problems = size.problems; submissions = size.submissions }

abbrev pub login_value : Login → LoginValue
login_value login = record { user = login.user.now; password_file = login.password_file.now }

abbrev pub command_value : Command → CommandValue
command_value (command.Script config store) = Script (option_map (λ path. path.now) config) (option_map (λ path. path.now) store)
command_value (command.Store path) = Store path.now
command_value (command.Judge folder hosts journal) = Judge folder.now hosts.count journal
command_value (command.Make number size) = Make number (size_value size)
command_value (command.Serve folder address port lanes connections patience until_input_ends) =
    Serve folder.now address port lanes.count connections.count patience.seconds until_input_ends
command_value (command.Host address port name fuel wait login) =
    Host address.now port name fuel wait (option_map login_value login)

-- ---- what the rows of a command say

-- the number that stands for an operand or an option, where it is one in its range
abbrev pub number_at : (ℕ → Option ℕ) → Text → List Row → Option ℕ
number_at in_range id rows = option_and_then in_range (option_and_then number_of (first_of id rows))

-- the flag was given
abbrev pub is_said : Text → List Row → Bool
is_said id rows = option_map_or (λ text. bytes_eq text (codes "true")) (first_of id rows) false

abbrev pub judge_with : Option Text → Option ℕ → Bool → Option CommandValue
judge_with (Some folder) (Some hosts) journal = Some (Judge folder hosts journal)
judge_with folder hosts journal = None

abbrev pub judge_of : List Row → Option CommandValue
judge_of rows =
    judge_with (first_of (codes "folder") rows) (number_at (at_most host_limit) (codes "hosts") rows)
    (is_said (codes "journal") rows)

abbrev pub script_of : List Row → Option CommandValue
script_of rows = Some (Script (first_of (codes "config") rows) (first_of (codes "store") rows))

abbrev pub store_of : List Row → Option CommandValue
store_of rows = option_map Store (first_of (codes "file") rows)

abbrev pub make_with : Option ℕ → Option Size → Option CommandValue
make_with (Some number) (Some size) = Some (Make number size)
make_with number size = None

abbrev pub size_of : List Row → Option Size
size_of rows =
    size_with (number_at (from_1_to made_problem_limit) (codes "problems") rows)
    (number_at (from_1_to made_submission_limit) (codes "submissions") rows)

abbrev pub make_of : List Row → Option CommandValue
make_of rows = make_with (option_and_then number_of (first_of (codes "number") rows)) (size_of rows)

-- the patience that is said, or the usual one
abbrev pub patience_with : Option Text → Option ℕ
patience_with None = Some usual_patience
patience_with (Some text) = option_and_then (from_1_to patience_limit) (number_of text)

-- the number of connections that is said; a server that is told none serves on
abbrev pub connections_with : Option Text → Option ℕ
connections_with None = Some unlimited
connections_with (Some text) = option_and_then (from_1_to connection_limit) (number_of text)

abbrev pub serve_with : Option Text → Option IpAddr → Option ℕ → Option ℕ → Option ℕ → Option ℕ → Bool
    → Option CommandValue
serve_with (Some folder) (Some address) (Some port) (Some lanes) (Some connections) (Some patience) until_input_ends =
    Some (Serve folder address port lanes connections patience until_input_ends)
serve_with folder address port lanes connections patience until_input_ends = None

abbrev pub serve_of : List Row → Option CommandValue
serve_of rows =
    serve_with (first_of (codes "folder") rows) (address_with (first_of (codes "address") rows))
    (number_at (at_most port_limit) (codes "port") rows) (number_at (from_1_to lane_limit) (codes "lanes") rows)
    (connections_with (first_of (codes "connections") rows)) (patience_with (first_of (codes "patience") rows))
    (is_said (codes "until-input-ends") rows)

-- a number of seconds, where one is said
abbrev pub wait_with : Option Text → Option (Option ℕ)
wait_with None = Some None
wait_with (Some text) = option_map Some (option_and_then (from_1_to wait_limit) (number_of text))

-- a user with a file, or neither
abbrev pub login_with : Option Text → Option Text → Option (Option LoginValue)
login_with None None = Some None
login_with None (Some file) = None
login_with (Some user) None = None
login_with (Some user) (Some file) =
    if is_user user then Some (Some record { user = user; password_file = file }) else None

abbrev pub host_with : Option Text → Option ℕ → Option Text → Option ℕ → Option (Option ℕ) → Option (Option LoginValue)
    → Option CommandValue
host_with (Some address) (Some port) (Some name) (Some fuel) (Some wait) (Some login) =
    Some (Host address port name fuel wait login)
host_with address port name fuel wait login = None

abbrev pub host_of : List Row → Option CommandValue
host_of rows =
    host_with (first_of (codes "address") rows) (number_at (from_1_to port_limit) (codes "port") rows)
    (option_and_then name_read (first_of (codes "name") rows)) (number_at (from_1_to fuel_limit) (codes "fuel") rows)
    (wait_with (first_of (codes "wait") rows))
    (login_with (first_of (codes "user") rows) (first_of (codes "password-file") rows))

abbrev pub said_of : Text → List Row → Option CommandValue
said_of name rows =
    if bytes_eq name (codes "judge") then judge_of rows
    else if bytes_eq name (codes "script") then script_of rows
    else if bytes_eq name (codes "store") then store_of rows
    else if bytes_eq name (codes "make") then make_of rows
    else if bytes_eq name (codes "serve") then serve_of rows
    else if bytes_eq name (codes "host") then host_of rows else None

-- ---- what the words say

-- the grammar accepts the words
unfoldable pub is_accepted : List Text → Bool
is_accepted words = length (fault_of farm words) == 0

-- the command that the words name, and what they say of its operands and options
unfoldable pub named_command : List Text → Option (Text × List Row)
named_command words = subcommand_of farm words

-- the command of the words, where they pass the checks, the grammar accepts them, and their numbers are in range
abbrev pub command_of : List Text → Option CommandValue
command_of words =
    if are_plain words && is_accepted words
    then option_and_then (λ named. said_of named.0 named.1) (named_command words) else None
