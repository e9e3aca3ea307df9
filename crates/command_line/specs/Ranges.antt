-- How large the numbers of a command line may be.
use Rattle.std.specs.Prelude.{ℕ, Option, Some, None, nat_le, ◌&&◌, if◌then◌else◌}

-- a number from 1 to this limit
abbrev pub from_1_to : ℕ → ℕ → Option ℕ
from_1_to limit n = if nat_le 1 n && nat_le n limit then Some n else None

-- a contest is judged by at most 16 hosts
abbrev pub host_limit : ℕ
host_limit = 16

-- a made contest has at most 50 problems and 2,000 submissions
abbrev pub made_problem_limit : ℕ
made_problem_limit = 50

abbrev pub made_submission_limit : ℕ
made_submission_limit = 2000

-- how many problems and submissions a made contest has
pub record Size : Type 0 where
  pub problems : ℕ
  pub submissions : ℕ

abbrev pub size_with : Option ℕ → Option ℕ → Option Size
size_with (Some problems) (Some submissions) = Some record { problems = problems; submissions = submissions }
size_with problems submissions = None

-- the greatest port of a machine
abbrev pub port_limit : ℕ
port_limit = 65535

-- a server has at most 16 lanes, and takes in as many connections as is said, which is at most 100,000
abbrev pub lane_limit : ℕ
lane_limit = 16

abbrev pub connection_limit : ℕ
connection_limit = 100000

-- where no number of connections is said a server serves on: it ends after as many as a number of 32 bits can count
abbrev pub unlimited : ℕ
unlimited = 4294967295

-- a server waits for a client for at most an hour, and for a minute where nothing else is said
abbrev pub patience_limit : ℕ
patience_limit = 3600

abbrev pub usual_patience : ℕ
usual_patience = 60

-- a host makes at most as many claims as its words' number says, which is at most 4,294,967,295
abbrev pub fuel_limit : ℕ
fuel_limit = 4294967295

-- it waits for at most a minute until it asks again
abbrev pub wait_limit : ℕ
wait_limit = 60
