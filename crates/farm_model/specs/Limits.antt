-- How many of each thing a farm has at most.
use Rattle.std.specs.Prelude.{ℕ}

abbrev pub max_problems : ℕ
max_problems = 1000

-- of one problem
abbrev pub max_versions : ℕ
max_versions = 1000

-- of one problem, and so of one judging
abbrev pub max_tests : ℕ
max_tests = 1000

abbrev pub max_hosts : ℕ
max_hosts = 1000

-- leases that one host holds
abbrev pub max_held : ℕ
max_held = 64

-- tests that a host fetches at once
abbrev pub max_batch : ℕ
max_batch = 16

abbrev pub max_submissions : ℕ
max_submissions = 100000

abbrev pub max_judgings : ℕ
max_judgings = 400000

abbrev pub max_rejudgings : ℕ
max_rejudgings = 10000
