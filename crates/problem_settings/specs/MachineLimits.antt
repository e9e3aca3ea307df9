-- The limits of a run.
use Rattle.std.specs.Prelude.{ℕ, ◌*◌, ◌/◌}
use Rattle.farm_kinds.specs.declared.limits.Limits.{Limits}
use Rattle.problem_settings.specs.declared.yaml.Yaml.{Yaml}

-- the instructions of `ms` milliseconds at `ips` instructions a second, rounded down; pages of 4096 bytes; bytes of output
abbrev pub limits_of : Yaml → ℕ → ℕ → Limits
limits_of yaml ms ips =
    record { instructions = ms * ips / 1000; pages = yaml.memory * 256; output = yaml.output * 1048576 }
