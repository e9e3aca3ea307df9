-- The numbers that clocks show.
use Rattle.std.specs.Prelude.{ℕ, Bool, true, ◌==◌}

-- this number alone
abbrev pub shows_only : ℕ → ℕ → Bool
shows_only moment shown = shown == moment

-- a clock that says nothing of what it shows
abbrev pub shows_any : ℕ → Bool
shows_any shown = true
