-- Draws: numbers of a linear congruential generator.
use Rattle.std.specs.Prelude.{ℕ, zero, suc, ◌+◌, ◌*◌, ◌/◌, ◌%◌, ◌^◌}

-- the state behind a draw
abbrev pub next : ℕ → ℕ
next state = (state * 1664525 + 1013904223) % 2 ^ 32

-- what was drawn: the upper 16 bits of the state behind the draw
abbrev pub drawn : ℕ → ℕ
drawn state = state / 65536

-- the state behind as many draws as the first number says
abbrev pub after : ℕ → ℕ → ℕ
after zero state = state
after (suc draws) state = after draws (next state)
