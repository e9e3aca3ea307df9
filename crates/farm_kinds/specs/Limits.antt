-- What is an image.
use Rattle.std.specs.Prelude.{ℕ, ◌%◌, List, length, Bool, ◌&&◌, nat_le, ◌==◌}

-- whole words of 4 bytes: at least one of them, and at most 1 MiB
abbrev pub is_raw_image : List ℕ → Bool
is_raw_image bytes = nat_le 4 (length bytes) && nat_le (length bytes) 1048576 && length bytes % 4 == 0
