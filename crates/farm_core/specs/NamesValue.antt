-- Names in order.
use Rattle.std.specs.Prelude.{ℕ, List}

pub record NamesValue : Type 0 where
  pub names : List (List ℕ)
  -- how many more have room
  pub room : ℕ
