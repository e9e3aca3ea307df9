-- What a journal is seen as.
use Rattle.std.specs.Prelude.{ℕ, Bool}

pub record JournalValue : Type 0 where
  -- where the closed gate behind the records stands
  pub end : ℕ
  -- how far records may go
  pub limit : ℕ
  -- an event was not added, since the disk failed
  pub spent : Bool
