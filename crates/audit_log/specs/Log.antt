-- An audit log: the texts of its entries, and room for the next one.
use Rattle.std.specs.Prelude.{ℕ, List, [], ◌∷◌, ◌++◌}

pub record Log : Type 0 where
  -- in the order in which they were added
  pub texts : List (List ℕ)
  -- an entry whose text has at most `reserved` bytes takes no memory
  pub reserved : ℕ

-- no entries, and no room for one
abbrev pub empty_log : Log
empty_log = record { texts = []; reserved = 0 }

-- the log with one more entry, whose room is used up
abbrev pub with_text : Log → List ℕ → Log
with_text log text = record { texts = log.texts ++ text ∷ []; reserved = 0 }
