-- What a reader of the public board gave, one look after the other.
use Rattle.std.specs.Prelude.{◌≡◌, ◌≢◌, ℕ, ◌+◌, ◌≤◌, List, [], ◌∷◌, ◌++◌, length, Option, Some, None}
use mathlib.Core.List.{IsPrefix}
use mathlib.Core.Logic.{inl, inr}
use Rattle.farm_kinds.specs.declared.outcomes.Answer.{Answer}
use Rattle.farm_kinds.specs.declared.events.Reply.{Reply}
use Rattle.farm_kinds.specs.declared.events.Reply.TheVariants as reply
use Rattle.farm_board.specs.BoardState.{BoardState}
use Rattle.public_board.specs.Values.{ReaderValue, Looks, Gives}
use Rattle.judge_feed.specs.Showing.{AreShown}
use Rattle.farm_api.specs.Entering.{Entered}

-- One look

-- the rows that a look gave, where it gave any
abbrev pub rows_in : Reply → Option (List Answer)
rows_in (reply.Board rows) = Some rows
rows_in r = None

-- the reader gave these rows, which the public saw at a moment of a board that began so; or it gave none
abbrev pub Reads : BoardState → ReaderValue Answer → Option (List Answer) → ReaderValue Answer → Type 0
Reads start old (Some rows) new = Gives (AreShown start) old new rows
Reads start old None new = Looks old new

-- the reader gave nothing, and may have been told of more versions
pub record IsTold (old new : ReaderValue Answer) : Type 0 where
  pub seen : new.seen ≡ old.seen
  pub first : new.first ≡ old.first
  pub told : old.told ≤ new.told
  pub least : new.least ≡ old.least

-- All looks

abbrev pub with_rows : Option (List Answer) → List (List Answer) → List (List Answer)
with_rows None more = more
with_rows (Some rows) more = rows ∷ more

-- the rows that the looks among these gave, in order
abbrev pub rows_given : List Entered → List (List Answer)
rows_given [] = []
rows_given (inl x ∷ xs) = rows_given xs
rows_given (inr r ∷ xs) = with_rows (rows_in r) (rows_given xs)

-- the rows are the version of this number, counted from 1
abbrev pub IsVersion : List (List Answer) → ℕ → List Answer → Type 0
IsVersion versions number rows =
    (prefix : List (List Answer)) × (rest : List (List Answer)) × (versions ≡ prefix ++ rows ∷ rest)
    × (length prefix + 1 ≡ number)

-- all are versions, none before the one of this number, and a later one none before an earlier one
abbrev pub AreInOrder : List (List Answer) → ℕ → List (List Answer) → Type 0
AreInOrder versions number [] = Unit {0}
AreInOrder versions number (rows ∷ more) =
    (own : ℕ) × (number ≤ own) × IsVersion versions own rows × AreInOrder versions own more

-- The reader gave these rows, one after the other. They are versions, and a later one is none before an earlier one, or
-- before one that the reader had seen or was told of. The versions are what the public saw at moments of one legal history
-- of a board that began so, later ones at later moments.
pub record GivesInOrder (start : BoardState) (old : ReaderValue Answer) (given : List (List Answer))
    (new : ReaderValue Answer) : Type 0 where
  pub versions : List (List Answer)
  pub begins : IsPrefix old.seen versions
  pub seen : IsPrefix versions new.seen
  pub told : old.told ≤ new.told
  pub shown : given ≢ [] → AreShown start versions
  pub in_order : AreInOrder versions (length old.seen) given
  pub told_of : AreInOrder versions old.told given
