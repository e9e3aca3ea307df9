-- A book of rejudgings: what is known of them, of how many submissions, and room for more.
use Rattle.std.specs.Prelude.{ℕ, List, []}
use Rattle.farm_kinds.specs.declared.outcomes.How.{How}
use Rattle.farm_model.specs.declared.records.Rejudging.{Rejudging}
use Rattle.farm_model.specs.Rejudgings.{prepared, closed}

pub record Book : Type 0 where
  -- in the order of their numbers
  pub rejudgings : List Rejudging
  -- how many there are, numbered from 1
  pub submissions : ℕ
  -- `spare` more submissions take no memory
  pub spare : ℕ
  -- a rejudging of at most `reserved` members takes no memory
  pub reserved : ℕ

-- no rejudgings, no submissions, and no room for any
abbrev pub empty_book : Book
empty_book = record { rejudgings = []; submissions = 0; spare = 0; reserved = 0 }

-- the book with one more rejudging, whose room is used up
abbrev pub with_prepared : Book → List ℕ → List ℕ → ℕ → Book
with_prepared book list olds first = record book { rejudgings = prepared book.rejudgings list olds first; reserved = 0 }

-- the book where the rejudging of this number is closed
abbrev pub with_closed : Book → ℕ → How → Book
with_closed book number h = record book { rejudgings = closed book.rejudgings number h }
