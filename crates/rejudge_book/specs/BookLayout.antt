-- How a book lies in memory.
use Rattle.std.specs.Prelude.{◌≡◌, ℕ, ◌-◌, [], min, vec_len, vec_capacity, nat_lt, if◌then◌else◌}
use Rattle.rejudge_book.specs.declared.book.RejudgeBook.TheInside.{Inside}
use Rattle.rejudge_book.specs.Book.{Book}
use Rattle.rejudge_book.specs.Marks.{AreMarks}

-- the room for members counts only where there is a place for their rejudging
abbrev pub room_kept : Inside → ℕ
room_kept a = if nat_lt (vec_len a.rejudgings) (vec_capacity a.rejudgings) then vec_capacity a.ready else 0

abbrev pub book_value : Inside → Book
book_value a = record {
  rejudgings = a.rejudgings.items;
  submissions = vec_len a.marks;
  spare = min (vec_capacity a.marks) (vec_capacity a.places) - vec_len a.marks;
  reserved = room_kept a;
}

pub record IsBookLayout (a : Inside) : Type 0 where
  pub marks : AreMarks (a.rejudgings.items) a.marks.items
  -- a place for each submission, which holds any number
  pub places : vec_len a.places ≡ vec_len a.marks
  -- nothing is written yet into the room for the next members
  pub blank : a.ready.items ≡ []
