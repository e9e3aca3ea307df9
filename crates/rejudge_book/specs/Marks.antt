-- Marks, one for each submission: the number of the open rejudging that it is in, or 0.
use Rattle.std.specs.Prelude.{◌≡◌, ℕ, ◌+◌, ◌-◌, ◌≤◌, List, [], ◌∷◌, map, slice_index, slice_set, Option, Some, None, true, false, ◌==◌, if◌then◌else◌}
use Rattle.std.specs.Option.{option_map, option_map_or}
use Rattle.std.specs.List.{slice_get}
use Rattle.farm_model.specs.declared.records.Member.{Member}
use Rattle.farm_model.specs.declared.records.Rejudging.{Rejudging}
use Rattle.farm_model.specs.Refusing.{first_of}
use Rattle.farm_model.specs.Rejudgings.{holds_open}
use Rattle.rejudge_book.specs.declared.faults.BookFault.{BookFault}
use Rattle.rejudge_book.specs.declared.faults.BookFault.TheVariants as fault

-- the submission's mark
abbrev pub mark_of : List ℕ → ℕ → ℕ
mark_of marks submission = slice_index marks (submission - 1)

-- the submissions have this mark
abbrev pub with_marks : List ℕ → List ℕ → ℕ → List ℕ
with_marks marks [] number = marks
with_marks marks (submission ∷ list) number = with_marks (slice_set marks (submission - 1) number) list number

abbrev pub submissions_of : List Member → List ℕ
submissions_of members = map (λ member. member.submission) members

abbrev pub marked : ℕ → Option ℕ
marked mark = if mark == 0 then None else Some mark

abbrev pub marked_fault : List ℕ → ℕ → Option BookFault
marked_fault marks submission = option_map (fault.Busy submission) (marked (mark_of marks submission))

-- of the first member that has a mark
abbrev pub marked_refusal : List ℕ → List ℕ → Option BookFault
marked_refusal marks list = first_of (map (marked_fault marks) list)

-- the rejudging at this place, from 0, is open, and the submission is in it
pub record IsIn (rejudgings : List Rejudging) (place submission : ℕ) : Type 0 where
  pub holds : option_map_or (holds_open submission) (slice_get rejudgings place) false ≡ true

-- the marks say which submissions are in which open rejudging
pub record AreMarks (rejudgings : List Rejudging) (marks : List ℕ) : Type 0 where
  -- each of an open rejudging has its mark
  pub numbered : (place submission : ℕ) → IsIn rejudgings place submission → 1 ≤ submission
  pub filed : (place submission : ℕ) → IsIn rejudgings place submission → mark_of marks submission ≡ place + 1
  -- each mark is of an open rejudging
  pub true_marks : (place k : ℕ) → slice_index marks k ≡ place + 1 → IsIn rejudgings place (k + 1)
