-- What people are told of a contest.
use Rattle.std.specs.Prelude.{ℕ, List}
use Rattle.contest_page.specs.declared.view.SubmissionRow.{SubmissionRow}

-- the names of its problems, and whose each submission is and to which problem, in order
pub record ViewValue : Type 0 where
  pub problems : List (List ℕ)
  pub entries : List SubmissionRow
