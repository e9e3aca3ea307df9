-- The JSON of replies is plain: no number of it has a fraction, and it is not nested deeper than a reader goes.
use Rattle.std.proofs.Common.{◌≡◌, ℕ, ◌+◌, ◌≤◌, List, [], ◌∷◌, false, ◌||◌, ap, refl, map, arith, lit≤}
use Rattle.serde_json.specs.Data.{Data, depth, items_depth}
use Rattle.serde_json.specs.Read.{max_depth}
use Rattle.serde_json.specs.View.{items_of}
use Rattle.serde_json.specs.Written.{has_float, items_have_float}
use Rattle.farm_kinds.specs.declared.outcomes.Answer.{Answer}
use Rattle.farm_kinds.specs.declared.outcomes.Answer.TheVariants.{Final, Pending}
use Rattle.farm_kinds.specs.declared.outcomes.MatrixRow.{MatrixRow}
use Rattle.farm_kinds.specs.declared.events.Reply.{Reply}
use Rattle.farm_kinds.specs.declared.events.Reply.TheVariants as reply
use Rattle.wire_json.specs.Objects.{whole}
use Rattle.wire_json.specs.Replies.{json_of, board_rows, matrix_row}

pub record IsPlain (d : Data) : Type 0 where
  pub whole : has_float d ≡ false
  pub shallow : depth d ≤ max_depth

board_is_whole : (n : ℕ) (answers : List Answer) → items_have_float (items_of (board_rows n answers)) ≡ false
board_is_whole n [] = refl
board_is_whole n (answer ∷ answers) = board_is_whole (n + 1) answers

board_is_shallow : (n : ℕ) (answers : List Answer) → items_depth (items_of (board_rows n answers)) ≤ 1
board_is_shallow n [] = omega arith
board_is_shallow n (answer ∷ answers) = omega (arith, board_is_shallow (n + 1) answers)

matrix_is_whole : (rows : List MatrixRow) → items_have_float (items_of (map matrix_row rows)) ≡ false
matrix_is_whole [] = refl
matrix_is_whole (row ∷ rows) = matrix_is_whole rows

matrix_is_shallow : (rows : List MatrixRow) → items_depth (items_of (map matrix_row rows)) ≤ 1
matrix_is_shallow [] = omega arith
matrix_is_shallow (row ∷ rows) = omega (arith, matrix_is_shallow rows)

ranks_are_whole : (ranks : List ℕ) → items_have_float (items_of (map whole ranks)) ≡ false
ranks_are_whole [] = refl
ranks_are_whole (rank ∷ ranks) = ranks_are_whole ranks

ranks_are_shallow : (ranks : List ℕ) → items_depth (items_of (map whole ranks)) ≤ 1
ranks_are_shallow [] = omega arith
ranks_are_shallow (rank ∷ ranks) = omega (arith, ranks_are_shallow ranks)

reply_is_plain : (r : Reply) → IsPlain (json_of r)
reply_is_plain (reply.Problem name version) = record { whole = refl; shallow = lit≤ tt }
reply_is_plain (reply.Host name) = record { whole = refl; shallow = lit≤ tt }
reply_is_plain (reply.Submitted submission judging) = record { whole = refl; shallow = lit≤ tt }
reply_is_plain (reply.Handed task until) = record { whole = refl; shallow = lit≤ tt }
reply_is_plain (reply.Batch judging tests until) = record { whole = ap (λ b. b || false) (ranks_are_whole tests); shallow = omega (arith, ranks_are_shallow tests) }
reply_is_plain reply.Nothing = record { whole = refl; shallow = lit≤ tt }
reply_is_plain reply.Counted = record { whole = refl; shallow = lit≤ tt }
reply_is_plain (reply.Repeat kept) = record { whole = refl; shallow = lit≤ tt }
reply_is_plain (reply.Differs kept given) = record { whole = refl; shallow = lit≤ tt }
reply_is_plain reply.Dropped = record { whole = refl; shallow = lit≤ tt }
reply_is_plain (reply.Until until) = record { whole = refl; shallow = lit≤ tt }
reply_is_plain (reply.Ended count) = record { whole = refl; shallow = lit≤ tt }
reply_is_plain (reply.Shown (Final verdict)) = record { whole = refl; shallow = lit≤ tt }
reply_is_plain (reply.Shown Pending) = record { whole = refl; shallow = lit≤ tt }
reply_is_plain (reply.Owned submission) = record { whole = refl; shallow = lit≤ tt }
reply_is_plain (reply.Board rows) = record { whole = ap (λ b. b || false) (board_is_whole 1 rows); shallow = omega (arith, board_is_shallow 1 rows) }
reply_is_plain (reply.Rejudging number first last) = record { whole = refl; shallow = lit≤ tt }
reply_is_plain (reply.Matrix rows members) = record { whole = ap (λ b. b || false) (matrix_is_whole rows); shallow = omega (arith, matrix_is_shallow rows) }
reply_is_plain (reply.Applied members) = record { whole = refl; shallow = lit≤ tt }
reply_is_plain (reply.Cancelled members) = record { whole = refl; shallow = lit≤ tt }
reply_is_plain (reply.Verified judging) = record { whole = refl; shallow = lit≤ tt }
reply_is_plain (reply.Audit count head) = record { whole = refl; shallow = lit≤ tt }
reply_is_plain (reply.BadTests tests) = record { whole = refl; shallow = lit≤ tt }
reply_is_plain (reply.Known name) = record { whole = refl; shallow = lit≤ tt }
reply_is_plain (reply.NoProblem name) = record { whole = refl; shallow = lit≤ tt }
reply_is_plain (reply.NoHost name) = record { whole = refl; shallow = lit≤ tt }
reply_is_plain (reply.Full limit) = record { whole = refl; shallow = lit≤ tt }
reply_is_plain (reply.Holding limit) = record { whole = refl; shallow = lit≤ tt }
reply_is_plain (reply.NoJudging judging) = record { whole = refl; shallow = lit≤ tt }
reply_is_plain (reply.NoTest test) = record { whole = refl; shallow = lit≤ tt }
reply_is_plain reply.NotHanded = record { whole = refl; shallow = lit≤ tt }
reply_is_plain reply.NoLease = record { whole = refl; shallow = lit≤ tt }
reply_is_plain reply.EmptySet = record { whole = refl; shallow = lit≤ tt }
reply_is_plain (reply.NoSubmission submission) = record { whole = refl; shallow = lit≤ tt }
reply_is_plain (reply.Twice submission) = record { whole = refl; shallow = lit≤ tt }
reply_is_plain (reply.NotFinal number) = record { whole = refl; shallow = lit≤ tt }
reply_is_plain (reply.Busy submission rejudging) = record { whole = refl; shallow = lit≤ tt }
reply_is_plain (reply.NoRejudging rejudging) = record { whole = refl; shallow = lit≤ tt }
reply_is_plain (reply.Closed how) = record { whole = refl; shallow = lit≤ tt }
reply_is_plain (reply.Unfinished judging) = record { whole = refl; shallow = lit≤ tt }
reply_is_plain (reply.Already judging) = record { whole = refl; shallow = lit≤ tt }
reply_is_plain reply.NoMemory = record { whole = refl; shallow = lit≤ tt }

pub reply_is_whole : (r : Reply) → has_float (json_of r) ≡ false
reply_is_whole r = (reply_is_plain r).whole

pub reply_is_shallow : (r : Reply) → depth (json_of r) ≤ max_depth
reply_is_shallow r = (reply_is_plain r).shallow
