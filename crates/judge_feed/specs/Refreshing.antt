-- What a feed keeps, and what its calls do.
use Rattle.std.specs.Prelude.{◌≡◌, ◌≢◌, ◌⊎◌, ◌+◌, ◌^◌, ℕ, Bool, true, false, Option, None, Some, Result, Ok, Err, List, [], ◌∷◌, length, replicate}
use Rattle.farm_kinds.specs.declared.outcomes.Answer.{Answer}
use Rattle.farm_kinds.specs.declared.outcomes.Answer.TheVariants.{Pending}
use Rattle.farm_kinds.specs.declared.outcomes.NoMemory.{NoMemory}
use Rattle.farm_kinds.specs.declared.events.Reply.{Reply}
use Rattle.farm_kinds.specs.declared.events.Event.TheVariants as event
use Rattle.farm_kinds.specs.declared.events.Reply.TheVariants as reply
use Rattle.public_board.specs.Values.{HasPublished, ReaderValue, new_reader}
use Rattle.farm_board.specs.BoardState.{BoardState}
use Rattle.farm_board.specs.Passes.{BoardId, PassValue, Calls}
use Rattle.judge_feed.specs.Showing.{Shown, are_looks}
use Rattle.judge_feed.specs.declared.refreshed.Refreshed.{Refreshed}
use Rattle.judge_feed.specs.declared.refreshed.Refreshed.TheVariants as refreshed

-- what contracts see of a feed
pub record FeedValue : Type 0 where
  pub versions : List (List Answer)
  pub pass : PassValue

-- The pass is the one of this number of this board, has only looked, and has no turn. The calls that it has made and
-- those that it has left are 2^60.
pub record KeepsPass (board : BoardId) (start : BoardState) (number : ℕ) (pass : PassValue) : Type 0 where
  pub of_board : pass.board ≡ board
  pub begins : pass.start ≡ start
  pub numbered : pass.number ≡ number
  pub looks : are_looks pass.mine ≡ true
  pub count : length pass.mine + pass.left ≡ 2 ^ 60
  pub turn : pass.kept ≡ false

-- the versions are what the public saw at moments of the history that the pass has seen
pub record KeepsFeed (board : BoardId) (start : BoardState) (number : ℕ) (versions : List (List Answer))
    (pass : PassValue) : Type 0 where
  pub shown : ∥ Shown start versions pass.seen ∥₁
  pub passing : KeepsPass board start number pass

-- Calls

-- the pass asked what the public sees, and was answered, or memory ran out
abbrev pub AsksRows : PassValue → PassValue → Result (List Answer) NoMemory → Type 0
AsksRows old new (Ok rows) = Calls old new event.Board (reply.Board rows)
AsksRows old new (Err none) = (answer : Reply) × Calls old new event.Board answer

-- the pass asked for the judging, which is pending, or which may be final
abbrev pub AsksJudging : PassValue → PassValue → ℕ → Bool → Type 0
AsksJudging old new judging true = Calls old new (event.Show judging) (reply.Shown Pending)
AsksJudging old new judging false =
    (answer : Reply) × Calls old new (event.Show judging) answer × (answer ≢ reply.Shown Pending)

-- the pass asked what the public sees, which is published, and the note tells of the last version
pub record Publishes (old new : FeedValue) (number : ℕ) : Type 0 where
  pub rows : List Answer
  pub calls : Calls old.pass new.pass event.Board (reply.Board rows)
  pub published : HasPublished old.versions new.versions rows
  pub note : number ≡ length new.versions

-- the pass asked what the public sees, and nothing was published
pub record AsksInVain (old new : FeedValue) : Type 0 where
  pub answer : Reply
  pub calls : Calls old.pass new.pass event.Board answer
  pub kept : new.versions ≡ old.versions

-- what a refresh does; it makes no call exactly where the pass has none left
abbrev pub HasRefreshed : FeedValue → FeedValue → Refreshed → Type 0
HasRefreshed old new (refreshed.Done note) = (old.pass.left ≢ 0) × Publishes old new note.number
HasRefreshed old new refreshed.NoMemory = (old.pass.left ≢ 0) × AsksInVain old new
HasRefreshed old new refreshed.Spent = (old.pass.left ≡ 0) × (new ≡ old)

-- the pass asked for the judging, which is pending, and nothing was published
pub record FindsPending (old new : FeedValue) (judging : ℕ) : Type 0 where
  pub calls : Calls old.pass new.pass (event.Show judging) (reply.Shown Pending)
  pub kept : new.versions ≡ old.versions

-- the pass asked for the judging, which was not found pending, and refreshed
pub record RefreshesBehind (old new : FeedValue) (judging : ℕ) (r : Refreshed) : Type 0 where
  pub between : FeedValue
  pub answer : Reply
  pub calls : Calls old.pass between.pass (event.Show judging) answer
  pub other : answer ≢ reply.Shown Pending
  pub kept : between.versions ≡ old.versions
  pub refreshes : HasRefreshed between new r

-- what following a judging does
abbrev pub HasFollowed : FeedValue → FeedValue → ℕ → Option Refreshed → Type 0
HasFollowed old new judging None = (old.pass.left ≢ 0) × FindsPending old new judging
HasFollowed old new judging (Some r) =
    ((old.pass.left ≡ 0) × (r ≡ refreshed.Spent) × (new ≡ old))
    ⊎ ((old.pass.left ≢ 0) × RefreshesBehind old new judging r)

-- Opening

-- the pass is the one of this number of this board, has made no call, and has 2^60
pub record IsFresh (board : BoardId) (start : BoardState) (number : ℕ) (pass : PassValue) : Type 0 where
  pub of_board : pass.board ≡ board
  pub begins : pass.start ≡ start
  pub numbered : pass.number ≡ number
  pub mine : pass.mine ≡ []
  pub left : pass.left ≡ 2 ^ 60
  pub turn : pass.kept ≡ false

-- the pass asked what the public sees, which is the first version, and each reader was told of it
pub record HasOpened (pass : PassValue) (feed : FeedValue) (readers : List (ReaderValue Answer)) (n : ℕ) : Type 0 where
  pub rows : List Answer
  pub calls : Calls pass feed.pass event.Board (reply.Board rows)
  pub versions : feed.versions ≡ rows ∷ []
  pub told : readers ≡ replicate n (new_reader feed.versions)
