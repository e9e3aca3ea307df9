-- What is put of a look at what the public sees, and what is kept of it.
use Rattle.std.specs.Prelude.{◌≡◌, ◌≢◌, ℕ, ◌≤◌, List, length, take, Bool, false, Option, Result, Ok, Err}
use Rattle.std.specs.Io.KnownBytes.{Appends, Keeps}
use Rattle.farm_kinds.specs.declared.outcomes.Answer.{Answer}
use Rattle.farm_kinds.specs.declared.events.Reply.{Reply}
use Rattle.farm_kinds.specs.declared.events.Reply.TheVariants as reply
use Rattle.farm_board.specs.BoardState.{BoardState}
use Rattle.http_door.specs.declared.responses.ResponseFault.{ResponseFault}
use Rattle.http_door.specs.declared.responses.ResponseFault.TheVariants as fault
use Rattle.public_board.specs.Values.{ReaderValue}
use Rattle.public_board.specs.Versions.{last_of}
use Rattle.farm_api.specs.Conversation.{rows_response}
use Rattle.farm_api.specs.Entering.{Entered, with_look}
use Rattle.farm_api.specs.Exchanges.{IsBoard}
use Rattle.farm_api.specs.Reads.{rows_in, Reads}

-- Looks

-- the response that gives the rows of a look was put; or a prefix of it; or nothing, as where the look gave no rows
abbrev pub PutsRows : Bool → Reply → Option (List ℕ) → Option (List ℕ) → Result (Unit {0}) ResponseFault → Type 0
PutsRows closing r held held' (Ok u) = IsBoard r × Appends held held' (rows_response closing r)
PutsRows closing r held held' (Err fault.WriteFault) =
    IsBoard r × ((n : ℕ) × Appends held held' (take n (rows_response closing r)))
PutsRows closing r held held' (Err fault.NoMemory) = Keeps held held'

-- a look led from a state into a state, and what it gave was put
abbrev pub PutsLook : {A : Type 0} → (A → Entered → A → Type 0) → Bool → A → A → Option (List ℕ) → Option (List ℕ)
    → Result (Unit {0}) ResponseFault → Type 0
PutsLook step closing a b held held' result =
    (r : Reply) × step a (with_look r) b × PutsRows closing r held held' result

-- a reader read, and what it gave was put
abbrev pub PutsRead : BoardState → Bool → ReaderValue Answer → ReaderValue Answer → Option (List ℕ) → Option (List ℕ)
    → Result (Unit {0}) ResponseFault → Type 0
PutsRead start closing old new held held' result =
    (r : Reply) × Reads start old (rows_in r) new × PutsRows closing r held held' result

-- What is kept

-- what contracts see of a reader that keeps a response
abbrev pub PublicReaderValue : Type 0
PublicReaderValue = ReaderValue Answer

-- the version of this number, among these, is what the response gives; the number 0 says that none is kept
pub record IsKept (versions : List (List Answer)) (number : ℕ) (response : List ℕ) : Type 0 where
  pub known : number ≤ length versions
  pub gives : number ≢ 0 → response ≡ rows_response false (reply.Board (last_of (take number versions)))
