-- Why a rejudging is not prepared, or not closed.
use Rattle.std.specs.Prelude.{◌≡◌, ℕ, ◌≤◌, List, [], ◌∷◌, Option, Some, None}
use Rattle.std.specs.List.{All}
use Rattle.farm_model.specs.declared.records.Rejudging.{Rejudging}
use Rattle.farm_model.specs.Refusing.{first_of}
use Rattle.farm_model.specs.Rejudgings.{twice_refusal, busy_refusal, closing_refusal}
use Rattle.rejudge_book.specs.declared.faults.BookFault.{BookFault}
use Rattle.rejudge_book.specs.declared.faults.BookFault.TheVariants as fault
use Rattle.rejudge_book.specs.declared.faults.CloseFault.{CloseFault}
use Rattle.rejudge_book.specs.declared.faults.CloseFault.TheVariants as close

-- it is the number of one of `submissions` submissions
pub record IsKnown (submissions : ℕ) (submission : ℕ) : Type 0 where
  pub numbered : 1 ≤ submission
  pub within : submission ≤ submissions

-- each number of the list is that of one of `submissions` submissions
abbrev pub AreKnown : ℕ → List ℕ → Type 0
AreKnown submissions list = All (IsKnown submissions) list

abbrev pub empty_refusal : List ℕ → Option BookFault
empty_refusal [] = Some fault.EmptySet
empty_refusal (m ∷ list) = None

-- why no room is made for a rejudging of these members
abbrev pub reserve_refusal : List Rejudging → List ℕ → Option BookFault
reserve_refusal rejudgings list =
    first_of (twice_refusal fault.Twice list ∷ busy_refusal fault.Busy rejudgings list ∷ [])

-- why no rejudging of these members is prepared
abbrev pub prepare_refusal : List Rejudging → List ℕ → Option BookFault
prepare_refusal rejudgings list =
    first_of (empty_refusal list ∷ twice_refusal fault.Twice list ∷ busy_refusal fault.Busy rejudgings list ∷ [])

-- The fault is the refusal. Where there is none it is want of memory, and this is known then.
abbrev pub IsFault : Option BookFault → Type 0 → BookFault → Type 0
IsFault (Some refusal) Short f = f ≡ refusal
IsFault None Short f = (f ≡ fault.NoMemory) × Short

-- why the rejudging of this number is not closed
abbrev pub close_refusal : List Rejudging → ℕ → Option CloseFault
close_refusal rejudgings number = closing_refusal close.NoRejudging close.Closed rejudgings number
