-- What a file of records holds. A record is a gate byte, the length of its line in two bytes, the lower first, and the line.
use Rattle.std.specs.Prelude.{◌≡◌, ◌≢◌, ◌⊎◌, Bool, true, false, ℕ, zero, suc, ◌+◌, ◌*◌, ◌/◌, ◌%◌, ◌<◌, ◌≤◌, max, ◌==◌, ◌&&◌, nat_lt, List, [], ◌∷◌, ◌++◌, length, take, drop, slice_index, if◌then◌else◌}
use Rattle.record_store.specs.Model.{DiskState, IsQuiet}

-- the length that is written in two bytes
abbrev pub length_of : ℕ → ℕ → ℕ
length_of low high = low + 256 * high

-- The lines of the held records, from the first gate behind n bytes on. A record is held where its gate is 1, and it
-- and the byte after it lie in the file.
abbrev pub held_behind : ℕ → List ℕ → List (List ℕ)
held_behind (suc n) (byte ∷ rest) = held_behind n rest
held_behind zero (gate ∷ low ∷ high ∷ rest) =
    if (gate == 1) && nat_lt (length_of low high) (length rest)
    then take (length_of low high) rest ∷ held_behind (length_of low high) rest
    else []
held_behind n bytes = []

-- the lines of the held records: those from the start up to the first that is not held
abbrev pub held : List ℕ → List (List ℕ)
held bytes = held_behind 0 bytes

-- records of these lines behind one another, each with its gate open
abbrev pub records_of : List (List ℕ) → List ℕ
records_of [] = []
records_of (line ∷ lines) = 1 ∷ (length line % 256) ∷ (length line / 256) ∷ (line ++ records_of lines)

-- after a write of n bytes that a crash cuts short: any bytes in the range and past the old end, the same elsewhere
pub record Torn (at n : ℕ) (old new : List ℕ) : Type 0 where
  pub before : take at new ≡ take at old
  pub after : drop (at + n) new ≡ drop (at + n) old
  pub no_shorter : length old ≤ length new
  pub no_longer : length new ≤ max (at + n) (length old)

-- the bytes are the records of these lines, whatever follows, if any byte does
pub record IsRecordPrefix (prefix : List ℕ) (lines : List (List ℕ)) : Type 0 where
  pub reads : (rest : List ℕ) → 0 < length rest → held (prefix ++ rest) ≡ lines ++ held rest

-- behind the records of these lines stands a gate that is closed
pub record IsClosedAt (file : List ℕ) (lines : List (List ℕ)) (end : ℕ) : Type 0 where
  pub prefix : IsRecordPrefix (take end file) lines
  pub inside : end < length file
  pub gate : slice_index file end ≢ 1

-- the disk holds these lines, with a closed gate behind them at this offset, and nothing is pending
pub record Rests (disk : DiskState) (lines : List (List ℕ)) (end : ℕ) : Type 0 where
  pub quiet : IsQuiet disk
  pub closed : IsClosedAt disk.seen lines end

-- a closed gate, and behind it the records of a line and of others but for the first gate, and another closed gate
pub record IsStaged (file : List ℕ) (lines : List (List ℕ)) (end : ℕ) (line : List ℕ) (others : List (List ℕ)) : Type 0 where
  pub closed : IsClosedAt file lines end
  pub tail : List ℕ
  pub behind : 1 ∷ drop (end + 1) file ≡ records_of (line ∷ others) ++ 0 ∷ tail

-- the file holds these lines, with the new ones behind them or without
abbrev pub IsBeforeOrAfter : List (List ℕ) → List (List ℕ) → List ℕ → Type 0
IsBeforeOrAfter lines more file = (held file ≡ lines) ⊎ (held file ≡ lines ++ more)

-- the file holds what the old one held
abbrev pub HoldsStill : List ℕ → List ℕ → Type 0
HoldsStill old file = held file ≡ held old

-- at the offset stands a held record of this line
abbrev pub IsNext : List ℕ → ℕ → List ℕ → Type 0
IsNext file at line =
    (lines : List (List ℕ))
    → IsRecordPrefix (take at file) lines
    → IsRecordPrefix (take (at + 3 + length line) file) (lines ++ line ∷ [])

-- at the offset stands a held record of this line, or none is held from there on
abbrev pub ReadsNext : Bool → List ℕ → ℕ → List ℕ → Type 0
ReadsNext true file at line = IsNext file at line
ReadsNext false file at line = held (drop at file) ≡ []

-- these lines stand up to the offset, and no held record behind it
pub record IsRead (file : List ℕ) (at : ℕ) (lines : List (List ℕ)) : Type 0 where
  pub prefix : IsRecordPrefix (take at file) lines
  pub none : held (drop at file) ≡ []
  pub within : (at < length file) ⊎ (file ≡ [])
