-- Sets of numbers, kept as words of 64 bits.
use Rattle.std.specs.Prelude.{◌≡◌, ◌≢◌, ℕ, ◌<◌, ◌≤◌, ◌/◌, ◌%◌, List, length, get_or}
use Rattle.std.specs.Int.{bit_at}

-- the word at a place, 0 behind the last
abbrev pub word : List ℕ → ℕ → ℕ
word words place = get_or words place 0

-- 1 where the number is in the set, else 0
unfoldable pub bit : List ℕ → ℕ → ℕ
bit words k = bit_at (word words (k / 64)) (k % 64)

-- a number is put in, and nothing else changes
pub record IsInserted (old new : List ℕ) (k : ℕ) : Type 0 where
  pub size : length new ≡ length old
  pub here : bit new k ≡ 1
  pub others : (i : ℕ) → i ≢ k → bit new i ≡ bit old i
  pub words : (p : ℕ) → p ≢ k / 64 → word new p ≡ word old p

-- a number is taken out, and nothing else changes
pub record IsRemoved (old new : List ℕ) (k : ℕ) : Type 0 where
  pub size : length new ≡ length old
  pub here : bit new k ≡ 0
  pub others : (i : ℕ) → i ≢ k → bit new i ≡ bit old i
  pub words : (p : ℕ) → p ≢ k / 64 → word new p ≡ word old p
  pub zero : word old (k / 64) ≡ 0 → word new (k / 64) ≡ 0

-- the numbers from k on are taken out, and nothing else changes
pub record IsCut (old new : List ℕ) (k : ℕ) : Type 0 where
  pub size : length new ≡ length old
  pub below : (i : ℕ) → i < k → bit new i ≡ bit old i
  pub above : (i : ℕ) → k ≤ i → bit new i ≡ 0

-- the least number of the set
pub record IsLeast (words : List ℕ) (k : ℕ) : Type 0 where
  pub here : bit words k ≡ 1
  pub before : (i : ℕ) → i < k → bit words i ≡ 0

-- the least number of the set in the word at this place
pub record IsLeastAt (words : List ℕ) (place k : ℕ) : Type 0 where
  pub place_is : k / 64 ≡ place
  pub here : bit words k ≡ 1
  pub before : (i : ℕ) → i / 64 ≡ place → i < k → bit words i ≡ 0

-- the set is empty
pub record IsEmpty (words : List ℕ) : Type 0 where
  pub none : (i : ℕ) → bit words i ≡ 0
