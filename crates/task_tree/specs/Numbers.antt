-- A set of numbers in three levels of words.
use Rattle.std.specs.Prelude.{◌≡◌, ℕ, ◌≤◌, ◌*◌, List, length}
use Rattle.task_tree.specs.Bits.{word, bit}

-- the upper words have a bit for each lower word that is not 0, and room for one for each lower word
pub record IsAbove (upper lower : List ℕ) : Type 0 where
  pub zero : (p : ℕ) → bit upper p ≡ 0 → word lower p ≡ 0
  pub some : (p : ℕ) → word lower p ≡ 0 → bit upper p ≡ 0
  pub size : length lower ≤ 64 * length upper

-- each level is above the next
pub record IsLeveled (bottom middle top : List ℕ) : Type 0 where
  pub lower : IsAbove middle bottom
  pub upper : IsAbove top middle

-- a set of numbers, and what finding the least costs
pub record Numbers : Type 0 where
  -- the set, as the words of its numbers
  pub numbers : List ℕ
  -- how many words there are at the top, which are tried one after the other
  pub top_words : ℕ
