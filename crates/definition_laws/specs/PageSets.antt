-- Pages that fit.
use Rattle.std.specs.Prelude.{◌≡◌, ℕ, ◌/◌, List, [], ◌∷◌, ◌↔◌, Contains, Some, ⊤}
use Rattle.elf_image.specs.Image.{Image, byte_of}

-- each number stands once
abbrev pub AreDistinct : List ℕ → Type 0
AreDistinct [] = ⊤
AreDistinct (n ∷ ns) = (¬ Contains ns n) × AreDistinct ns

-- some address of the page has a byte of the file
abbrev pub HasBytes : List ℕ → Image → ℕ → Type 0
HasBytes file elf page_number = (a b : ℕ) × (a / 4096 ≡ page_number) × (byte_of file elf.segments a ≡ Some b)

-- these are the pages that have bytes of the file, each once
pub record ArePages (file : List ℕ) (elf : Image) (pages : List ℕ) : Type 0 where
  pub once : AreDistinct pages
  pub each : (n : ℕ) → Contains pages n ↔ HasBytes file elf n
