use Rattle.std.specs.Prelude.{◌≡◌, ◌≢◌, ℕ, zero, suc, ◌+◌, ◌-◌, ◌*◌, ◌/◌, ◌%◌, ◌≤◌, ◌<◌, ◌⊎◌, Bool, true, false, nat_eq, nat_lt, nat_le, if◌then◌else◌, List, [], ◌∷◌, ◌++◌, length, get_or, set, replicate}
use Rattle.std.specs.List.{position_or_len}
use Rattle.rv_memory.specs.declared.page.Page.{Page}
use Rattle.rv_memory.specs.declared.memory.MemFault.{MemFault}
use Rattle.rv_memory.specs.declared.memory.MemFault.TheVariants.{Misaligned, OverLimit, NoMemory}

-- ---- a memory: a map from addresses to bytes, and the set of touched pages

-- the touched pages with their bytes, in the order in which they were touched, and how many there may be
pub record State : Type 0 where
  pub limit : ℕ
  pub pages : List Page

-- An address a lies in page a / 4096, at offset a % 4096 there.

-- the bytes of a new page
unfoldable pub zeros : List ℕ
zeros = replicate 4096 0

-- what stands for a page where there is none
abbrev pub no_page : Page
no_page = record { number = 0; bytes = [] }

-- the place of a page among the touched ones, or their number
abbrev pub place : List Page → ℕ → ℕ
place ps p = position_or_len (λ q. nat_eq q.number p) ps

-- the set of touched pages
abbrev pub is_touched : State → ℕ → Bool
is_touched s p = nat_lt (place s.pages p) (length s.pages)

-- how many pages were touched
abbrev pub page_count : State → ℕ
page_count s = length s.pages

-- the byte at an address, 0 where its page was not touched
abbrev pub byte_at : State → ℕ → ℕ
byte_at s a = get_or (get_or s.pages (place s.pages (a / 4096)) no_page).bytes (a % 4096) 0

-- the numbers that two and four bytes from an address on spell, the lowest first
abbrev pub half_at : State → ℕ → ℕ
half_at s a = byte_at s a + 0x100 * byte_at s (a + 1)

abbrev pub word_at : State → ℕ → ℕ
word_at s a = byte_at s a + 0x100 * byte_at s (a + 1) + 0x10000 * byte_at s (a + 2) + 0x1000000 * byte_at s (a + 3)

-- the bytes from the address a on, as many as the second number says
abbrev pub bytes_at : State → ℕ → ℕ → List ℕ
bytes_at s a zero = []
bytes_at s a (suc n) = byte_at s a ∷ bytes_at s (a + 1) n

-- ---- touching

-- a page is touched: a new one has zeros
abbrev pub touch : State → ℕ → State
touch s p =
    if is_touched s p then s
    else record { limit = s.limit; pages = s.pages ++ record { number = p; bytes = zeros } ∷ [] }

-- touching the page would make one page more than the limit
abbrev pub is_over : State → ℕ → Bool
is_over s p = if is_touched s p then false else nat_le s.limit (length s.pages)

-- the pages from p on, as many as the second number says, are touched, one after the other
abbrev pub touch_pages : State → ℕ → ℕ → State
touch_pages s p zero = s
touch_pages s p (suc k) = touch (touch_pages s p k) (p + k)

-- how many pages hold one of n bytes from an address on
abbrev pub span : ℕ → ℕ → ℕ
span a n = if nat_eq n 0 then 0 else (a + n - 1) / 4096 - a / 4096 + 1

-- the pages of n bytes from an address on are touched
abbrev pub touch_range : State → ℕ → ℕ → State
touch_range s a n = touch_pages s (a / 4096) (span a n)

-- with the pages of n bytes from an address on there are no more pages than the limit
abbrev pub fits : State → ℕ → ℕ → Bool
fits s a n = nat_le (length (touch_range s a n).pages) s.limit

-- each of n bytes from an address on lies in a page that was touched
abbrev pub AllTouched : State → ℕ → ℕ → Type 0
AllTouched s a n = (k : ℕ) → k < n → is_touched s ((a + k) / 4096) ≡ true

-- ---- storing

-- the bytes of a touched page are changed
abbrev pub write : State → ℕ → (List ℕ → List ℕ) → State
write s p f =
    let k = place s.pages p in
    let q = get_or s.pages k no_page in
    record { limit = s.limit; pages = set s.pages k (record { number = q.number; bytes = f q.bytes }) }

-- a byte is put at an address, whose page is touched
abbrev pub put : State → ℕ → ℕ → State
put s a b = write (touch s (a / 4096)) (a / 4096) (λ bs. set bs (a % 4096) b)

-- bytes are put one after the other, from an address on
abbrev pub store_bytes : State → ℕ → List ℕ → State
store_bytes s a [] = s
store_bytes s a (b ∷ bs) = store_bytes (put s a b) (a + 1) bs

-- the low two bytes, and the four bytes, of a number, the lowest first
abbrev pub half_bytes : ℕ → List ℕ
half_bytes v = v % 0x100 ∷ v / 0x100 % 0x100 ∷ []

abbrev pub word_bytes : ℕ → List ℕ
word_bytes v = v % 0x100 ∷ v / 0x100 % 0x100 ∷ v / 0x10000 % 0x100 ∷ v / 0x1000000 % 0x100 ∷ []

abbrev pub store8 : State → ℕ → ℕ → State
store8 s a v = put s a (v % 0x100)

abbrev pub store16 : State → ℕ → ℕ → State
store16 s a v = store_bytes s a (half_bytes v)

abbrev pub store32 : State → ℕ → ℕ → State
store32 s a v = store_bytes s a (word_bytes v)

-- ---- what a change leaves as it was

-- each touched page has all its bytes
pub record IsWhole (pages : List Page) : Type 0 where
  pub whole : (k : ℕ) → k < length pages → length (get_or pages k no_page).bytes ≡ 4096

-- new has these bytes from an address on, and every other byte of old
pub record ChangesBytes (old new : State) (a : ℕ) (bs : List ℕ) : Type 0 where
  pub there : (k : ℕ) → k < length bs → byte_at new (a + k) ≡ get_or bs k 0
  pub elsewhere : (x : ℕ) → (x < a) ⊎ (a + length bs ≤ x) → byte_at new x ≡ byte_at old x

-- new has the touched pages of old and this one, and its limit
pub record TouchesPage (old new : State) (p : ℕ) : Type 0 where
  pub this : is_touched new p ≡ true
  pub others : (m : ℕ) → m ≢ p → is_touched new m ≡ is_touched old m
  pub limit : new.limit ≡ old.limit

-- ---- when an access of n bytes (1, 2 or 4) at an address is allowed, and why it is refused

abbrev pub Allows : ℕ → State → ℕ → Type 0
Allows n s a = (a % n ≡ 0) × (is_over s (a / 4096) ≡ false)

abbrev pub Refuses : ℕ → State → ℕ → MemFault → Type 0
Refuses n s a Misaligned = a % n ≢ 0
Refuses n s a (OverLimit pages) = (a % n ≡ 0) × (is_over s (a / 4096) ≡ true) × (pages ≡ s.limit)
Refuses n s a NoMemory = Allows n s a
