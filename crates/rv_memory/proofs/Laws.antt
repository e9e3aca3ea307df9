use Rattle.std.proofs.Common.{◌≡◌, ◌≢◌, ℕ, zero, suc, ◌+◌, ◌*◌, ◌/◌, ◌%◌, ◌<◌, ◌≤◌, ◌⊎◌, true, List, [], ◌∷◌, length, get_or, set, refl, ◌∙◌, ap, arith, inl, inr}
use Rattle.std.proofs.lemmas.Bool.{cases_eq, cases_lt}
use Rattle.std.proofs.lemmas.List.{get_or-set_same}
use Rattle.std.proofs.lemmas.Grind.{common_steps, elements}
use Rattle.rv_memory.specs.Paged.{State, no_page, place, touch, byte_at, word_at, is_touched, write, put, store_bytes, half_bytes, word_bytes, store8, store16, store32, touch_pages, touch_range, span, IsWhole, ChangesBytes, TouchesPage}
use Rattle.rv_memory.specs.PageBytes.{set_bytes}
use Rattle.rv_memory.specs.declared.page.Page.{Page}
use Rattle.rv_memory.proofs.Places.{whole_push, whole_set}
use Rattle.rv_memory.proofs.Bytes.{byte_at_touch, touch_cases}
use Rattle.rv_memory.proofs.Touching.{touched_touch, is_touched_touch, is_touched-touch, is_touched_other}
use Rattle.rv_memory.proofs.Storing.{place_after_write, is_touched_put, is_touched_write, is_touched_store_bytes, store_bytes_in_page}
use Rattle.rv_memory.proofs.Ranges.{is_touched_touch_pages, limit-touch}

-- the page at the place of a number has that number
number_at_place : (ps : List Page) (p : ℕ) → place ps p < length ps → (get_or ps (place ps p) no_page).number ≡ p
number_at_place [] p h = absurd (omega arith)
number_at_place (q ∷ qs) p h = elim (cases_eq q.number p) [
  | inl t ↦ grind arith
  | inr t ↦ let l : place qs p < length qs = grind arith in let rest : (get_or qs (place qs p) no_page).number ≡ p = number_at_place qs p l in grind arith
]

-- a write to a page changes no byte that it keeps, and no other page
byte_at_write : (t : State) (p x : ℕ) (f : List ℕ → List ℕ) → place t.pages p < length t.pages →
    (x / 4096 ≡ p → (bs : List ℕ) → get_or (f bs) (x % 4096) 0 ≡ get_or bs (x % 4096) 0) → byte_at (write t p f) x ≡ byte_at t x
byte_at_write t p x f h keeps =
    let k = place t.pages p in
    let q = get_or t.pages k no_page in
    let e : place (write t p f).pages (x / 4096) ≡ place t.pages (x / 4096) = place_after_write t.pages p (x / 4096) (f q.bytes) in
    elim (cases_eq (place t.pages (x / 4096)) k) [
      | inl same ↦
          let n : q.number ≡ p = number_at_place t.pages p h in
          let l : place t.pages (x / 4096) < length t.pages = omega arith in
          let m : (get_or t.pages (place t.pages (x / 4096)) no_page).number ≡ x / 4096 = number_at_place t.pages (x / 4096) l in
          let here : x / 4096 ≡ p = grind arith in
          grind (arith, elements, keeps here q.bytes)
      | inr other ↦ grind (arith, elements)
    ]

set_other : (o v x : ℕ) (bs : List ℕ) → x ≢ o → get_or (set bs o v) x 0 ≡ get_or bs x 0
set_other o v x bs h = grind (arith, elements)

-- ---- what is put at an address changes no other byte

pub byte_at_put : (s : State) (a b x : ℕ) → x ≢ a → byte_at (put s a b) x ≡ byte_at s x
byte_at_put s a b x other =
    byte_at_write (touch s (a / 4096)) (a / 4096) x (λ bs. set bs (a % 4096) b) (touched_touch s (a / 4096))
    (λ e bs. set_other (a % 4096) b (x % 4096) bs (omega arith))
    ∙ byte_at_touch s (a / 4096) x

pub byte_at_store_bytes : (s : State) (a x : ℕ) (bs : List ℕ) → (x < a) ⊎ (a + length bs ≤ x) → byte_at (store_bytes s a bs) x ≡ byte_at s x
byte_at_store_bytes s a x [] out = refl
byte_at_store_bytes s a x (b ∷ bs) out =
    let apart : x ≢ a = elim out [ inl l ↦ omega arith | inr g ↦ omega arith ] in
    let rest : (x < a + 1) ⊎ (a + 1 + length bs ≤ x) = elim out [ inl l ↦ inl (omega arith) | inr g ↦ inr (omega arith) ] in
    byte_at_store_bytes (put s a b) (a + 1) x bs rest ∙ byte_at_put s a b x apart

-- ---- nor any other word

-- a word that no byte of a range lies in
pub word_at_store_bytes : (s : State) (a b : ℕ) (bs : List ℕ) → (b + 4 ≤ a) ⊎ (a + length bs ≤ b) → word_at (store_bytes s a bs) b ≡ word_at s b
word_at_store_bytes s a b bs out =
    elim out [
      | inl l ↦ omega (arith, byte_at_store_bytes s a b bs (inl (omega arith)), byte_at_store_bytes s a (b + 1) bs (inl (omega arith)), byte_at_store_bytes s a (b + 2) bs (inl (omega arith)), byte_at_store_bytes s a (b + 3) bs (inl (omega arith)))
      | inr g ↦ omega (arith, byte_at_store_bytes s a b bs (inr (omega arith)), byte_at_store_bytes s a (b + 1) bs (inr (omega arith)), byte_at_store_bytes s a (b + 2) bs (inr (omega arith)), byte_at_store_bytes s a (b + 3) bs (inr (omega arith)))
    ]

pub word_at_store8 : (s : State) (a v b : ℕ) → b % 4 ≡ 0 → b ≢ a / 4 * 4 → word_at (store8 s a v) b ≡ word_at s b
word_at_store8 s a v b g n =
    omega (arith, byte_at_put s a (v % 0x100) b (omega arith), byte_at_put s a (v % 0x100) (b + 1) (omega arith), byte_at_put s a (v % 0x100) (b + 2) (omega arith), byte_at_put s a (v % 0x100) (b + 3) (omega arith))

apart : (a b n : ℕ) → a % n ≡ 0 → (n ≡ 2) ⊎ (n ≡ 4) → b % 4 ≡ 0 → b ≢ a / 4 * 4 → (b + 4 ≤ a) ⊎ (a + n ≤ b)
apart a b n h w g other = elim w [
  | inl two ↦ let e : a % 2 ≡ 0 = rw two at h in rw two (side a b 2 (omega arith))
  | inr four ↦ let e : a % 4 ≡ 0 = rw four at h in rw four (side a b 4 (omega arith))
] where
  side : (a b n : ℕ) → (a < b + 4 → a + n ≤ b) → (b + 4 ≤ a) ⊎ (a + n ≤ b)
  side a b n f = elim (cases_lt a (b + 4)) [ inl l ↦ inr (f l) | inr g ↦ inl g ]

pub word_at_store16 : (s : State) (a v b : ℕ) → a % 2 ≡ 0 → b % 4 ≡ 0 → b ≢ a / 4 * 4 → word_at (store16 s a v) b ≡ word_at s b
word_at_store16 s a v b h g n = word_at_store_bytes s a b (half_bytes v) (apart a b 2 h (inl refl) g n)

pub word_at_store32 : (s : State) (a v b : ℕ) → a % 4 ≡ 0 → b % 4 ≡ 0 → a ≢ b → word_at (store32 s a v) b ≡ word_at s b
word_at_store32 s a v b h g n = word_at_store_bytes s a b (word_bytes v) (apart a b 4 h (inr refl) g (omega arith))

-- ---- what was touched stays touched

pub is_touched_store8 : (s : State) (a v m : ℕ) → is_touched s m ≡ true → is_touched (store8 s a v) m ≡ true
is_touched_store8 s a v m h = is_touched_put s a (v % 0x100) m ∙ is_touched_touch s (a / 4096) m h

pub is_touched_store16 : (s : State) (a v m : ℕ) → is_touched s m ≡ true → is_touched (store16 s a v) m ≡ true
is_touched_store16 s a v m h = is_touched_store_bytes s a m (half_bytes v) h

pub is_touched_store32 : (s : State) (a v m : ℕ) → is_touched s m ≡ true → is_touched (store32 s a v) m ≡ true
is_touched_store32 s a v m h = is_touched_store_bytes s a m (word_bytes v) h

pub is_touched_touch_range : (s : State) (a n m : ℕ) → is_touched s m ≡ true → is_touched (touch_range s a n) m ≡ true
is_touched_touch_range s a n m h = is_touched_touch_pages s (a / 4096) (span a n) m h

-- ---- touching changes no byte

pub byte_at_touch_pages : (s : State) (p k x : ℕ) → byte_at (touch_pages s p k) x ≡ byte_at s x
byte_at_touch_pages s p zero x = refl
byte_at_touch_pages s p (suc k) x = byte_at_touch (touch_pages s p k) (p + k) x ∙ byte_at_touch_pages s p k x

pub word_at_touch_range : (s : State) (a n b : ℕ) → word_at (touch_range s a n) b ≡ word_at s b
word_at_touch_range s a n b =
    let p = a / 4096 in
    let k = span a n in
    omega (arith, byte_at_touch_pages s p k b, byte_at_touch_pages s p k (b + 1), byte_at_touch_pages s p k (b + 2), byte_at_touch_pages s p k (b + 3))

-- ---- what is put at an address is there

whole_touch : (s : State) (p : ℕ) → IsWhole s.pages → IsWhole (touch s p).pages
whole_touch s p w = elim (touch_cases s p) [ inl t ↦ rw t w | inr t ↦ rw t (whole_push s.pages p w) ]

whole_put : (s : State) (a b : ℕ) → IsWhole s.pages → IsWhole (put s a b).pages
whole_put s a b w =
    let t = touch s (a / 4096) in
    let k = place t.pages (a / 4096) in
    let q = get_or t.pages k no_page in
    whole_set t.pages k (record { number = q.number; bytes = set q.bytes (a % 4096) b }) (whole_touch s (a / 4096) w) (touched_touch s (a / 4096)) (grind (arith, common_steps))

byte_at-put : (s : State) (a b : ℕ) → IsWhole s.pages → byte_at (put s a b) a ≡ b
byte_at-put s a b w =
    let p = a / 4096 in
    let t = touch s p in
    let k = place t.pages p in
    let q = get_or t.pages k no_page in
    let r : Page = record { number = q.number; bytes = set q.bytes (a % 4096) b } in
    let l : k < length t.pages = touched_touch s p in
    let n : length q.bytes ≡ 4096 = (whole_touch s p w).whole k l in
    let e : place (set t.pages k r) p ≡ k = place_after_write t.pages p p (set q.bytes (a % 4096) b) in
    let same : get_or (set t.pages k r) k no_page ≡ r = get_or-set_same t.pages k r no_page l in
    ap (λ (i : ℕ). get_or (get_or (set t.pages k r) i no_page).bytes (a % 4096) 0) e
    ∙ ap (λ (v : Page). get_or v.bytes (a % 4096) 0) same
    ∙ get_or-set_same q.bytes (a % 4096) b 0 (omega arith)

there_store_bytes : (s : State) (a : ℕ) (bs : List ℕ) → IsWhole s.pages → (k : ℕ) → k < length bs → byte_at (store_bytes s a bs) (a + k) ≡ get_or bs k 0
there_store_bytes s a [] w k l = absurd (omega arith)
there_store_bytes s a (b ∷ bs) w zero l =
    let e : a + 0 ≡ a = omega arith in
    rw e (byte_at_store_bytes (put s a b) (a + 1) a bs (inl (omega arith)) ∙ byte_at-put s a b w)
there_store_bytes s a (b ∷ bs) w (suc k) l =
    let e : a + suc k ≡ a + 1 + k = omega arith in
    rw e (there_store_bytes (put s a b) (a + 1) bs (whole_put s a b w) k (omega arith))

pub changes_store_bytes : (s : State) (a : ℕ) (bs : List ℕ) → IsWhole s.pages → ChangesBytes s (store_bytes s a bs) a bs
changes_store_bytes s a bs w = record { there = there_store_bytes s a bs w; elsewhere = λ x out. byte_at_store_bytes s a x bs out }

pub changes_store8 : (s : State) (a v : ℕ) → IsWhole s.pages → ChangesBytes s (store8 s a v) a (v % 0x100 ∷ [])
changes_store8 s a v w = changes_store_bytes s a (v % 0x100 ∷ []) w

pub changes_store16 : (s : State) (a v : ℕ) → IsWhole s.pages → ChangesBytes s (store16 s a v) a (half_bytes v)
changes_store16 s a v w = changes_store_bytes s a (half_bytes v) w

pub changes_store32 : (s : State) (a v : ℕ) → IsWhole s.pages → ChangesBytes s (store32 s a v) a (word_bytes v)
changes_store32 s a v w = changes_store_bytes s a (word_bytes v) w

-- ---- which pages are touched

touches_write : (s : State) (p : ℕ) (f : List ℕ → List ℕ) → TouchesPage s (write (touch s p) p f) p
touches_write s p f = record {
  this = is_touched_write (touch s p) p p f ∙ is_touched-touch s p;
  others = λ m other. is_touched_write (touch s p) p m f ∙ is_touched_other s p m other;
  limit = limit-touch s p;
}

pub touches_store8 : (s : State) (a v : ℕ) → TouchesPage s (store8 s a v) (a / 4096)
touches_store8 s a v = touches_write s (a / 4096) (λ bs. set bs (a % 4096) (v % 0x100))

in_page : (s t : State) (p : ℕ) (f : List ℕ → List ℕ) → t ≡ write (touch s p) p f → TouchesPage s t p
in_page s t p f e = rw e (touches_write s p f)

pub touches_store16 : (s : State) (a v : ℕ) → a % 2 ≡ 0 → TouchesPage s (store16 s a v) (a / 4096)
touches_store16 s a v h = in_page s (store16 s a v) (a / 4096) (set_bytes (a % 4096) (half_bytes v)) (store_bytes_in_page s a (v % 0x100) (v / 0x100 % 0x100 ∷ []) (omega arith))

pub touches_store32 : (s : State) (a v : ℕ) → a % 4 ≡ 0 → TouchesPage s (store32 s a v) (a / 4096)
touches_store32 s a v h = in_page s (store32 s a v) (a / 4096) (set_bytes (a % 4096) (word_bytes v)) (store_bytes_in_page s a (v % 0x100) (v / 0x100 % 0x100 ∷ v / 0x10000 % 0x100 ∷ v / 0x1000000 % 0x100 ∷ []) (omega arith))
