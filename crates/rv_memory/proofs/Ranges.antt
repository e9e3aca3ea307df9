use Rattle.std.proofs.Common.{◌≡◌, ℕ, zero, suc, ◌+◌, ◌-◌, ◌/◌, ◌<◌, ◌≤◌, Bool, true, false, List, length, take, refl, arith, inl, inr, ap, ◌∙◌, add-one, if◌then◌else◌}
use Rattle.std.proofs.lemmas.Grind.{common_steps}
use Rattle.std.proofs.lemmas.Bool.{cases_eq, cases_Bool}
use Rattle.rv_memory.specs.Paged.{State, zeros, touch, is_touched, is_over, touch_pages, touch_range, span, fits, AllTouched}
use Rattle.rv_memory.specs.declared.page.Page.{Page}
use Rattle.rv_memory.proofs.Bytes.{touch_cases}
use Rattle.rv_memory.proofs.Touching.{is_touched_touch, is_touched-touch, is_touched_other, length-touch}

pub touch_pages-more : (s : State) (p k : ℕ) → touch_pages s p (k + 1) ≡ touch (touch_pages s p k) (p + k)
touch_pages-more s p k = ap (λ (n : ℕ). touch_pages s p n) (add-one k)

-- pages behind those that are touched stay as they were
pub is_touched_beyond : (s : State) (p k m : ℕ) → p + k ≤ m → is_touched (touch_pages s p k) m ≡ is_touched s m
is_touched_beyond s p zero m h = refl
is_touched_beyond s p (suc k) m h = is_touched_other (touch_pages s p k) (p + k) m (omega arith) ∙ is_touched_beyond s p k m (omega arith)

pub is_touched_within : (s : State) (p k i : ℕ) → i < k → is_touched (touch_pages s p k) (p + i) ≡ true
is_touched_within s p zero i h = absurd (omega arith)
is_touched_within s p (suc k) i h = elim (cases_eq i k) [
  | inl t ↦ rw t (is_touched-touch (touch_pages s p k) (p + k))
  | inr t ↦ is_touched_touch (touch_pages s p k) (p + k) (p + i) (is_touched_within s p k i (omega arith))
]

-- a page that was touched stays touched
pub is_touched_touch_pages : (s : State) (p k m : ℕ) → is_touched s m ≡ true → is_touched (touch_pages s p k) m ≡ true
is_touched_touch_pages s p zero m h = h
is_touched_touch_pages s p (suc k) m h = is_touched_touch (touch_pages s p k) (p + k) m (is_touched_touch_pages s p k m h)

pub limit-touch : (s : State) (p : ℕ) → (touch s p).limit ≡ s.limit
limit-touch s p = elim (touch_cases s p) [ inl t ↦ ap (λ (x : State). x.limit) t | inr t ↦ ap (λ (x : State). x.limit) t ]

pub limit-touch_pages : (s : State) (p k : ℕ) → (touch_pages s p k).limit ≡ s.limit
limit-touch_pages s p zero = refl
limit-touch_pages s p (suc k) = limit-touch (touch_pages s p k) (p + k) ∙ limit-touch_pages s p k

-- how many pages there are after one more
pub length-touch_pages : (s : State) (p k : ℕ) → length (touch_pages s p (k + 1)).pages ≡ length (touch_pages s p k).pages + (if is_touched s (p + k) then 0 else 1)
length-touch_pages s p k =
    ap (λ (x : State). length x.pages) (touch_pages-more s p k) ∙ length-touch (touch_pages s p k) (p + k)
    ∙ ap (λ (b : Bool). length (touch_pages s p k).pages + (if b then 0 else 1)) (is_touched_beyond s p k (p + k) (omega arith))

pub touch_pages_grows : (s : State) (p k j : ℕ) → length (touch_pages s p k).pages ≤ length (touch_pages s p (k + j)).pages
touch_pages_grows s p k zero = let e : k + 0 ≡ k = omega arith in rw e (omega arith)
touch_pages_grows s p k (suc j) =
    let e : k + suc j ≡ suc (k + j) = omega arith in
    let rest : length (touch_pages s p k).pages ≤ length (touch_pages s p (k + j)).pages = touch_pages_grows s p k j in
    let more : length (touch (touch_pages s p (k + j)) (p + (k + j))).pages ≡ length (touch_pages s p (k + j)).pages + (if is_touched (touch_pages s p (k + j)) (p + (k + j)) then 0 else 1) = length-touch (touch_pages s p (k + j)) (p + (k + j)) in
    rw e (omega arith)

-- while fewer than n pages were touched there is room, where all n fit
pub room_left : (s : State) (p k n : ℕ) → k < n → length (touch_pages s p n).pages ≤ s.limit → is_over (touch_pages s p k) (p + k) ≡ false
room_left s p k n l h =
    let t = touch_pages s p k in
    let e : k + 1 + (n - (k + 1)) ≡ n = omega arith in
    let grow : length (touch_pages s p (k + 1)).pages ≤ length (touch_pages s p n).pages = rw e at (touch_pages_grows s p (k + 1) (n - (k + 1))) in
    let more : length (touch_pages s p (k + 1)).pages ≡ length t.pages + (if is_touched t (p + k) then 0 else 1) = ap (λ (x : State). length x.pages) (touch_pages-more s p k) ∙ length-touch t (p + k) in
    let lim : t.limit ≡ s.limit = limit-touch_pages s p k in
    elim (cases_Bool (is_touched t (p + k))) [
      | inl b ↦ rw b refl
      | inr b ↦ let m : length (touch_pages s p (k + 1)).pages ≡ length t.pages + 1 = rw b at more in rw b (grind arith)
    ]

-- the pages that were there stand first
pub take-touch_pages : (s : State) (p k : ℕ) → (length s.pages ≤ length (touch_pages s p k).pages) × (take (length s.pages) (touch_pages s p k).pages ≡ s.pages)
take-touch_pages s p zero = (omega arith, grind (arith, common_steps))
take-touch_pages s p (suc k) =
    let old = take-touch_pages s p k in
    let q : Page = record { number = p + k; bytes = zeros } in
    elim (touch_cases (touch_pages s p k) (p + k)) [
      | inl t ↦ rw t old
      | inr t ↦ rw t (grind (arith, common_steps), grind (arith, common_steps))
    ]

span-suc : (a n : ℕ) → span a (suc n) ≡ (a + n) / 4096 - a / 4096 + 1
span-suc a n = grind arith

-- every byte of a range lies in a page that is touched with the range
pub touched_range : (s : State) (a n : ℕ) → AllTouched (touch_range s a n) a n
touched_range s a zero i h = absurd (omega arith)
touched_range s a (suc n) i h =
    let j = (a + i) / 4096 - a / 4096 in
    let e : a / 4096 + j ≡ (a + i) / 4096 = omega arith in
    rw e at (is_touched_within s (a / 4096) (span a (suc n)) j (rw (span-suc a n) (omega arith)))

-- the room that a range needs is there at each of its pages
pub room_in_range : (s : State) (a n k : ℕ) → fits s a n ≡ true → k < span a n → is_over (touch_pages s (a / 4096) k) (a / 4096 + k) ≡ false
room_in_range s a n k h l = room_left s (a / 4096) k (span a n) l (grind arith)

-- without the pages that were added the memory is as it was
pub undone : (s t : State) (p k n : ℕ) → t ≡ touch_pages s p k → n ≡ length s.pages → record { limit = t.limit; pages = take n t.pages } ≡ s
undone s t p k n e l =
    let kept : take (length s.pages) (touch_pages s p k).pages ≡ s.pages = (take-touch_pages s p k).1 in
    let lim : (touch_pages s p k).limit ≡ s.limit = limit-touch_pages s p k in
    rw (e, l) (ap (λ (m : ℕ). record { limit = m; pages = take (length s.pages) (touch_pages s p k).pages }) lim ∙ ap (λ (ps : List Page). record { limit = s.limit; pages = ps }) kept)
