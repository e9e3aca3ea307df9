use Rattle.std.proofs.Common.{◌≡◌, ℕ, zero, suc, ◌+◌, ◌/◌, ◌%◌, ◌<◌, ◌≤◌, true, nat_eq, List, [], ◌∷◌, ◌++◌, length, get_or, set, refl, arith, ap, ◌∙◌, sym, append_assoc, take, drop, ◌-◌}
use Rattle.std.proofs.lemmas.Grind.{common_steps}
use Rattle.std.proofs.lemmas.List.{get_or-set_same, set-set}
use Rattle.std.proofs.lemmas.List.Folds.{position_or_len-set}
use Rattle.std.proofs.Math.Seq.{take-add}
use Rattle.rv_memory.specs.Paged.{State, no_page, place, touch, is_touched, byte_at, bytes_at, write, put, store_bytes, half_bytes, word_bytes, store16, store32}
use Rattle.rv_memory.specs.PageBytes.{set_bytes}
use Rattle.rv_memory.specs.declared.page.Page.{Page}
use Rattle.rv_memory.proofs.Touching.{touched_touch, touched_by, touch_again, is_touched_touch}

pub place_after_write : (ps : List Page) (p m : ℕ) (bs : List ℕ) → place (set ps (place ps p) (record { number = (get_or ps (place ps p) no_page).number; bytes = bs })) m ≡ place ps m
place_after_write ps p m bs = position_or_len-set (λ q. nat_eq q.number m) ps (place ps p) (record { number = (get_or ps (place ps p) no_page).number; bytes = bs }) no_page refl

-- writing touches no page
pub is_touched_write : (t : State) (p m : ℕ) (f : List ℕ → List ℕ) → is_touched (write t p f) m ≡ is_touched t m
is_touched_write t p m f =
    let e : place (write t p f).pages m ≡ place t.pages m = place_after_write t.pages p m (f (get_or t.pages (place t.pages p) no_page).bytes) in
    grind (arith, common_steps)

-- what a put touches
pub is_touched_put : (s : State) (a b m : ℕ) → is_touched (put s a b) m ≡ is_touched (touch s (a / 4096)) m
is_touched_put s a b m = is_touched_write (touch s (a / 4096)) (a / 4096) m (λ bs. set bs (a % 4096) b)

-- two writes to a page are one
pub write-write : (t : State) (p : ℕ) (f g : List ℕ → List ℕ) → place t.pages p < length t.pages → write (write t p f) p g ≡ write t p (λ bs. g (f bs))
write-write t p f g l =
    let k = place t.pages p in
    let q = get_or t.pages k no_page in
    let r : Page = record { number = q.number; bytes = f q.bytes } in
    let e : place (set t.pages k r) p ≡ k = place_after_write t.pages p p (f q.bytes) in
    let same : get_or (set t.pages k r) k no_page ≡ r = get_or-set_same t.pages k r no_page l in
    ap (λ (i : ℕ). let v = get_or (set t.pages k r) i no_page in record { limit = t.limit; pages = set (set t.pages k r) i (record { number = v.number; bytes = g v.bytes }) }) e
    ∙ ap (λ (v : Page). record { limit = t.limit; pages = set (set t.pages k r) k (record { number = v.number; bytes = g v.bytes }) }) same
    ∙ ap (λ (ps : List Page). record { limit = t.limit; pages = ps }) (set-set t.pages k r (record { number = q.number; bytes = g (f q.bytes) }))

-- a put to a page that was written to
pub put_near : (t : State) (p a b : ℕ) (f : List ℕ → List ℕ) → place t.pages p < length t.pages → a / 4096 ≡ p → put (write t p f) a b ≡ write t p (λ bs. set (f bs) (a % 4096) b)
put_near t p a b f l e =
    let touched : is_touched (write t p f) p ≡ true = is_touched_write t p p f ∙ touched_by t p l in
    rw (e, touch_again (write t p f) p touched) (write-write t p f (λ bs. set bs (a % 4096) b) l)

-- ---- bytes one after the other

pub store_bytes-append : (s : State) (a : ℕ) (bs cs : List ℕ) → store_bytes s a (bs ++ cs) ≡ store_bytes (store_bytes s a bs) (a + length bs) cs
store_bytes-append s a [] cs = ap (λ (i : ℕ). store_bytes s i cs) (omega arith)
store_bytes-append s a (b ∷ bs) cs = store_bytes-append (put s a b) (a + 1) bs cs ∙ ap (λ (i : ℕ). store_bytes (store_bytes (put s a b) (a + 1) bs) i cs) (omega arith)

pub set_bytes-append : (o : ℕ) (bs cs page : List ℕ) → set_bytes o (bs ++ cs) page ≡ set_bytes (o + length bs) cs (set_bytes o bs page)
set_bytes-append o [] cs page = ap (λ (i : ℕ). set_bytes i cs page) (omega arith)
set_bytes-append o (b ∷ bs) cs page = set_bytes-append (o + 1) bs cs (set page o b) ∙ ap (λ (i : ℕ). set_bytes i cs (set_bytes (o + 1) bs (set page o b))) (omega arith)

pub set_bytes_take : (o k : ℕ) (bs page : List ℕ) → k < length bs → set (set_bytes o (take k bs) page) (o + k) (get_or bs k 0) ≡ set_bytes o (take (k + 1) bs) page
set_bytes_take o k bs page l =
    let cut : take (k + 1) bs ≡ take k bs ++ get_or bs k 0 ∷ [] = grind (arith, common_steps) in
    let len : length (take k bs) ≡ k = grind (arith, common_steps) in
    sym (ap (λ (xs : List ℕ). set_bytes o xs page) cut ∙ set_bytes-append o (take k bs) (get_or bs k 0 ∷ []) page ∙ ap (λ (n : ℕ). set (set_bytes o (take k bs) page) (o + n) (get_or bs k 0)) len)

-- bytes that are put leave the touched pages touched
pub is_touched_store_bytes : (s : State) (a m : ℕ) (bs : List ℕ) → is_touched s m ≡ true → is_touched (store_bytes s a bs) m ≡ true
is_touched_store_bytes s a m [] h = h
is_touched_store_bytes s a m (b ∷ bs) h = is_touched_store_bytes (put s a b) (a + 1) m bs (is_touched_put s a b m ∙ is_touched_touch s (a / 4096) m h)

-- bytes that go to a page that was written to
pub store_bytes_near : (t : State) (p a : ℕ) (f : List ℕ → List ℕ) (bs : List ℕ) → place t.pages p < length t.pages → a / 4096 ≡ p → a % 4096 + length bs ≤ 4096 →
    store_bytes (write t p f) a bs ≡ write t p (λ page. set_bytes (a % 4096) bs (f page))
store_bytes_near t p a f [] l e h = refl
store_bytes_near t p a f (b ∷ []) l e h = put_near t p a b f l e
store_bytes_near t p a f (b ∷ c ∷ bs) l e h =
    let next : (a + 1) % 4096 ≡ a % 4096 + 1 = omega arith in
    let g : List ℕ → List ℕ = λ page. set (f page) (a % 4096) b in
    ap (λ (u : State). store_bytes u (a + 1) (c ∷ bs)) (put_near t p a b f l e)
    ∙ store_bytes_near t p (a + 1) g (c ∷ bs) l (omega arith) (omega arith)
    ∙ ap (λ (o : ℕ). write t p (λ page. set_bytes o (c ∷ bs) (g page))) next

-- bytes that lie in one page are written to it
pub store_bytes_in_page : (s : State) (a b : ℕ) (bs : List ℕ) → a % 4096 + length bs < 4096 →
    store_bytes s a (b ∷ bs) ≡ write (touch s (a / 4096)) (a / 4096) (set_bytes (a % 4096) (b ∷ bs))
store_bytes_in_page s a b [] h = refl
store_bytes_in_page s a b (c ∷ bs) h =
    let p = a / 4096 in
    let t = touch s p in
    let next : (a + 1) % 4096 ≡ a % 4096 + 1 = omega arith in
    let g : List ℕ → List ℕ = λ page. set page (a % 4096) b in
    store_bytes_near t p (a + 1) g (c ∷ bs) (touched_touch s p) (omega arith) (omega arith)
    ∙ ap (λ (o : ℕ). write t p (λ page. set_bytes o (c ∷ bs) (g page))) next

in_touched : (s : State) (a : ℕ) (bs : List ℕ) → is_touched s (a / 4096) ≡ true → 0 < length bs → a % 4096 + length bs ≤ 4096 → store_bytes s a bs ≡ write s (a / 4096) (set_bytes (a % 4096) bs)
in_touched s a [] t some h = absurd (omega arith)
in_touched s a (b ∷ bs) t some h = store_bytes_in_page s a b bs (omega arith) ∙ ap (λ (u : State). write u (a / 4096) (set_bytes (a % 4096) (b ∷ bs))) (touch_again s (a / 4096) t)

pub store_bytes_in_touched : (s : State) (a : ℕ) (bs : List ℕ) → is_touched s (a / 4096) ≡ true → 0 < length bs → a % 4096 + length bs ≤ 4096 → write s (a / 4096) (set_bytes (a % 4096) bs) ≡ store_bytes s a bs
store_bytes_in_touched s a bs t some h = sym (in_touched s a bs t some h)

pub store16_in_page : (s : State) (a v : ℕ) → a % 2 ≡ 0 → write (touch s (a / 4096)) (a / 4096) (set_bytes (a % 4096) (half_bytes v)) ≡ store16 s a v
store16_in_page s a v h = sym (store_bytes_in_page s a (v % 0x100) (v / 0x100 % 0x100 ∷ []) (omega arith))

pub store32_in_page : (s : State) (a v : ℕ) → a % 4 ≡ 0 → write (touch s (a / 4096)) (a / 4096) (set_bytes (a % 4096) (word_bytes v)) ≡ store32 s a v
store32_in_page s a v h = sym (store_bytes_in_page s a (v % 0x100) (v / 0x100 % 0x100 ∷ v / 0x10000 % 0x100 ∷ v / 0x1000000 % 0x100 ∷ []) (omega arith))

pub length_set_bytes : (o : ℕ) (bs page : List ℕ) → length (set_bytes o bs page) ≡ length page
length_set_bytes o [] page = refl
length_set_bytes o (b ∷ bs) page = length_set_bytes (o + 1) bs (set page o b) ∙ grind (arith, common_steps)

-- ---- bytes that are read one after the other

pub bytes_at-more : (s : State) (a k : ℕ) → bytes_at s a (k + 1) ≡ bytes_at s a k ++ byte_at s (a + k) ∷ []
bytes_at-more s a zero = ap (λ (i : ℕ). byte_at s i ∷ []) (omega arith)
bytes_at-more s a (suc k) =
    let e : suc k + 1 ≡ suc (k + 1) = omega arith in
    rw e (ap (λ (bs : List ℕ). byte_at s a ∷ bs) (bytes_at-more s (a + 1) k ∙ ap (λ (i : ℕ). bytes_at s (a + 1) k ++ byte_at s i ∷ []) (omega arith)))

pub bytes_at-pushed : (xs ys : List ℕ) (s : State) (a k b : ℕ) → ys ≡ xs ++ bytes_at s a k → b ≡ byte_at s (a + k) → ys ++ b ∷ [] ≡ xs ++ bytes_at s a (k + 1)
bytes_at-pushed xs ys s a k b e f = rw (e, f, bytes_at-more s a k) (append_assoc xs (bytes_at s a k) (byte_at s (a + k) ∷ []))

-- a further piece of the bytes
pub store_bytes-piece : (s : State) (a i j : ℕ) (bs : List ℕ) → i ≤ j → j ≤ length bs → store_bytes (store_bytes s a (take i bs)) (a + i) (take (j - i) (drop i bs)) ≡ store_bytes s a (take j bs)
store_bytes-piece s a i j bs h l =
    let sum : j ≡ i + (j - i) = omega arith in
    let cut : take j bs ≡ take i bs ++ take (j - i) (drop i bs) = ap (λ (n : ℕ). take n bs) sum ∙ take-add i (j - i) bs in
    let len : length (take i bs) ≡ i = grind (arith, common_steps) in
    sym (ap (λ (xs : List ℕ). store_bytes s a xs) cut ∙ store_bytes-append s a (take i bs) (take (j - i) (drop i bs)) ∙ ap (λ (n : ℕ). store_bytes (store_bytes s a (take i bs)) (a + n) (take (j - i) (drop i bs))) len)
