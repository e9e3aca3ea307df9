use Rattle.std.proofs.Common.{◌≡◌, ℕ, zero, suc, ◌+◌, ◌*◌, ◌/◌, ◌%◌, ◌<◌, ◌⊎◌, true, false, List, [], ◌∷◌, ◌++◌, get_or, replicate, refl, ◌∙◌, ap, arith, inl, inr, if◌then◌else◌}
use Rattle.std.proofs.lemmas.Bool.{cases_eq}
use Rattle.rv_memory.specs.Paged.{State, no_page, place, zeros, touch, byte_at, half_at, word_at, is_touched}
use Rattle.rv_memory.specs.declared.page.Page.{Page}

get_or-fill : (n k : ℕ) → get_or {A = ℕ} (replicate n 0) k 0 ≡ 0
get_or-fill zero k = refl
get_or-fill (suc n) zero = refl
get_or-fill (suc n) (suc k) = get_or-fill n k

get_or-zeros : (k : ℕ) → get_or zeros k 0 ≡ 0
unfolding zeros
get_or-zeros k = get_or-fill 4096 k

-- the byte at offset o of page m, in a list of pages
abbrev in_pages : List Page → ℕ → ℕ → ℕ
in_pages ps m o = get_or (get_or ps (place ps m) no_page).bytes o 0

in_pages-push : (ps : List Page) (p m o : ℕ) → in_pages (ps ++ record { number = p; bytes = zeros } ∷ []) m o ≡ in_pages ps m o
in_pages-push [] p m o = elim (cases_eq p m) [ inl t ↦ grind (arith, get_or-zeros o) | inr t ↦ grind arith ]
in_pages-push (q ∷ qs) p m o = let rest : in_pages (qs ++ record { number = p; bytes = zeros } ∷ []) m o ≡ in_pages qs m o = in_pages-push qs p m o in elim (cases_eq q.number m) [ inl t ↦ grind arith | inr t ↦ grind arith ]

pub touch_cases : (s : State) (p : ℕ) → (touch s p ≡ s) ⊎ (touch s p ≡ record { limit = s.limit; pages = s.pages ++ record { number = p; bytes = zeros } ∷ [] })
touch_cases s p = elim (is_touched s p) as (λ b. ((if b then s else record { limit = s.limit; pages = s.pages ++ record { number = p; bytes = zeros } ∷ [] }) ≡ s) ⊎ ((if b then s else record { limit = s.limit; pages = s.pages ++ record { number = p; bytes = zeros } ∷ [] }) ≡ record { limit = s.limit; pages = s.pages ++ record { number = p; bytes = zeros } ∷ [] })) [ true ↦ inl refl | false ↦ inr refl ]

-- touching a page changes no byte
pub byte_at_touch : (s : State) (p a : ℕ) → byte_at (touch s p) a ≡ byte_at s a
byte_at_touch s p a = elim (touch_cases s p) [ inl t ↦ ap (λ (x : State). byte_at x a) t | inr t ↦ ap (λ (x : State). byte_at x a) t ∙ in_pages-push s.pages p (a / 4096) (a % 4096) ]

pub half_at_touch : (s : State) (p a : ℕ) → half_at (touch s p) a ≡ half_at s a
half_at_touch s p a = omega (arith, byte_at_touch s p a, byte_at_touch s p (a + 1))

pub word_at_touch : (s : State) (p a : ℕ) → word_at (touch s p) a ≡ word_at s a
word_at_touch s p a = omega (arith, byte_at_touch s p a, byte_at_touch s p (a + 1), byte_at_touch s p (a + 2), byte_at_touch s p (a + 3))

byte_near : (t : State) (a i n : ℕ) → a % n ≡ 0 → (n ≡ 2) ⊎ (n ≡ 4) → i < n → byte_at t (a + i) ≡ get_or (get_or t.pages (place t.pages (a / 4096)) no_page).bytes (a % 4096 + i) 0
byte_near t a i n h w l =
    let e : (a + i) / 4096 ≡ a / 4096 = elim w [ inl two ↦ omega (arith, rw two at h) | inr four ↦ omega (arith, rw four at h) ] in
    let f : (a + i) % 4096 ≡ a % 4096 + i = elim w [ inl two ↦ omega (arith, rw two at h) | inr four ↦ omega (arith, rw four at h) ] in
    rw (e, f) refl

-- a half-word and a word lie in one page
pub half_of_page : (t : State) (bs : List ℕ) (a : ℕ) → a % 2 ≡ 0 → bs ≡ (get_or t.pages (place t.pages (a / 4096)) no_page).bytes → get_or bs (a % 4096) 0 + 0x100 * get_or bs (a % 4096 + 1) 0 ≡ half_at t a
half_of_page t bs a h e = rw e (omega (arith, byte_near t a 1 2 h (inl refl) (omega arith)))

pub word_of_page : (t : State) (bs : List ℕ) (a : ℕ) → a % 4 ≡ 0 → bs ≡ (get_or t.pages (place t.pages (a / 4096)) no_page).bytes → get_or bs (a % 4096) 0 + 0x100 * get_or bs (a % 4096 + 1) 0 + 0x10000 * get_or bs (a % 4096 + 2) 0 + 0x1000000 * get_or bs (a % 4096 + 3) 0 ≡ word_at t a
word_of_page t bs a h e = rw e (omega (arith, byte_near t a 1 4 h (inr refl) (omega arith), byte_near t a 2 4 h (inr refl) (omega arith), byte_near t a 3 4 h (inr refl) (omega arith)))

pub byte_of_page : (t : State) (bs : List ℕ) (a : ℕ) → bs ≡ (get_or t.pages (place t.pages (a / 4096)) no_page).bytes → get_or bs (a % 4096) 0 ≡ byte_at t a
byte_of_page t bs a e = rw e refl
