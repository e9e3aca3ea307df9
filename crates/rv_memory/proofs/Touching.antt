use Rattle.std.proofs.Common.{◌≡◌, ◌≢◌, ℕ, ◌+◌, ◌<◌, ◌≤◌, true, nat_lt, List, [], ◌∷◌, ◌++◌, length, refl, arith, inl, inr, ap, ◌∙◌, if◌then◌else◌}
use Rattle.std.proofs.lemmas.Grind.{common_steps}
use Rattle.std.proofs.lemmas.Bool.{cases_eq, cases_Bool}
use Rattle.std.proofs.lemmas.List.Folds.{position_or_len_push}
use Rattle.rv_memory.specs.Paged.{State, place, zeros, touch, is_touched}
use Rattle.rv_memory.specs.declared.page.Page.{Page}
use Rattle.rv_memory.proofs.Bytes.{touch_cases}

pub place_le : (ps : List Page) (p : ℕ) → place ps p ≤ length ps
place_le [] p = omega arith
place_le (q ∷ qs) p = let rest : place qs p ≤ length qs = place_le qs p in elim (cases_eq q.number p) [ inl t ↦ grind arith | inr t ↦ grind arith ]

pub is_touched_by : (ps : List Page) (p : ℕ) → nat_lt (place ps p) (length ps) ≡ true → place ps p < length ps
is_touched_by ps p h = grind arith

pub touched_by : (s : State) (p : ℕ) → place s.pages p < length s.pages → is_touched s p ≡ true
touched_by s p h = grind arith

pub place_kept : (ps : List Page) (q : Page) (m : ℕ) → place ps m < length ps → place (ps ++ q ∷ []) m ≡ place ps m
place_kept [] q m h = absurd (omega arith)
place_kept (r ∷ ps) q m h = elim (cases_eq r.number m) [
  | inl t ↦ grind arith
  | inr t ↦ let l : place ps m < length ps = grind arith in let rest : place (ps ++ q ∷ []) m ≡ place ps m = place_kept ps q m l in grind arith
]

-- the page is there after it is touched
pub touched_touch : (s : State) (p : ℕ) → place (touch s p).pages p < length (touch s p).pages
touched_touch s p =
    let b : place s.pages p ≤ length s.pages = place_le s.pages p in
    elim (cases_eq (place s.pages p) (length s.pages)) [
      | inl t ↦ let f : place (s.pages ++ record { number = p; bytes = zeros } ∷ []) p ≡ length s.pages = grind (arith, position_or_len_push) in grind (arith, common_steps)
      | inr t ↦ grind (arith, common_steps)
    ]

pub is_touched-touch : (s : State) (p : ℕ) → is_touched (touch s p) p ≡ true
is_touched-touch s p = touched_by (touch s p) p (touched_touch s p)

-- a page that was touched stays touched
pub is_touched_touch : (s : State) (p m : ℕ) → is_touched s m ≡ true → is_touched (touch s p) m ≡ true
is_touched_touch s p m h =
    let l : place s.pages m < length s.pages = is_touched_by s.pages m h in
    elim (touch_cases s p) [
      | inl t ↦ rw t h
      | inr t ↦ let k : place (s.pages ++ record { number = p; bytes = zeros } ∷ []) m ≡ place s.pages m = place_kept s.pages (record { number = p; bytes = zeros }) m l in rw t (grind (arith, common_steps))
    ]

-- touching a page touches no other
pub is_touched_other : (s : State) (p m : ℕ) → m ≢ p → is_touched (touch s p) m ≡ is_touched s m
is_touched_other s p m other =
    let q : Page = record { number = p; bytes = zeros } in
    let b : place s.pages m ≤ length s.pages = place_le s.pages m in
    elim (touch_cases s p) [
      | inl t ↦ ap (λ (x : State). is_touched x m) t
      | inr t ↦ ap (λ (x : State). is_touched x m) t ∙ elim (cases_eq (place s.pages m) (length s.pages)) [
        | inl none ↦ let f : place (s.pages ++ q ∷ []) m ≡ length s.pages + 1 = grind (arith, position_or_len_push) in grind (arith, common_steps)
        | inr some ↦ let k : place (s.pages ++ q ∷ []) m ≡ place s.pages m = place_kept s.pages q m (omega arith) in grind (arith, common_steps)
      ]
    ]

-- a page that was touched is touched in vain
pub touch_again : (s : State) (p : ℕ) → is_touched s p ≡ true → touch s p ≡ s
touch_again s p h = rw h refl

-- a new page is one more
pub length-touch : (s : State) (p : ℕ) → length (touch s p).pages ≡ length s.pages + (if is_touched s p then 0 else 1)
length-touch s p = elim (cases_Bool (is_touched s p)) [
  | inl t ↦ rw (t) (omega arith)
  | inr t ↦ rw (t) (grind (arith, common_steps))
]
