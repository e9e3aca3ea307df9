use Rattle.std.proofs.Common.{◌≡◌, ℕ, zero, suc, ◌<◌, List, [], ◌∷◌, ◌++◌, length, get_or, set, replicate, refl, arith, inl, inr}
use Rattle.std.proofs.lemmas.Grind.{common_steps, elements}
use Rattle.std.proofs.lemmas.Bool.{cases_eq}
use Rattle.rv_memory.specs.Paged.{no_page}
use Rattle.rv_memory.specs.Indexed.{AreRecent, IsPlaced, no_recent}
use Rattle.rv_memory.specs.declared.page.Page.{Page}
use Rattle.rv_memory.specs.declared.recent.Recent.{Recent}

pub placed_at : (rs : List Recent) (ps : List Page) (k : ℕ) → AreRecent rs ps → k < length rs → IsPlaced (get_or rs k no_recent) ps
placed_at rs ps k w l = w.placed k l

placed_set : (r : Recent) (ps : List Page) (k : ℕ) (q : Page) → IsPlaced r ps → k < length ps → q.number ≡ (get_or ps k no_page).number → IsPlaced r (set ps k q)
placed_set r ps k q w h e =
    let l : r.place < length ps = w.0 in
    let n : (get_or ps r.place no_page).number ≡ r.number = w.1 in
    elim (cases_eq r.place k) [ inl t ↦ (grind (arith, common_steps), grind (arith, elements)) | inr t ↦ (grind (arith, common_steps), grind (arith, elements)) ]

pub recent_set : (rs : List Recent) (ps : List Page) (k : ℕ) (q : Page) → AreRecent rs ps → k < length ps → q.number ≡ (get_or ps k no_page).number → AreRecent rs (set ps k q)
recent_set rs ps k q w h e = record { placed = λ j l. placed_set (get_or rs j no_recent) ps k q (w.placed j l) h e }

placed_push : (r : Recent) (ps : List Page) (q : Page) → IsPlaced r ps → IsPlaced r (ps ++ q ∷ [])
placed_push r ps q w =
    let l : r.place < length ps = w.0 in
    let n : (get_or ps r.place no_page).number ≡ r.number = w.1 in
    (grind (arith, common_steps), grind (arith, elements))

-- a page that is added changes no place
pub recent_push : (rs : List Recent) (ps : List Page) (q : Page) → AreRecent rs ps → AreRecent rs (ps ++ q ∷ [])
recent_push rs ps q w = record { placed = λ j l. placed_push (get_or rs j no_recent) ps q (w.placed j l) }

pub recent_none : (ps : List Page) → AreRecent [] ps
recent_none ps = record { placed = λ j l. absurd (omega arith) }

fill_is : (n k : ℕ) (r d : Recent) → k < n → get_or (replicate n r) k d ≡ r
fill_is zero k r d l = absurd (omega arith)
fill_is (suc n) zero r d l = refl
fill_is (suc n) (suc k) r d l = fill_is n k r d (omega arith)

length_fill : (n : ℕ) (r : Recent) → length (replicate n r) ≡ n
length_fill zero r = refl
length_fill (suc n) r = let rest : length (replicate n r) ≡ n = length_fill n r in omega arith

pub recent_fill : (n : ℕ) (r : Recent) (ps : List Page) → IsPlaced r ps → AreRecent (replicate n r) ps
recent_fill n r ps w = record { placed = λ j l. let h : j < n = omega (arith, length_fill n r) in rw (fill_is n j r no_recent h) w }

pub recent_put : (rs : List Recent) (ps : List Page) (k : ℕ) (r : Recent) → AreRecent rs ps → IsPlaced r ps → AreRecent (set rs k r) ps
recent_put rs ps k r w p =
    record {
      placed = λ j l.
          let h : j < length rs = grind (arith, common_steps) in
          elim (cases_eq j k) [
            | inl t ↦ let s : get_or (set rs k r) j no_recent ≡ r = grind (arith, elements) in rw s p
            | inr t ↦ let s : get_or (set rs k r) j no_recent ≡ get_or rs j no_recent = grind (arith, elements) in rw s (w.placed j h)
          ];
    }
