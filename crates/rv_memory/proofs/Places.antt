use Rattle.std.proofs.Common.{◌≡◌, ◌≢◌, ℕ, zero, suc, ◌<◌, List, [], ◌∷◌, ◌++◌, length, get_or, set, take, Some, refl, arith, inl, inr}
use Rattle.std.proofs.lemmas.Grind.{common_steps, elements}
use Rattle.std.proofs.lemmas.Bool.{cases_eq}
use Rattle.std.proofs.lemmas.List.{length-replicate}
use Rattle.rv_memory.specs.Paged.{no_page, place, zeros, IsWhole}
use Rattle.rv_memory.specs.Indexed.{IsIndexed}
use Rattle.rv_memory.specs.PageIndex.{entry}
use Rattle.rv_memory.specs.declared.index.PageIndex.{PageIndex}
use Rattle.rv_memory.specs.declared.page.Page.{Page}

-- the only page of a number is the first
place_at : (ps : List Page) (p j : ℕ) → j < length ps → (get_or ps j no_page).number ≡ p → ((k : ℕ) → k < length ps → (get_or ps k no_page).number ≡ p → k ≡ j) → place ps p ≡ j
place_at [] p j h e only = absurd (omega arith)
place_at (q ∷ qs) p zero h e only = grind arith
place_at (q ∷ qs) p (suc j) h e only =
    let other : q.number ≢ p = λ same. absurd (let z : 0 ≡ suc j = only 0 (omega arith) same in omega arith) in
    let rest : place qs p ≡ j = place_at qs p j (omega arith) e (λ k l f. let s : suc k ≡ suc j = only (suc k) (omega arith) f in omega arith) in
    grind arith

place_none : (ps : List Page) (p : ℕ) → ((k : ℕ) → k < length ps → (get_or ps k no_page).number ≢ p) → place ps p ≡ length ps
place_none [] p none = refl
place_none (q ∷ qs) p none =
    let other : q.number ≢ p = none 0 (omega arith) in
    let rest : place qs p ≡ length qs = place_none qs p (λ k l. none (suc k) (omega arith)) in
    grind arith

-- the index knows the place of the page of a number
listed_at : (ix : PageIndex) (ps : List Page) (p k : ℕ) → IsIndexed ix ps → k < length ps → (get_or ps k no_page).number ≡ p → entry ix p ≡ Some k
listed_at ix ps p k w l e = rw (← e) (w.listed k l)

-- a page that has the number stands at the number's place
pub place_numbered : (ix : PageIndex) (ps : List Page) (p k : ℕ) → IsIndexed ix ps → k < length ps → (get_or ps k no_page).number ≡ p → place ps p ≡ k
place_numbered ix ps p k w l e =
    place_at ps p k l e
    (λ j m f. let a : entry ix p ≡ Some j = listed_at ix ps p j w m f in let b : entry ix p ≡ Some k = listed_at ix ps p k w l e in cc)

-- where the page at the place that the index has for a number has another number, no page has it
pub place_unlisted : (ix : PageIndex) (ps : List Page) (p m : ℕ) → IsIndexed ix ps → ((k : ℕ) → entry ix p ≡ Some k → m ≡ k) → ((m < length ps) × ((get_or ps m no_page).number ≡ p) → ⊥) → place ps p ≡ length ps
place_unlisted ix ps p m w says not =
    place_none ps p (λ k l e. let s : m ≡ k = says k (listed_at ix ps p k w l e) in absurd (not (rw s (l, e))))

pub indexed_push : (ix iy : PageIndex) (ps : List Page) (q : Page) → IsIndexed ix ps → entry iy q.number ≡ Some (length ps) → ((m k : ℕ) → m ≢ q.number → entry ix m ≡ Some k → entry iy m ≡ Some k) → place ps q.number ≡ length ps → IsIndexed iy (ps ++ q ∷ [])
indexed_push ix iy ps q w here others fresh =
    record {
      listed = λ k h. elim (cases_eq k (length ps)) [
        | inl t ↦ grind (arith, elements)
        | inr t ↦
            let l : k < length ps = grind (arith, common_steps) in
            let old : entry ix (get_or ps k no_page).number ≡ Some k = w.listed k l in
            let other : (get_or ps k no_page).number ≢ q.number = λ same. absurd (let e : place ps q.number ≡ k = place_numbered ix ps q.number k w l same in omega arith) in
            grind (arith, elements, others (get_or ps k no_page).number k other old)
      ];
    }

pub indexed_kept : (ix iy : PageIndex) (ps : List Page) → IsIndexed ix ps → ((m k : ℕ) → entry ix m ≡ Some k → entry iy m ≡ Some k) → IsIndexed iy ps
indexed_kept ix iy ps w same = record { listed = λ k l. same (get_or ps k no_page).number k (w.listed k l) }

pub indexed_set : (ix : PageIndex) (ps : List Page) (k : ℕ) (q : Page) → IsIndexed ix ps → k < length ps → q.number ≡ (get_or ps k no_page).number → IsIndexed ix (set ps k q)
indexed_set ix ps k q w h e =
    record {
      listed = λ j l.
          let old : entry ix (get_or ps j no_page).number ≡ Some j = w.listed j (grind (arith, common_steps)) in
          elim (cases_eq j k) [ inl t ↦ grind (arith, elements) | inr t ↦ grind (arith, elements) ];
    }

pub indexed_take : (ix : PageIndex) (ps : List Page) (n : ℕ) → IsIndexed ix ps → IsIndexed ix (take n ps)
indexed_take ix ps n w =
    record {
      listed = λ j l. let old : entry ix (get_or ps j no_page).number ≡ Some j = w.listed j (grind (arith, common_steps)) in grind (arith, elements);
    }

-- ---- every page has all its bytes

pub length-zeros : length zeros ≡ 4096
unfolding zeros
length-zeros = length-replicate {A = ℕ} 4096 0

pub whole_push : (ps : List Page) (p : ℕ) → IsWhole ps → IsWhole (ps ++ record { number = p; bytes = zeros } ∷ [])
whole_push ps p w = record {
  whole = λ k h. elim (cases_eq k (length ps)) [
    | inl t ↦ grind (arith, elements, length-zeros)
    | inr t ↦ let old : length (get_or ps k no_page).bytes ≡ 4096 = w.whole k (grind (arith, common_steps)) in grind (arith, elements)
  ];
}

pub whole_set : (ps : List Page) (k : ℕ) (q : Page) → IsWhole ps → k < length ps → length q.bytes ≡ length (get_or ps k no_page).bytes → IsWhole (set ps k q)
whole_set ps k q w h e = record {
  whole = λ j l.
      let old : length (get_or ps j no_page).bytes ≡ 4096 = w.whole j (grind (arith, common_steps)) in
      elim (cases_eq j k) [ inl t ↦ grind (arith, elements) | inr t ↦ grind (arith, elements) ];
}

pub whole_take : (ps : List Page) (n : ℕ) → IsWhole ps → IsWhole (take n ps)
whole_take ps n w = record { whole = λ j l. let old : length (get_or ps j no_page).bytes ≡ 4096 = w.whole j (grind (arith, common_steps)) in grind (arith, elements) }
