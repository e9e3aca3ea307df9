use Rattle.std.proofs.Common.{◌≡◌, ◌≢◌, ℕ, zero, suc, ◌/◌, ◌%◌, ◌<◌, Bool, true, false, List, [], ◌∷◌, ◌++◌, length, get_or, set, Some, None, refl, arith, ap, ◌∙◌, inl, inr, if◌then◌else◌}
use Rattle.std.proofs.lemmas.Bool.{cases_eq}
use Rattle.std.proofs.lemmas.Grind.{common_steps, elements}
use Rattle.rv_memory.specs.PageIndex.{no_leaf, top, has_leaf, entry}
use Rattle.rv_memory.specs.declared.index.PageIndex.{PageIndex}
use Rattle.rv_memory.specs.declared.index.Leaf.{Leaf}

-- an entry lies in the leaf of its region
entry_leaf : (i : PageIndex) (p k : ℕ) → entry i p ≡ Some k → (has_leaf i (p / 1024) ≡ true) × (get_or (get_or i.leaves.items (top i (p / 1024)) no_leaf).slots (p % 1024) 0 ≡ k)
entry_leaf i p k e = split (has_leaf i (p / 1024)) (get_or (get_or i.leaves.items (top i (p / 1024)) no_leaf).slots (p % 1024) 0) k e where
  split : (b : Bool) (v k : ℕ) → (if b then Some v else None) ≡ Some k → (b ≡ true) × (v ≡ k)
  split true v k e = (refl, cc)
  split false v k e = absurd (cc)

has_leaf_means : (i : PageIndex) (r : ℕ) → has_leaf i r ≡ true → (top i r < length i.leaves.items) × ((get_or i.leaves.items (top i r) no_leaf).region ≡ r)
has_leaf_means i r h = grind arith

has_leaf_by : (i : PageIndex) (r : ℕ) → top i r < length i.leaves.items → (get_or i.leaves.items (top i r) no_leaf).region ≡ r → has_leaf i r ≡ true
has_leaf_by i r l e = grind arith

entry_by : (i : PageIndex) (p k : ℕ) → has_leaf i (p / 1024) ≡ true → get_or (get_or i.leaves.items (top i (p / 1024)) no_leaf).slots (p % 1024) 0 ≡ k → entry i p ≡ Some k
entry_by i p k h e = rw (h, e) refl

-- ---- a leaf is added

leaf_added : (i j : PageIndex) (r : ℕ) (leaf : Leaf) → top j r ≡ length i.leaves.items → j.leaves.items ≡ i.leaves.items ++ leaf ∷ [] → leaf.region ≡ r → has_leaf j r ≡ true
leaf_added i j r leaf t e f = has_leaf_by j r (rw (t, e) (grind (arith, common_steps))) (rw (t, e) (grind (arith, elements)))

pub leaf_kept : (i j : PageIndex) (r : ℕ) (leaf : Leaf) → has_leaf i r ≡ false → ((q : ℕ) → q ≢ r → top j q ≡ top i q) → j.leaves.items ≡ i.leaves.items ++ leaf ∷ [] → (p k : ℕ) → entry i p ≡ Some k → entry j p ≡ Some k
leaf_kept i j r leaf absent tops e p k h =
    let old = entry_leaf i p k h in
    let there = has_leaf_means i (p / 1024) old.0 in
    let other : p / 1024 ≢ r = λ same. absurd (let z : has_leaf i r ≡ true = rw same at old.0 in cc) in
    let t : top j (p / 1024) ≡ top i (p / 1024) = tops (p / 1024) other in
    let l : get_or j.leaves.items (top j (p / 1024)) no_leaf ≡ get_or i.leaves.items (top i (p / 1024)) no_leaf = rw (t, e) (grind (arith, elements)) in
    entry_by j p k
    (has_leaf_by j (p / 1024) (rw (t, e) (grind (arith, common_steps))) (ap (λ (x : Leaf). x.region) l ∙ there.1))
    (ap (λ (x : Leaf). get_or x.slots (p % 1024) 0) l ∙ old.1)

-- ---- a place is written

has_leaf_kept : (i j : PageIndex) (l : ℕ) (slots : List ℕ) → l < length i.leaves.items → ((q : ℕ) → top j q ≡ top i q) → j.leaves.items ≡ set i.leaves.items l (record { region = (get_or i.leaves.items l no_leaf).region; slots = slots }) → (q : ℕ) → has_leaf i q ≡ true → has_leaf j q ≡ true
has_leaf_kept i j l slots small tops e q h =
    let there = has_leaf_means i q h in
    has_leaf_by j q (rw (tops q, e) (grind (arith, common_steps))) (rw (tops q, e) (elim (cases_eq (top i q) l) [ inl t ↦ grind (arith, elements) | inr t ↦ grind (arith, elements) ]))

pub put_here : (i j : PageIndex) (p v : ℕ) → has_leaf i (p / 1024) ≡ true → length (get_or i.leaves.items (top i (p / 1024)) no_leaf).slots ≡ 1024 → ((q : ℕ) → top j q ≡ top i q) →
    j.leaves.items ≡ set i.leaves.items (top i (p / 1024)) (record { region = (get_or i.leaves.items (top i (p / 1024)) no_leaf).region; slots = set (get_or i.leaves.items (top i (p / 1024)) no_leaf).slots (p % 1024) v }) → entry j p ≡ Some v
put_here i j p v h whole tops e =
    let there = has_leaf_means i (p / 1024) h in
    let s = (get_or i.leaves.items (top i (p / 1024)) no_leaf).slots in
    entry_by j p v (has_leaf_kept i j (top i (p / 1024)) (set s (p % 1024) v) there.0 tops e (p / 1024) h)
    (rw (tops (p / 1024), e) (grind (arith, elements)))

pub put_others : (i j : PageIndex) (p v : ℕ) → has_leaf i (p / 1024) ≡ true → ((q : ℕ) → top j q ≡ top i q) →
    j.leaves.items ≡ set i.leaves.items (top i (p / 1024)) (record { region = (get_or i.leaves.items (top i (p / 1024)) no_leaf).region; slots = set (get_or i.leaves.items (top i (p / 1024)) no_leaf).slots (p % 1024) v }) →
    (q k : ℕ) → q ≢ p → entry i q ≡ Some k → entry j q ≡ Some k
put_others i j p v h tops e q k other g =
    let mine = has_leaf_means i (p / 1024) h in
    let old = entry_leaf i q k g in
    let there = has_leaf_means i (q / 1024) old.0 in
    let s = (get_or i.leaves.items (top i (p / 1024)) no_leaf).slots in
    entry_by j q k (has_leaf_kept i j (top i (p / 1024)) (set s (p % 1024) v) mine.0 tops e (q / 1024) old.0)
    (rw (tops (q / 1024), e) (elim (cases_eq (top i (q / 1024)) (top i (p / 1024))) [
      | inl same ↦
          let region : q / 1024 ≡ p / 1024 = grind arith in
          let apart : q % 1024 ≢ p % 1024 = omega arith in
          grind (arith, elements)
      | inr another ↦ grind (arith, elements)
    ]))

-- a 0 at the end is read as before
pub zero_pushed : (xs : List ℕ) (k : ℕ) → get_or (xs ++ 0 ∷ []) k 0 ≡ get_or xs k 0
zero_pushed [] zero = refl
zero_pushed [] (suc k) = refl
zero_pushed (x ∷ xs) zero = refl
zero_pushed (x ∷ xs) (suc k) = zero_pushed xs k
