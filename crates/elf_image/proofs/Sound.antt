use Rattle.std.proofs.Common.{◌≡◌, ℕ, zero, suc, ◌%◌, ◌<◌, ◌≤◌, false, nat_lt, List, [], ◌∷◌, ◌++◌, length, get_or, Option, Some, None, refl, arith, inl, inr}
use Rattle.std.specs.List.{list_any}
use Rattle.std.specs.Option.{option_or}
use Rattle.std.proofs.lemmas.Grind.{common_steps, elements}
use Rattle.std.proofs.lemmas.Bool.{cases_eq, cases_Bool}
use Rattle.elf_image.specs.declared.fault.ElfFault.{ElfFault}
use Rattle.elf_image.specs.declared.segment.Segment.{Segment}
use Rattle.elf_image.specs.Segments.{is_load, entry, meets, with_load, segments, load_fault, load_count, entry_fault, first_fault}
use Rattle.elf_image.specs.Image.{no_segment, IsPlaced, IsSound}

-- a fault that was found is the first of all entries
pub fault_found : (file : List ℕ) (k n : ℕ) (f : ElfFault) → k < n → first_fault file k ≡ None → entry_fault file k ≡ Some f → first_fault file n ≡ Some f
fault_found file k zero f h none some = absurd (omega arith)
fault_found file k (suc n) f h none some = elim (cases_eq k n) [
  | inl t ↦ grind arith
  | inr t ↦ let rest : first_fault file n ≡ Some f = fault_found file k n f (omega arith) none some in grind arith
]

-- where the first of two is none, both are
pub none_before : (a b : Option ElfFault) → option_or a b ≡ None → a ≡ None
none_before None b h = refl
none_before (Some f) b h = h

pub none_behind : (a b : Option ElfFault) → option_or a b ≡ None → b ≡ None
none_behind None b h = h
none_behind (Some f) b h = absurd (cc)

-- ---- the segments of a table

pub record AreSound (file : List ℕ) (xs : List Segment) : Type 0 where
  pub placed : (i : ℕ) → i < length xs → IsPlaced file (get_or xs i no_segment)
  pub apart : (i j : ℕ) → i < j → j < length xs → meets (get_or xs j no_segment) (get_or xs i no_segment) ≡ false

pub load_placed : (file : List ℕ) (earlier : List Segment) (index : ℕ) (s : Segment) → load_fault (length file) earlier index s ≡ None → IsPlaced file s
load_placed file earlier index s h = record { in_file = grind arith; sized = grind arith; in_memory = grind arith }

pub load_apart : (n : ℕ) (earlier : List Segment) (index : ℕ) (s : Segment) → load_fault n earlier index s ≡ None → list_any (meets s) earlier ≡ false
load_apart n earlier index s h = grind arith

pub none_at : (s : Segment) (xs : List Segment) (i : ℕ) → list_any (meets s) xs ≡ false → i < length xs → meets s (get_or xs i no_segment) ≡ false
none_at s [] i h l = absurd (omega arith)
none_at s (x ∷ xs) zero h l = grind arith
none_at s (x ∷ xs) (suc i) h l = let rest : list_any (meets s) xs ≡ false = grind arith in none_at s xs i rest (omega arith)

pub sound_push : (file : List ℕ) (xs : List Segment) (s : Segment) → AreSound file xs → IsPlaced file s → list_any (meets s) xs ≡ false → AreSound file (xs ++ s ∷ [])
sound_push file xs s w p a = record {
  placed = λ i l. elim (cases_eq i (length xs)) [
    | inl t ↦ let e : get_or (xs ++ s ∷ []) i no_segment ≡ s = grind (arith, elements) in rw e p
    | inr t ↦
        let m : i < length xs = grind (arith, common_steps) in
        let e : get_or (xs ++ s ∷ []) i no_segment ≡ get_or xs i no_segment = grind (arith, elements) in
        rw e (w.placed i m)
  ];
  apart = λ i j h l.
      let m : i < length xs = grind (arith, common_steps) in
      let ei : get_or (xs ++ s ∷ []) i no_segment ≡ get_or xs i no_segment = grind (arith, elements) in
      elim (cases_eq j (length xs)) [
        | inl t ↦
            let ej : get_or (xs ++ s ∷ []) j no_segment ≡ s = grind (arith, elements) in
            rw ei (rw ej (none_at s xs i a m))
        | inr t ↦
            let n : j < length xs = grind (arith, common_steps) in
            let ej : get_or (xs ++ s ∷ []) j no_segment ≡ get_or xs j no_segment = grind (arith, elements) in
            rw ei (rw ej (w.apart i j h n))
      ];
}

pub sound_load : (file : List ℕ) (xs : List Segment) (index : ℕ) (s : Segment) → AreSound file xs → load_fault (length file) xs index s ≡ None → AreSound file (with_load xs s)
sound_load file xs index s w h = elim (cases_Bool (nat_lt 0 s.size)) [
  | inl t ↦ rw t (sound_push file xs s w (load_placed file xs index s h) (load_apart (length file) xs index s h))
  | inr t ↦ rw t w
]

pub table_sound : (file : List ℕ) (k : ℕ) → first_fault file k ≡ None → AreSound file (segments file k)
table_sound file zero h = record { placed = λ i l. absurd (omega arith); apart = λ i j g l. absurd (omega arith) }
table_sound file (suc k) h =
    let before : first_fault file k ≡ None = none_before (first_fault file k) (entry_fault file k) h in
    let here : entry_fault file k ≡ None = none_behind (first_fault file k) (entry_fault file k) h in
    let rest : AreSound file (segments file k) = table_sound file k before in
    elim (cases_Bool (is_load file k)) [
      | inl t ↦
          let e : load_fault (length file) (segments file k) (load_count file k) (entry file k) ≡ None = grind arith in
          rw t (sound_load file (segments file k) (load_count file k) (entry file k) rest e)
      | inr t ↦ rw t rest
    ]

pub segments_few : (file : List ℕ) (k : ℕ) → length (segments file k) ≤ k
segments_few file zero = omega arith
segments_few file (suc k) = let rest : length (segments file k) ≤ k = segments_few file k in grind (arith, common_steps)

-- ---- the whole file

pub image_sound : (file : List ℕ) (n start : ℕ) (xs : List Segment) → first_fault file n ≡ None → n ≤ 16 → xs ≡ segments file n → 0 < length xs → start % 4 ≡ 0 → IsSound file (record { entry = start; segments = xs })
image_sound file n start xs h small e some word =
    let w : AreSound file (segments file n) = table_sound file n h in
    let v : AreSound file xs = rw e w in
    let few : length (segments file n) ≤ n = segments_few file n in
    record { start = word; some = some; few = rw e (omega arith); placed = v.placed; apart = v.apart }
