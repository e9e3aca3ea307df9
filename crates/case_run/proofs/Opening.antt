use Rattle.std.proofs.Common.{◌≡◌, ◌≢◌, ℕ, zero, suc, ◌+◌, ◌-◌, ◌*◌, ◌/◌, ◌%◌, ◌<◌, ◌≤◌, ◌⊎◌, true, false, List, [], ◌∷◌, length, get_or, slice_index, fold, Option, Some, None, Result, Ok, refl, arith, inl, inr, ap, sym, ◌∙◌}
use Rattle.std.specs.Prelude.{unwrap_or, set, Bool, not, ◌||◌, nat_lt, if◌then◌else◌}
use Rattle.elf_image.specs.declared.fault.ElfFault.TheVariants.{NotElf}
use Rattle.std.proofs.lemmas.Bool.{cases_Bool}
use Rattle.std.proofs.lemmas.Option.{none-some}
use Rattle.std.proofs.lemmas.Grind.{common_steps, elements}
use Rattle.farm_kinds.specs.declared.NoMemory.{NoMemory}
use Rattle.farm_kinds.specs.declared.Limits.{Limits}
use Rattle.elf_image.specs.declared.fault.ElfFault.{ElfFault}
use Rattle.elf_image.specs.declared.segment.Segment.{Segment}
use Rattle.elf_image.specs.Header.{has_magic, identification_fault, target_fault, table_fault, e_phnum}
use Rattle.elf_image.specs.Segments.{segments, first_fault, meets}
use Rattle.elf_image.specs.Image.{Image, image, elf_of, or_fault, fault_of, start_fault, no_segment, is_in, byte_of}
use Rattle.elf_image.proofs.Bytes.{has_no_other}
use Rattle.elf_image.proofs.Sound.{AreSound, table_sound, none_before, none_behind}
use Rattle.rv_memory.specs.Paged.{State, IsWhole, ChangesBytes, no_page, place, fits, byte_at, is_touched, touch, touch_pages, touch_range, span, put, store_bytes}
use Rattle.rv_memory.proofs.Bytes.{touch_cases}
use Rattle.rv_memory.proofs.Places.{whole_push, whole_set}
use Rattle.rv_memory.proofs.Touching.{touched_touch, is_touched_other}
use Rattle.rv_memory.proofs.Storing.{is_touched_put, is_touched_store_bytes}
use Rattle.rv_memory.proofs.Ranges.{touched_range}
use Rattle.rv_memory.proofs.Laws.{byte_at_touch_pages, changes_store_bytes, is_touched_touch_range}
use Rattle.rv_machine.specs.declared.ending.Ending.{Ending}
use Rattle.rv_machine.specs.declared.ending.Ending.TheVariants.{Memory}
use Rattle.rv_machine.specs.Inputs.{Inputs}
use Rattle.rv_machine.specs.Running.{loaded, Run, blank, placed_where}
use Rattle.rv_machine.specs.Stepping as stepping
use Rattle.case_run.specs.Images.{opened, elf_opened, bytes_of, with_segment, with_segments}
use Rattle.case_run.specs.Laws.{OpensExecutable, Fits, memory_of, with_memory, HasBytesOfFile, TouchesPagesOfBytes, TouchesNoOther, StartsAtEntry, EndsForMemory, CostsNothing}

-- ---- how a run comes through the segments

-- a memory in which the bytes of a segment were put
abbrev stored : List ℕ → State → Segment → State
stored file m s = store_bytes (touch_range m s.at (length (bytes_of file s))) s.at (bytes_of file s)

answer_cases : (o : Option (Result Ending NoMemory)) → (o ≡ None) ⊎ ((x : Result Ending NoMemory) × (o ≡ Some x))
answer_cases None = inl refl
answer_cases (Some x) = inr (x, refl)

stays : (file : List ℕ) (xs : List Segment) (r : Run) (x : Result Ending NoMemory) → r.answer ≡ Some x → fold (with_segment file) r xs ≡ r
stays file [] r x h = refl
stays file (s ∷ rest) r x h =
    let e : with_segment file r s ≡ r = rw h refl in
    ap (λ (q : Run). fold (with_segment file) q rest) e ∙ stays file rest r x h

place_cases : (file : List ℕ) (r : Run) (s : Segment) → r.answer ≡ None
    → (with_segment file r s ≡ record r { state = stepping.filled s.at (bytes_of file s) r.state }) ⊎ (with_segment file r s ≡ record r { answer = Some (Ok Memory) })
place_cases file r s h = elim (cases_Bool (fits r.state.hart.memory s.at (length (bytes_of file s)))) [
  | inl t ↦ inl (rw (h, t) refl)
  | inr t ↦ inr (rw (h, t) refl)
]

-- where a segment does not fit, the answer is there to the end
full : (file : List ℕ) (xs : List Segment) (r : Run) (s : Segment) → with_segment file r s ≡ record r { answer = Some (Ok Memory) }
    → (fold (with_segment file) (with_segment file r s) xs).answer ≡ Some (Ok Memory)
full file xs r s e =
    let q : Run = record r { answer = Some (Ok Memory) } in
    ap (λ (t : Run). (fold (with_segment file) t xs).answer) e ∙ ap (λ (t : Run). t.answer) (stays file xs q (Ok Memory) refl)

answered : (file : List ℕ) (xs : List Segment) (r : Run) (x : Result Ending NoMemory) → r.answer ≡ None → (fold (with_segment file) r xs).answer ≡ Some x → Some x ≡ Some (Ok Memory)
answered file [] r x none h = absurd (none-some x (sym none ∙ h))
answered file (s ∷ rest) r x none h = elim (place_cases file r s none) [
  | inl e ↦ answered file rest (with_segment file r s) x (ap (λ (q : Run). q.answer) e ∙ none) h
  | inr e ↦ sym h ∙ full file rest r s e
]

memory_of_fold : (file : List ℕ) (xs : List Segment) (r : Run) → Fits (fold (with_segment file) r xs) → memory_of (fold (with_segment file) r xs) ≡ fold (stored file) (memory_of r) xs
memory_of_fold file [] r h = refl
memory_of_fold file (s ∷ rest) r h = elim (answer_cases r.answer) [
  | inl none ↦ elim (place_cases file r s none) [
    | inl e ↦ memory_of_fold file rest (with_segment file r s) h ∙ ap (λ (q : Run). fold (stored file) (memory_of q) rest) e
    | inr e ↦ absurd (none-some (Ok Memory) (sym h ∙ full file rest r s e))
  ]
  | inr some ↦ absurd (none-some some.0 (sym h ∙ ap (λ (q : Run). q.answer) (stays file (s ∷ rest) r some.0 some.1) ∙ some.1))
]

placed_else : (answer : Option (Result Ending NoMemory)) (at : ℕ) (bytes : List ℕ) (r : Run) (m : State) → with_memory (placed_where answer at bytes r).state m ≡ with_memory r.state m
placed_else None at bytes r m = elim (cases_Bool (fits r.state.hart.memory at (length bytes))) [ inl t ↦ rw t refl | inr t ↦ rw t refl ]
placed_else (Some x) at bytes r m = refl

state_of_fold : (file : List ℕ) (xs : List Segment) (r : Run) → (fold (with_segment file) r xs).state ≡ with_memory r.state (memory_of (fold (with_segment file) r xs))
state_of_fold file [] r = refl
state_of_fold file (s ∷ rest) r = state_of_fold file rest (with_segment file r s) ∙ placed_else r.answer s.at (bytes_of file s) r (memory_of (fold (with_segment file) (with_segment file r s) rest))

pub starts_at_entry : StartsAtEntry
starts_at_entry file elf limits inputs ok = state_of_fold file elf.segments (blank elf.entry limits inputs)

too_large : (file : List ℕ) (elf : Image) (limits : Limits) (inputs : Inputs) (x : Result Ending NoMemory) → (with_segments file elf limits inputs).answer ≡ Some x → (with_segments file elf limits inputs).answer ≡ Some (Ok Memory)
too_large file elf limits inputs x h = h ∙ answered file elf.segments (blank elf.entry limits inputs) x refl h

pub ends_for_memory : EndsForMemory
ends_for_memory file elf limits inputs ok x h = rw (too_large file elf limits inputs x h) refl

pub costs_nothing : CostsNothing
costs_nothing file elf limits inputs ok x h = rw (too_large file elf limits inputs x h) (ap (λ (s : stepping.State). s.cost) (starts_at_entry file elf limits inputs ok))

-- ---- each page has all its bytes

whole_touch : (m : State) (p : ℕ) → IsWhole m.pages → IsWhole (touch m p).pages
whole_touch m p w = elim (touch_cases m p) [ inl t ↦ rw t w | inr t ↦ rw t (whole_push m.pages p w) ]

whole_pages : (m : State) (p k : ℕ) → IsWhole m.pages → IsWhole (touch_pages m p k).pages
whole_pages m p zero w = w
whole_pages m p (suc k) w = whole_touch (touch_pages m p k) (p + k) (whole_pages m p k w)

whole_put : (m : State) (a b : ℕ) → IsWhole m.pages → IsWhole (put m a b).pages
whole_put m a b w =
    let t = touch m (a / 4096) in
    let k = place t.pages (a / 4096) in
    let q = get_or t.pages k no_page in
    whole_set t.pages k (record { number = q.number; bytes = set q.bytes (a % 4096) b }) (whole_touch m (a / 4096) w) (touched_touch m (a / 4096)) (grind (arith, common_steps))

whole_store_bytes : (m : State) (a : ℕ) (bs : List ℕ) → IsWhole m.pages → IsWhole (store_bytes m a bs).pages
whole_store_bytes m a [] w = w
whole_store_bytes m a (b ∷ bs) w = whole_store_bytes (put m a b) (a + 1) bs (whole_put m a b w)

whole_stored : (file : List ℕ) (m : State) (s : Segment) → IsWhole m.pages → IsWhole (stored file m s).pages
whole_stored file m s w =
    let n = length (bytes_of file s) in
    whole_store_bytes (touch_range m s.at n) s.at (bytes_of file s) (whole_pages m (s.at / 4096) (span s.at n) w)

-- ---- which byte each address has

length-bytes_of : (file : List ℕ) (s : Segment) → s.offset + s.len ≤ length file → length (bytes_of file s) ≡ s.len
length-bytes_of file s h = grind (arith, common_steps)

byte_of_segment : (file : List ℕ) (s : Segment) (k : ℕ) → s.offset + s.len ≤ length file → k < s.len → get_or (bytes_of file s) k 0 ≡ slice_index file (s.offset + k)
byte_of_segment file s k h l = grind (arith, common_steps, elements)

changes : (file : List ℕ) (m : State) (s : Segment) → IsWhole m.pages → ChangesBytes (touch_range m s.at (length (bytes_of file s))) (stored file m s) s.at (bytes_of file s)
changes file m s w =
    let n = length (bytes_of file s) in
    changes_store_bytes (touch_range m s.at n) s.at (bytes_of file s) (whole_pages m (s.at / 4096) (span s.at n) w)

here : (file : List ℕ) (m : State) (s : Segment) (a : ℕ) → IsWhole m.pages → s.offset + s.len ≤ length file → is_in s a ≡ true → byte_at (stored file m s) a ≡ slice_index file (s.offset + (a - s.at))
here file m s a w h t =
    let n : length (bytes_of file s) ≡ s.len = length-bytes_of file s h in
    let k = a - s.at in
    let low : s.at ≤ a = grind arith in
    let l : k < s.len = grind arith in
    let e : s.at + k ≡ a = omega arith in
    let f : byte_at (stored file m s) (s.at + k) ≡ get_or (bytes_of file s) k 0 = (changes file m s w).there k (omega arith) in
    ap (λ (x : ℕ). byte_at (stored file m s) x) (sym e) ∙ f ∙ byte_of_segment file s k h l

out_of : (s : Segment) (a n : ℕ) → n ≡ s.len → is_in s a ≡ false → (a < s.at) ⊎ (s.at + n ≤ a)
out_of s a n e t = grind arith

elsewhere : (file : List ℕ) (m : State) (s : Segment) (a : ℕ) → IsWhole m.pages → s.offset + s.len ≤ length file → is_in s a ≡ false → byte_at (stored file m s) a ≡ byte_at m a
elsewhere file m s a w h t =
    let n = length (bytes_of file s) in
    (changes file m s w).elsewhere a (out_of s a n (length-bytes_of file s h) t) ∙ byte_at_touch_pages m (s.at / 4096) (span s.at n) a

rest_sound : (file : List ℕ) (s : Segment) (rest : List Segment) → AreSound file (s ∷ rest) → AreSound file rest
rest_sound file s rest w = record { placed = λ i l. w.placed (suc i) (omega arith); apart = λ i j f g. w.apart (suc i) (suc j) (omega arith) (omega arith) }

-- an address of a segment's bytes is none of another's
other : (s t : Segment) (a : ℕ) → s.len ≤ s.size → t.len ≤ t.size → meets t s ≡ false → is_in s a ≡ true → is_in t a ≡ false
other s t a small small' apart h = grind arith

none_else : (file : List ℕ) (s : Segment) (rest : List Segment) (a : ℕ) → AreSound file (s ∷ rest) → is_in s a ≡ true → byte_of file rest a ≡ None
none_else file s rest a w h =
    has_no_other file (record { entry = 0; segments = rest }) a
    (λ i l. other s (get_or rest i no_segment) a (w.placed 0 (omega arith)).sized (w.placed (suc i) (omega arith)).sized (w.apart 0 (suc i) (omega arith) (omega arith)) h)

bytes_stand : (file : List ℕ) (xs : List Segment) (m : State) (a : ℕ) → AreSound file xs → IsWhole m.pages → byte_at (fold (stored file) m xs) a ≡ unwrap_or (byte_of file xs a) (byte_at m a)
bytes_stand file [] m a w whole = refl
bytes_stand file (s ∷ rest) m a w whole =
    let n = stored file m s in
    let behind : byte_at (fold (stored file) n rest) a ≡ unwrap_or (byte_of file rest a) (byte_at n a) = bytes_stand file rest n a (rest_sound file s rest w) (whole_stored file m s whole) in
    let in_file : s.offset + s.len ≤ length file = (w.placed 0 (omega arith)).in_file in
    elim (cases_Bool (is_in s a)) [
      | inl t ↦
          let no : byte_of file rest a ≡ None = none_else file s rest a w t in
          rw t (behind ∙ ap (λ (o : Option ℕ). unwrap_or o (byte_at n a)) no ∙ here file m s a whole in_file t)
      | inr t ↦ rw t (behind ∙ ap (λ (b : ℕ). unwrap_or (byte_of file rest a) b) (elsewhere file m s a whole in_file t))
    ]

-- ---- which pages are touched

touched_stays : (file : List ℕ) (xs : List Segment) (m : State) (p : ℕ) → is_touched m p ≡ true → is_touched (fold (stored file) m xs) p ≡ true
touched_stays file [] m p h = h
touched_stays file (s ∷ rest) m p h =
    let n = length (bytes_of file s) in
    touched_stays file rest (stored file m s) p (is_touched_store_bytes (touch_range m s.at n) s.at p (bytes_of file s) (is_touched_touch_range m s.at n p h))

touched_here : (file : List ℕ) (m : State) (s : Segment) (a : ℕ) → s.offset + s.len ≤ length file → is_in s a ≡ true → is_touched (stored file m s) (a / 4096) ≡ true
touched_here file m s a h t =
    let n : length (bytes_of file s) ≡ s.len = length-bytes_of file s h in
    let k = a - s.at in
    let low : s.at ≤ a = grind arith in
    let l : k < s.len = grind arith in
    let e : s.at + k ≡ a = omega arith in
    let f : is_touched (touch_range m s.at (length (bytes_of file s))) ((s.at + k) / 4096) ≡ true = touched_range m s.at (length (bytes_of file s)) k (omega arith) in
    is_touched_store_bytes (touch_range m s.at (length (bytes_of file s))) s.at (a / 4096) (bytes_of file s) (ap (λ (x : ℕ). is_touched (touch_range m s.at (length (bytes_of file s))) (x / 4096)) (sym e) ∙ f)

touched_where : (file : List ℕ) (xs : List Segment) (m : State) (a b : ℕ) → AreSound file xs → byte_of file xs a ≡ Some b → is_touched (fold (stored file) m xs) (a / 4096) ≡ true
touched_where file [] m a b w h = absurd (none-some b h)
touched_where file (s ∷ rest) m a b w h = elim (cases_Bool (is_in s a)) [
  | inl t ↦ touched_stays file rest (stored file m s) (a / 4096) (touched_here file m s a (w.placed 0 (omega arith)).in_file t)
  | inr t ↦ let behind : byte_of file rest a ≡ Some b = grind arith in touched_where file rest (stored file m s) a b (rest_sound file s rest w) behind
]

pages_untouched : (m : State) (p k q : ℕ) → ((j : ℕ) → j < k → q ≢ p + j) → is_touched (touch_pages m p k) q ≡ is_touched m q
pages_untouched m p zero q out = refl
pages_untouched m p (suc k) q out = is_touched_other (touch_pages m p k) (p + k) q (out k (omega arith)) ∙ pages_untouched m p k q (λ j l. out j (omega arith))

bytes_untouched : (m : State) (a : ℕ) (bs : List ℕ) (q : ℕ) → ((k : ℕ) → k < length bs → q ≢ (a + k) / 4096) → is_touched (store_bytes m a bs) q ≡ is_touched m q
bytes_untouched m a [] q out = refl
bytes_untouched m a (b ∷ bs) q out =
    let first : q ≢ a / 4096 = λ e. out 0 (omega arith) (omega arith) in
    bytes_untouched (put m a b) (a + 1) bs q (λ k l e. out (suc k) (omega arith) (omega arith))
    ∙ is_touched_put m a b q ∙ is_touched_other m (a / 4096) q first

-- each page of a range has an address of the range
range_untouched : (m : State) (a n q : ℕ) → ((k : ℕ) → k < n → q ≢ (a + k) / 4096) → is_touched (touch_range m a n) q ≡ is_touched m q
range_untouched m a zero q out = refl
range_untouched m a (suc n) q out = pages_untouched m (a / 4096) (span a (suc n)) q (λ j l e. apart j l e) where
  apart : (j : ℕ) → j < span a (suc n) → q ≡ a / 4096 + j → ⊥
  apart zero l e = out 0 (omega arith) (omega arith)
  apart (suc j) l e =
      let last : suc j ≤ (a + n) / 4096 - a / 4096 = grind arith in
      out ((a / 4096 + suc j) * 4096 - a) (omega arith) (omega arith)

none_here : (s : Segment) (file : List ℕ) (rest : List Segment) (a : ℕ) → byte_of file (s ∷ rest) a ≡ None → (is_in s a ≡ false) × (byte_of file rest a ≡ None)
none_here s file rest a h = elim (cases_Bool (is_in s a)) [
  | inl t ↦ absurd (none-some (slice_index file (s.offset + (a - s.at))) (sym h ∙ rw t refl))
  | inr t ↦ (t, grind arith)
]

stored_untouched : (file : List ℕ) (m : State) (s : Segment) (p : ℕ) → s.offset + s.len ≤ length file → ((a : ℕ) → a / 4096 ≡ p → is_in s a ≡ false) → is_touched (stored file m s) p ≡ is_touched m p
stored_untouched file m s p h out =
    let n : length (bytes_of file s) ≡ s.len = length-bytes_of file s h in
    let apart : (k : ℕ) → k < length (bytes_of file s) → p ≢ (s.at + k) / 4096 = λ k l e. in_both s k (omega arith) (out (s.at + k) (sym e)) in
    bytes_untouched (touch_range m s.at (length (bytes_of file s))) s.at (bytes_of file s) p apart ∙ range_untouched m s.at (length (bytes_of file s)) p apart where
      in_both : (s : Segment) (k : ℕ) → k < s.len → is_in s (s.at + k) ≡ false → ⊥
      in_both s k l outside = grind arith

untouched_where : (file : List ℕ) (xs : List Segment) (m : State) (p : ℕ) → AreSound file xs → ((a : ℕ) → a / 4096 ≡ p → byte_of file xs a ≡ None) → is_touched (fold (stored file) m xs) p ≡ is_touched m p
untouched_where file [] m p w out = refl
untouched_where file (s ∷ rest) m p w out =
    untouched_where file rest (stored file m s) p (rest_sound file s rest w) (λ a e. (none_here s file rest a (out a e)).1)
    ∙ stored_untouched file m s p (w.placed 0 (omega arith)).in_file (λ a e. (none_here s file rest a (out a e)).0)

-- ---- the segments of a file without a fault

no_fault : (elf e : Image) (f : Option ElfFault) → or_fault e f ≡ Ok elf → (f ≡ None) × (e ≡ elf)
no_fault elf e None h = (refl, cc)
no_fault elf e (Some f) h = absurd (cc)

are_sound : (file : List ℕ) (elf : Image) → elf_of file ≡ Ok elf → AreSound file elf.segments
are_sound file elf ok =
    let told = no_fault elf (image file) (fault_of file) ok in
    let first : first_fault file (e_phnum file) ≡ None =
    none_before (first_fault file (e_phnum file)) (start_fault (image file)) (none_behind (table_fault file) _ (none_behind (target_fault file) _ (none_behind (identification_fault file) _ told.0))) in
    let e : segments file (e_phnum file) ≡ elf.segments = ap (λ (i : Image). i.segments) told.1 in
    rw (sym e) (table_sound file (e_phnum file) first)

blank_whole : IsWhole []
blank_whole = record { whole = λ k l. absurd (omega arith) }

pub has_bytes_of_file : HasBytesOfFile
has_bytes_of_file file elf limits inputs ok within a =
    let r = blank elf.entry limits inputs in
    ap (λ (m : State). byte_at m a) (memory_of_fold file elf.segments r within) ∙ bytes_stand file elf.segments (memory_of r) a (are_sound file elf ok) blank_whole

pub touches_pages_of_bytes : TouchesPagesOfBytes
touches_pages_of_bytes file elf limits inputs ok within a b h =
    let r = blank elf.entry limits inputs in
    ap (λ (m : State). is_touched m (a / 4096)) (memory_of_fold file elf.segments r within) ∙ touched_where file elf.segments (memory_of r) a b (are_sound file elf ok) h

pub touches_no_other : TouchesNoOther
touches_no_other file elf limits inputs ok within p out =
    let r = blank elf.entry limits inputs in
    ap (λ (m : State). is_touched m p) (memory_of_fold file elf.segments r within) ∙ untouched_where file elf.segments (memory_of r) p (are_sound file elf ok) out

-- ---- the machine of a file that is an executable

magic_of : (short magic : Bool) (f : Option ElfFault) → (if short || not magic then Some NotElf else f) ≡ None → magic ≡ true
magic_of short true f h = refl
magic_of true false f h = absurd (cc)
magic_of false false f h = absurd (cc)

pub opens_executable : OpensExecutable
unfolding opened
opens_executable file elf limits inputs ok =
    let told = no_fault elf (image file) (fault_of file) ok in
    let magic : has_magic file ≡ true = magic_of (nat_lt (length file) 52) (has_magic file) _ (none_before (identification_fault file) _ told.0) in
    ap (λ (b : Bool). if b then elf_opened file limits inputs (elf_of file) else loaded file limits inputs) magic ∙ ap (elf_opened file limits inputs) ok
