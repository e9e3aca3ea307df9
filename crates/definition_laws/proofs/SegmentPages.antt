-- An executable fits where its pages, each counted once, are within the limit.
use Rattle.std.proofs.Common.{ℕ, zero, suc, ◌≡◌, ◌≢◌, ◌+◌, ◌-◌, ◌*◌, ◌/◌, ◌%◌, ◌≤◌, ◌<◌, inl, inr, List, [], ◌∷◌, ◌++◌, Option, Some, None, Result, Ok, Err, Bool, true, false, cond, refl, sym, ap, ◌∙◌, subst, arith, length, map, drop, get_or, set, fold, Contains}
use Rattle.std.specs.Prelude.{◌↔◌}
use Rattle.std.proofs.lemmas.Bool.{cases_eq, le-leb, leb-true, and_from, lt-ltb}
use Rattle.std.proofs.lemmas.List.{length-take}
use Rattle.std.proofs.lemmas.List.Elements.{Contains-push_cases}
use Rattle.farm_kinds.specs.declared.Limits.{Limits}
use Rattle.farm_kinds.specs.declared.NoMemory.{NoMemory}
use Rattle.elf_image.specs.declared.fault.ElfFault.{ElfFault}
use Rattle.elf_image.specs.declared.segment.Segment.{Segment}
use Rattle.elf_image.specs.Header.{has_magic}
use Rattle.elf_image.specs.Image.{Image, elf_of, is_in, byte_of}
use Rattle.rv_memory.specs.declared.page.Page.{Page}
use Rattle.rv_memory.specs.Paged.{State, zeros, no_page, place, fits, is_touched, touch, touch_pages, touch_range, span, put, store_bytes}
use Rattle.rv_memory.proofs.Touching.{is_touched_by, touched_by}
use Rattle.rv_memory.proofs.Ranges.{limit-touch, limit-touch_pages, touched_range}
use Rattle.rv_machine.specs.declared.ending.Ending.{Ending}
use Rattle.rv_machine.specs.declared.ending.Ending.TheVariants.{Memory}
use Rattle.rv_machine.specs.Inputs.{Inputs}
use Rattle.rv_machine.specs.Running.{Run, blank, loaded, placed_where}
use Rattle.rv_machine.specs.Stepping as stepping
use Rattle.case_run.specs.Images.{opened, elf_opened, bytes_of, with_segment, with_segments}
use Rattle.case_run.specs.Laws.{Fits, memory_of}
use Rattle.case_run.proofs.Opening.{touches_pages_of_bytes, opens_executable}
use Rattle.package_folder.proofs.Members.{first_in, later_in, first_or_later, none_in}
use Rattle.definition_laws.specs.PageSets.{AreDistinct, ArePages}

-- ---- numbers that stand once are no more than those that they are among

-- one number less, and all others
record Without (ns : List ℕ) (n : ℕ) : Type 0 where
  pub others : List ℕ
  pub fewer : length ns ≡ length others + 1
  pub keeps : (m : ℕ) → Contains ns m → m ≢ n → Contains others m

without : (ns : List ℕ) (n : ℕ) → Contains ns n → Without ns n
without [] n h = absurd (none_in n h)
without (x ∷ ns) n h = elim (first_or_later x n ns h) [
  | inl same ↦ record {
    others = ns;
    fewer = omega arith;
    keeps = λ m k ne. elim (first_or_later x m ns k) [ inl is ↦ absurd (ne (sym is ∙ same)) | inr later ↦ later ];
  }
  | inr later ↦
      let rest = without ns n later in
      let count = rest.fewer in
      record {
        others = x ∷ rest.others;
        fewer = omega (arith, count);
        keeps = λ m k ne. elim (first_or_later x m ns k) [
          | inl is ↦ subst (λ (y : ℕ). Contains (x ∷ rest.others) y) is (first_in x rest.others)
          | inr there ↦ later_in x m rest.others (rest.keeps m there ne)
        ];
      }
]

no_more : (ns ms : List ℕ) → AreDistinct ns → ((n : ℕ) → Contains ns n → Contains ms n) → length ns ≤ length ms
no_more [] ms once among = omega arith
no_more (n ∷ ns) ms once among =
    let rest = without ms n (among n (first_in n ns)) in
    let count = rest.fewer in
    let below = no_more ns rest.others once.1 (λ m h. rest.keeps m (among m (later_in n m ns h)) (λ same. once.0 (subst (λ (y : ℕ). Contains ns y) same h))) in
    omega (arith, count, below)

distinct_push : (ns : List ℕ) (n : ℕ) → AreDistinct ns → ¬ Contains ns n → AreDistinct (ns ++ n ∷ [])
distinct_push [] n once out = (none_in n, tt)
distinct_push (x ∷ ns) n once out = (
  (λ h. elim (Contains-push_cases ns n x h) [
    | inl there ↦ once.0 there
    | inr same ↦ out (subst (λ (y : ℕ). Contains (x ∷ ns) y) (sym same) (first_in x ns))
  ]),
  distinct_push ns n once.1 (λ h. out (later_in x n ns h)),
)

-- ---- the numbers of the pages of a memory

abbrev numbers : List Page → List ℕ
numbers pages = map (λ (p : Page). p.number) pages

place_there : (q : Page) (ps : List Page) (n : ℕ) → q.number ≢ n → place (q ∷ ps) n ≡ place ps n + 1
place_there q ps n ne = grind arith

contained : (ps : List Page) (n : ℕ) → place ps n < length ps → Contains (numbers ps) n
contained [] n lt = absurd (omega arith)
contained (q ∷ ps) n lt = elim (cases_eq q.number n) [
  | inl same ↦ subst (λ (y : ℕ). Contains (numbers (q ∷ ps)) y) same (first_in q.number (numbers ps))
  | inr ne ↦ let there = place_there q ps n ne in later_in q.number n (numbers ps) (contained ps n (omega (arith, lt, there)))
]

place_first : (q : Page) (ps : List Page) (n : ℕ) → q.number ≡ n → place (q ∷ ps) n ≡ 0
place_first q ps n same = grind arith

placed_at : (ps : List Page) (n : ℕ) → Contains (numbers ps) n → place ps n < length ps
placed_at [] n h = absurd (none_in n h)
placed_at (q ∷ ps) n h = elim (cases_eq q.number n) [
  | inl same ↦ let zero_there = place_first q ps n same in omega (arith, zero_there)
  | inr ne ↦
      let there = place_there q ps n ne in
      elim (first_or_later q.number n (numbers ps) h) [
        | inl same ↦ absurd (ne same)
        | inr later ↦ let rest = placed_at ps n later in omega (arith, rest, there)
      ]
]

numbers_push : (ps : List Page) (q : Page) → numbers (ps ++ q ∷ []) ≡ numbers ps ++ q.number ∷ []
numbers_push [] q = refl
numbers_push (p ∷ ps) q = ap (λ (z : List ℕ). p.number ∷ z) (numbers_push ps q)

numbers_set : (ps : List Page) (k : ℕ) (q : Page) → q.number ≡ (get_or ps k no_page).number → numbers (set ps k q) ≡ numbers ps
numbers_set [] k q same = refl
numbers_set (p ∷ ps) zero q same = ap (λ (n : ℕ). n ∷ numbers ps) same
numbers_set (p ∷ ps) (suc k) q same = ap (λ (z : List ℕ). p.number ∷ z) (numbers_set ps k q same)

length_numbers : (ps : List Page) → length (numbers ps) ≡ length ps
length_numbers [] = refl
length_numbers (p ∷ ps) = let rest = length_numbers ps in omega (arith, rest)

distinct_touch : (m : State) (n : ℕ) → AreDistinct (numbers m.pages) → AreDistinct (numbers (touch m n).pages)
distinct_touch m n once = by (is_touched m n) refl
  where
    by : (t : Bool) → is_touched m n ≡ t → AreDistinct (numbers (cond t m (record { limit = m.limit; pages = m.pages ++ record { number = n; bytes = zeros } ∷ [] })).pages)
    by true e = once
    by false e =
        subst AreDistinct (sym (numbers_push m.pages (record { number = n; bytes = zeros })))
        (distinct_push (numbers m.pages) n once (λ h. let bad : false ≡ true = sym e ∙ touched_by m n (placed_at m.pages n h) in let no' : ⊥ = cc in no'))

numbers_put : (m : State) (a b : ℕ) → numbers (put m a b).pages ≡ numbers (touch m (a / 4096)).pages
numbers_put m a b =
    let t = touch m (a / 4096) in
    let k = place t.pages (a / 4096) in
    let q = get_or t.pages k no_page in
    numbers_set t.pages k (record { number = q.number; bytes = set q.bytes (a % 4096) b }) refl

distinct_store : (m : State) (a : ℕ) (bs : List ℕ) → AreDistinct (numbers m.pages) → AreDistinct (numbers (store_bytes m a bs).pages)
distinct_store m a [] once = once
distinct_store m a (b ∷ bs) once = distinct_store (put m a b) (a + 1) bs (subst AreDistinct (sym (numbers_put m a b)) (distinct_touch m (a / 4096) once))

distinct_pages : (m : State) (p k : ℕ) → AreDistinct (numbers m.pages) → AreDistinct (numbers (touch_pages m p k).pages)
distinct_pages m p zero once = once
distinct_pages m p (suc k) once = distinct_touch (touch_pages m p k) (p + k) (distinct_pages m p k once)

-- ---- all pages of a memory are among some numbers

abbrev AreAmong : State → List ℕ → Type 0
AreAmong m ns = (n : ℕ) → Contains (numbers m.pages) n → Contains ns n

among_touch : (m : State) (p : ℕ) (ns : List ℕ) → AreAmong m ns → Contains ns p → AreAmong (touch m p) ns
among_touch m p ns among there = by (is_touched m p)
  where
    by : (t : Bool) → (n : ℕ) → Contains (numbers (cond t m (record { limit = m.limit; pages = m.pages ++ record { number = p; bytes = zeros } ∷ [] })).pages) n → Contains ns n
    by true n h = among n h
    by false n h =
        elim (Contains-push_cases (numbers m.pages) p n (subst (λ (z : List ℕ). Contains z n) (numbers_push m.pages (record { number = p; bytes = zeros })) h)) [
          | inl old ↦ among n old
          | inr same ↦ subst (λ (y : ℕ). Contains ns y) same there
        ]

among_store : (m : State) (a : ℕ) (bs : List ℕ) (ns : List ℕ) → AreAmong m ns → ((k : ℕ) → k < length bs → Contains ns ((a + k) / 4096)) → AreAmong (store_bytes m a bs) ns
among_store m a [] ns among there = among
among_store m a (b ∷ bs) ns among there =
    let first' : Contains ns (a / 4096) = subst (λ (x : ℕ). Contains ns (x / 4096)) (let e : a + 0 ≡ a = omega arith in e) (there 0 (omega arith)) in
    let put_among : AreAmong (put m a b) ns = λ n h. among_touch m (a / 4096) ns among first' n (subst (λ (z : List ℕ). Contains z n) (numbers_put m a b) h) in
    among_store (put m a b) (a + 1) bs ns put_among (λ k lt. subst (λ (x : ℕ). Contains ns (x / 4096)) (let e : a + suc k ≡ a + 1 + k = omega arith in e) (there (suc k) (omega arith)))

among_pages : (m : State) (p k : ℕ) (ns : List ℕ) → AreAmong m ns → ((j : ℕ) → j < k → Contains ns (p + j)) → AreAmong (touch_pages m p k) ns
among_pages m p zero ns among there = among
among_pages m p (suc k) ns among there = among_touch (touch_pages m p k) (p + k) ns (among_pages m p k ns among (λ j lt. there j (omega arith))) (there k (omega arith))

-- each page of a range has an address of it
in_range : (a n : ℕ) (ns : List ℕ) → ((k : ℕ) → k < n → Contains ns ((a + k) / 4096)) → (j : ℕ) → j < span a n → Contains ns (a / 4096 + j)
in_range a zero ns there j lt = absurd (omega arith)
in_range a (suc n) ns there zero lt = subst (λ (x : ℕ). Contains ns x) (let e : (a + 0) / 4096 ≡ a / 4096 + 0 = omega arith in e) (there 0 (omega arith))
in_range a (suc n) ns there (suc j) lt =
    let last : suc j ≤ (a + n) / 4096 - a / 4096 = grind arith in
    let k : ℕ = (a / 4096 + suc j) * 4096 - a in
    subst (λ (x : ℕ). Contains ns x) (let e : (a + ((a / 4096 + suc j) * 4096 - a)) / 4096 ≡ a / 4096 + suc j = omega arith in e) (there ((a / 4096 + suc j) * 4096 - a) (omega arith))

among_range : (m : State) (a n : ℕ) (ns : List ℕ) → AreAmong m ns → ((k : ℕ) → k < n → Contains ns ((a + k) / 4096)) → AreAmong (touch_range m a n) ns
among_range m a n ns among there = among_pages m (a / 4096) (span a n) ns among (in_range a n ns there)

-- no more pages than numbers
few_pages : (m : State) (ns : List ℕ) → AreDistinct (numbers m.pages) → AreAmong m ns → length m.pages ≤ length ns
few_pages m ns once among = let n = length_numbers m.pages in let few = no_more (numbers m.pages) ns once among in omega (arith, n, few)

-- ---- the limit stays

limit_put : (m : State) (a b : ℕ) → (put m a b).limit ≡ m.limit
limit_put m a b = limit-touch m (a / 4096)

limit_store : (m : State) (a : ℕ) (bs : List ℕ) → (store_bytes m a bs).limit ≡ m.limit
limit_store m a [] = refl
limit_store m a (b ∷ bs) = limit_store (put m a b) (a + 1) bs ∙ limit_put m a b

abbrev filled_memory : State → ℕ → List ℕ → State
filled_memory m at bytes = store_bytes (touch_range m at (length bytes)) at bytes

limit_filled : (m : State) (at : ℕ) (bytes : List ℕ) → (filled_memory m at bytes).limit ≡ m.limit
limit_filled m at bytes = limit_store (touch_range m at (length bytes)) at bytes ∙ limit-touch_pages m (at / 4096) (span at (length bytes))

-- ---- a memory that is filled has the pages of the range

distinct_filled : (m : State) (at : ℕ) (bytes : List ℕ) → AreDistinct (numbers m.pages) → AreDistinct (numbers (filled_memory m at bytes).pages)
distinct_filled m at bytes once = distinct_store (touch_range m at (length bytes)) at bytes (distinct_pages m (at / 4096) (span at (length bytes)) once)

among_filled : (m : State) (at : ℕ) (bytes ns : List ℕ) → AreAmong m ns → ((k : ℕ) → k < length bytes → Contains ns ((at + k) / 4096)) → AreAmong (filled_memory m at bytes) ns
among_filled m at bytes ns among there = among_store (touch_range m at (length bytes)) at bytes ns (among_range m at (length bytes) ns among there) there

no_more_filled : (m : State) (at : ℕ) (bytes : List ℕ) → AreDistinct (numbers m.pages) → length (filled_memory m at bytes).pages ≤ length (touch_range m at (length bytes)).pages
no_more_filled m at bytes once =
    let range = touch_range m at (length bytes) in
    let n = length_numbers range.pages in
    let few = few_pages (filled_memory m at bytes) (numbers range.pages) (distinct_filled m at bytes once)
    (among_store range at bytes (numbers range.pages) (λ k h. h) (λ k lt. contained range.pages ((at + k) / 4096) (is_touched_by range.pages ((at + k) / 4096) (touched_range m at (length bytes) k lt)))) in
    omega (arith, n, few)

-- ---- the segments one after the other

abbrev going : stepping.State → Run
going s = record { state = s; answer = None }

abbrev ended : stepping.State → Run
ended s = record { state = s; answer = Some (Ok Memory) }

abbrev memory_in : stepping.State → State
memory_in s = s.hart.memory

stays_ended : (file : List ℕ) (xs : List Segment) (s : stepping.State) → (fold (with_segment file) (ended s) xs).answer ≡ Some (Ok Memory)
stays_ended file [] s = refl
stays_ended file (x ∷ xs) s = stays_ended file xs s

-- the numbers have the pages of the bytes of each segment
abbrev Covers : List ℕ → List Segment → List ℕ → Type 0
Covers file xs ns = (s : Segment) → Contains xs s → (k : ℕ) → k < length (bytes_of file s) → Contains ns ((s.at + k) / 4096)

all_fit : (file : List ℕ) (xs : List Segment) (s : stepping.State) (ns : List ℕ) → Covers file xs ns → AreDistinct (numbers (memory_in s).pages) → AreAmong (memory_in s) ns
    → length ns ≤ (memory_in s).limit → Fits (fold (with_segment file) (going s) xs)
all_fit file [] s ns covers once among few = refl
all_fit file (x ∷ xs) s ns covers once among few =
    let m = memory_in s in
    let bytes = bytes_of file x in
    let here = covers x (first_in x xs) in
    let range_few = few_pages (touch_range m x.at (length bytes)) ns (distinct_pages m (x.at / 4096) (span x.at (length bytes)) once) (among_range m x.at (length bytes) ns among here) in
    let fit : fits m x.at (length bytes) ≡ true = le-leb (length (touch_range m x.at (length bytes)).pages) m.limit (omega (arith, range_few, few)) in
    let limit = limit_filled m x.at bytes in
    let rest : Fits (fold (with_segment file) (going (stepping.filled x.at bytes s)) xs)
    = all_fit file xs (stepping.filled x.at bytes s) ns (λ t h. covers t (later_in x t xs h)) (distinct_filled m x.at bytes once) (among_filled m x.at bytes ns among here) (omega (arith, few, limit)) in
    subst (λ (t : Bool). Fits (fold (with_segment file) (cond t (going (stepping.filled x.at bytes s)) (ended s)) xs)) (sym fit) rest

-- the pages are within the limit
record IsWithin (m : State) : Type 0 where
  pub once : AreDistinct (numbers m.pages)
  pub few : length m.pages ≤ m.limit

stays_within : (file : List ℕ) (xs : List Segment) (s : stepping.State) → IsWithin (memory_in s) → Fits (fold (with_segment file) (going s) xs) → IsWithin (memory_of (fold (with_segment file) (going s) xs))
stays_within file [] s h done = h
stays_within file (x ∷ xs) s h done = by (fits m x.at (length bytes)) refl done (stays_within file xs (stepping.filled x.at bytes s))
  where
    m : State
    m = memory_in s

    bytes : List ℕ
    bytes = bytes_of file x

    by : (t : Bool) → fits (memory_in s) x.at (length (bytes_of file x)) ≡ t → Fits (fold (with_segment file) (cond t (going (stepping.filled x.at (bytes_of file x) s)) (ended s)) xs)
        → (IsWithin (memory_in (stepping.filled x.at (bytes_of file x) s)) → Fits (fold (with_segment file) (going (stepping.filled x.at (bytes_of file x) s)) xs) → IsWithin (memory_of (fold (with_segment file) (going (stepping.filled x.at (bytes_of file x) s)) xs)))
        → IsWithin (memory_of (fold (with_segment file) (cond t (going (stepping.filled x.at (bytes_of file x) s)) (ended s)) xs))
    by true e f rest =
        let limit = limit_filled (memory_in s) x.at (bytes_of file x) in
        let few = leb-true (length (touch_range (memory_in s) x.at (length (bytes_of file x))).pages) (memory_in s).limit e in
        let filled_few = no_more_filled (memory_in s) x.at (bytes_of file x) h.once in
        rest (record { once = distinct_filled (memory_in s) x.at (bytes_of file x) h.once; few = omega (arith, limit, few, filled_few) }) f
    by false e f rest = let both : None ≡ Some (Ok Memory) = sym f ∙ stays_ended file xs s in let no' : ⊥ = cc in absurd no'

limit_stays : (file : List ℕ) (xs : List Segment) (r : Run) → (memory_of (fold (with_segment file) r xs)).limit ≡ (memory_of r).limit
limit_stays file [] r = refl
limit_stays file (x ∷ xs) r = limit_stays file xs (with_segment file r x) ∙ by r.answer
  where
    by : (o : Option (Result Ending NoMemory)) → (memory_of (placed_where o x.at (bytes_of file x) r)).limit ≡ (memory_of r).limit
    by None = elim (fits (memory_of r) x.at (length (bytes_of file x))) as (λ t. (memory_of (cond t (record r { state = stepping.filled x.at (bytes_of file x) r.state }) (record r { answer = Some (Ok Memory) }))).limit ≡ (memory_of r).limit) [
      | true ↦ limit_filled (memory_of r) x.at (bytes_of file x)
      | false ↦ refl
    ]
    by (Some answer) = refl

-- ---- an executable

byte_there : (file : List ℕ) (xs : List Segment) (s : Segment) (a : ℕ) → Contains xs s → is_in s a ≡ true → (b : ℕ) × (byte_of file xs a ≡ Some b)
byte_there file [] s a h e = absurd (none_in s h)
byte_there file (x ∷ xs) s a h e = by (is_in x a) refl (λ later. byte_there file xs s a later e)
  where
    by : (t : Bool) → is_in x a ≡ t → (Contains xs s → (b : ℕ) × (byte_of file xs a ≡ Some b)) → (b : ℕ) × (cond t (Some (get_or file (x.offset + (a - x.at)) 0)) (byte_of file xs a) ≡ Some b)
    by true f rest = (get_or file (x.offset + (a - x.at)) 0, refl)
    by false f rest = elim (first_or_later x s xs h) [
      | inl same ↦ let bad : false ≡ true = sym f ∙ (ap (λ (y : Segment). is_in y a) same ∙ e) in let no' : ⊥ = cc in absurd no'
      | inr later ↦ rest later
    ]

covers : (file : List ℕ) (elf : Image) (pages : List ℕ) → ArePages file elf pages → Covers file elf.segments pages
covers file elf pages are s h k lt =
    let len = length-take s.len (drop s.offset file) in
    let small : k < s.len = omega (arith, lt, len) in
    let inside : is_in s (s.at + k) ≡ true = and_from _ _ (le-leb s.at (s.at + k) (omega arith)) (lt-ltb (s.at + k) (s.at + s.len) (omega (arith, small))) in
    let b = byte_there file elf.segments s (s.at + k) h inside in
    (are.each ((s.at + k) / 4096)).1 (s.at + k, b.0, refl, b.1)

fits_if : (file : List ℕ) (elf : Image) (limits : Limits) (inputs : Inputs) (pages : List ℕ) → ArePages file elf pages → length pages ≤ limits.pages → Fits (with_segments file elf limits inputs)
fits_if file elf limits inputs pages are few = all_fit file elf.segments (stepping.start elf.entry limits inputs) pages (covers file elf pages are) tt (λ n h. absurd (none_in n h)) few

few_if : (file : List ℕ) (elf : Image) (limits : Limits) (inputs : Inputs) (pages : List ℕ) → elf_of file ≡ Ok elf → ArePages file elf pages → Fits (with_segments file elf limits inputs) → length pages ≤ limits.pages
few_if file elf limits inputs pages ok are done =
    let start = stepping.start elf.entry limits inputs in
    let run = with_segments file elf limits inputs in
    let within = stays_within file elf.segments start (record { once = tt; few = omega arith }) done in
    let limit = limit_stays file elf.segments (going start) in
    let count = length_numbers (memory_of run).pages in
    let few = no_more pages (numbers (memory_of run).pages) are.once (λ n h.
    let there = (are.each n).0 h in
    let touched = touches_pages_of_bytes file elf limits inputs ok done there.0 there.1 there.3 in
    subst (λ (p : ℕ). Contains (numbers (memory_of run).pages) p) there.2 (contained (memory_of run).pages (there.0 / 4096) (is_touched_by (memory_of run).pages (there.0 / 4096) touched))) in
    let most = within.few in
    omega (arith, few, count, most, limit)

pub fits_by_pages : (file : List ℕ) (elf : Image) (limits : Limits) (inputs : Inputs) (pages : List ℕ) → elf_of file ≡ Ok elf → ArePages file elf pages → Fits (opened file limits inputs) ↔ (length pages ≤ limits.pages)
fits_by_pages file elf limits inputs pages ok are =
    let is = opens_executable file elf limits inputs ok in (
      (λ done. few_if file elf limits inputs pages ok are (subst Fits is done)),
      (λ few. subst Fits (sym is) (fits_if file elf limits inputs pages are few)),
    )

pub limit_is : (file : List ℕ) (limits : Limits) (inputs : Inputs) → (memory_of (opened file limits inputs)).limit ≡ limits.pages
unfolding opened
limit_is file limits inputs = by (has_magic file)
  where
    executable : (r : Result Image ElfFault) → (memory_of (elf_opened file limits inputs r)).limit ≡ limits.pages
    executable (Ok elf) = limit_stays file elf.segments (blank elf.entry limits inputs)
    executable (Err fault) = refl

    raw : (t : Bool) → (memory_of (cond t (record { state = stepping.bare limits inputs; answer = Some (Ok Memory) }) (record { state = stepping.opening file limits inputs; answer = None }))).limit ≡ limits.pages
    raw true = refl
    raw false = limit_filled (memory_in (stepping.bare limits inputs)) 0x10000 file

    by : (t : Bool) → (memory_of (cond t (elf_opened file limits inputs (elf_of file)) (loaded file limits inputs))).limit ≡ limits.pages
    by true = executable (elf_of file)
    by false = raw (stepping.is_too_large file limits)
